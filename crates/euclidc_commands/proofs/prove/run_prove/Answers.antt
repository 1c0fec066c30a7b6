use Rattle.std.proofs.Common.{[], ◌∷◌}
use Rattle.euclidc_commands.specs.CommandViews.{source_view}
use Rattle.euclidc_commands.specs.TableFiles.{table_in, table_names}
use Rattle.euclidc_commands.specs.Prove.{run_by, Proved}
use Rattle.euclidc_commands.proofs.Joined.{concludes_next}
use Rattle.euclidc_commands.proofs.prove.run_prove.Goals as goal

pub returns : goal.returns
returns g c =
    let source = source_view c.args.source in
    let p = c.args.program_name.now in
    let s = c.args.settings_name.now in
    let t = c.args.target in
    concludes_next (table_in source) (λ table. run_by table p s t) (Proved t c.args.budget) (table_names source) p (s ∷ []) (g.F.Shelf.seen c.args.shelf.now) (g.F.Shelf.seen c.read_table.new.shelf) (g.F.Shelf.seen c.prove_by.new.shelf)
    c.in_ok-table.table c.prove_by.result c.in_ok-table.ensures.0 c.in_ok-table.ensures.1 c.prove_by.ensures
