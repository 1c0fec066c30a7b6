use Rattle.std.proofs.Common.{[], ◌∷◌}
use Rattle.euclidc_commands.specs.CommandViews.{source_view}
use Rattle.euclidc_commands.specs.TableFiles.{table_in, table_names}
use Rattle.euclidc_commands.specs.Check.{run_by, Judged}
use Rattle.euclidc_commands.proofs.Joined.{concludes_next}
use Rattle.euclidc_commands.proofs.check.run_check.Goals as goal

pub returns : goal.returns
returns g c =
    let source = source_view c.args.source in
    let p = c.args.program_name.now in
    let s = c.args.settings_name.now in
    let t = c.args.target in
    let certificate = c.args.certificate_name.now in
    concludes_next (table_in source) (λ table. run_by table p s t certificate) Judged (table_names source) p (s ∷ certificate ∷ []) (g.F.Shelf.seen c.args.shelf.now) (g.F.Shelf.seen c.read_table.new.shelf) (g.F.Shelf.seen c.check_by.new.shelf)
    c.in_ok-table.table c.check_by.result c.in_ok-table.ensures.0 c.in_ok-table.ensures.1 c.check_by.ensures
