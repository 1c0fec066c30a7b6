use Rattle.std.proofs.Common.{[], ◌∷◌}
use Rattle.euclidc_commands.specs.CommandViews.{source_view}
use Rattle.euclidc_commands.specs.TableFiles.{table_in, table_names}
use Rattle.euclidc_commands.specs.Decide.{run_by, Decides}
use Rattle.euclidc_commands.proofs.Joined.{concludes_next}
use Rattle.euclidc_commands.proofs.decide.run_decide.Goals as goal

pub returns : goal.returns
returns g c =
    let source = source_view c.args.source in
    let p = c.args.program_name.now in
    let pay = c.args.payment_name.now in
    concludes_next (table_in source) (λ table. run_by table p pay) Decides (table_names source) p (pay ∷ []) (g.F.Shelf.seen c.args.shelf.now) (g.F.Shelf.seen c.read_table.new.shelf) (g.F.Shelf.seen c.decide_by.new.shelf)
    c.in_ok-table.table c.decide_by.result c.in_ok-table.ensures.0 c.in_ok-table.ensures.1 c.decide_by.ensures
