use Rattle.std.proofs.Common.{[], ◌∷◌}
use Rattle.euclidc_commands.specs.CommandViews.{source_view}
use Rattle.euclidc_commands.specs.TableFiles.{table_in, table_names}
use Rattle.euclidc_commands.specs.Report.{run_by, Reported}
use Rattle.euclidc_commands.proofs.Joined.{concludes_next}
use Rattle.euclidc_commands.proofs.report.run_report.Goals as goal

pub returns : goal.returns
returns g c =
    let source = source_view c.args.source in
    let p = c.args.program_name.now in
    let s = c.args.settings_name.now in
    concludes_next (table_in source) (λ table. run_by table p s) (Reported c.args.budget) (table_names source) p (s ∷ []) (g.F.Shelf.seen c.args.shelf.now) (g.F.Shelf.seen c.read_table.new.shelf) (g.F.Shelf.seen c.report_by.new.shelf)
    c.in_ok-table.table c.report_by.result c.in_ok-table.ensures.0 c.in_ok-table.ensures.1 c.report_by.ensures
