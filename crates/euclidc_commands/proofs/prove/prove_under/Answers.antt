use Rattle.euclidc_commands.proofs.FindingLemmas.{writable_by}
use Rattle.euclidc_commands.proofs.prove.prove_under.Goals as goal

pub put_report-requires : goal.put_report-requires
put_report-requires c =
    writable_by c.fits_law.ensures.atoms c.args.table.now c.in_ok-program.program c.args.typed.now c.in_ok-connectors.connectors c.in_ok-targets.targets c.args.budget c.args.target c.in_ok-report.report
    c.in_ok-program.ensures.program c.requires.table c.in_ok-targets.ensures c.in_ok-report.ensures
