use Rattle.std.proofs.Common.{subst}
use Rattle.key_table.specs.Tables.{Table}
use Rattle.euclidc_commands.specs.Findings.{IsWritable}
use Rattle.euclidc_commands.proofs.FindingLemmas.{writable}
use Rattle.euclidc_commands.proofs.report.put_target.Goals as goal

pub put_report-requires : goal.put_report-requires
put_report-requires c =
    let T : Table → Type 0 = λ t. IsWritable t c.in_ok-report.report in
    subst T c.requires.table (writable c.fits_law.ensures.atoms c.args.targets.now c.args.budget c.args.target c.in_ok-report.report c.in_ok-report.ensures)
