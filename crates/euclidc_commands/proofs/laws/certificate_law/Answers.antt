use Rattle.euclidc_commands.proofs.Printed.{certificate_good}
use Rattle.euclidc_commands.proofs.laws.certificate_law.Goals as goal

pub returns : goal.returns
returns c = certificate_good c.reading_law.ensures.certificate
