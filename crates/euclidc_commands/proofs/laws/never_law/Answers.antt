use Rattle.euclidc_commands.proofs.FindingLemmas.{never}
use Rattle.euclidc_commands.proofs.laws.never_law.Goals as goal

pub returns : goal.returns
returns c = never c.proof_law.ensures
