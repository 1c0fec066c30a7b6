use Rattle.euclidc_commands.proofs.FindingLemmas.{reached}
use Rattle.euclidc_commands.proofs.laws.reached_law.Goals as goal

pub returns : goal.returns
returns c = reached
