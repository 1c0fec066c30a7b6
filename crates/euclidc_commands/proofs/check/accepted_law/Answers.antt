use Rattle.euclidc_commands.proofs.CheckLemmas.{accepted}
use Rattle.euclidc_commands.proofs.check.accepted_law.Goals as goal

pub returns : goal.returns
returns c = accepted c.reaches_law.ensures c.proof_law.ensures
