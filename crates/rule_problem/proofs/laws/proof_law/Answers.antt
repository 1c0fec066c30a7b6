use Rattle.rule_problem.proofs.Soundness.{sound}
use Rattle.rule_problem.proofs.laws.proof_law.Goals as goal

pub returns : goal.returns
returns c = sound c.option_law.ensures c.slot_law.ensures.same c.sound_law.ensures
