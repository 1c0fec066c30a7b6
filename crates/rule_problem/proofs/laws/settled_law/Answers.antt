use Rattle.rule_problem.proofs.Settled.{settled}
use Rattle.rule_problem.proofs.laws.settled_law.Goals as goal

pub returns : goal.returns
returns c = settled c.option_law.ensures c.slot_law.ensures.same c.sound_law.ensures
