use Rattle.rule_problem.proofs.Fewer.{proper_less}
use Rattle.rule_problem.proofs.laws.drop_law.Goals as goal

pub returns : goal.returns
returns c = proper_less c.atom_law.ensures c.forces_law.ensures.more c.more_law.ensures
