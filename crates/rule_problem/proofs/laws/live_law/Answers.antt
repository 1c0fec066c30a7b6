use Rattle.rule_problem.proofs.Lively.{some, found}
use Rattle.rule_problem.proofs.laws.live_law.Goals as goal

pub returns-clause-some : goal.returns-clause-some
returns-clause-some c = some c.atom_law.ensures c.undecided_law.ensures

pub returns-clause-found : goal.returns-clause-found
returns-clause-found c = found c.atom_law.ensures c.undecided_law.ensures
