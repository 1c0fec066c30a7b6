use Rattle.rule_problem.proofs.Bounds.{most_splits, no_trace}
use Rattle.rule_problem.proofs.laws.bound_law.Goals as goal

pub returns-clause-splits : goal.returns-clause-splits
returns-clause-splits c = most_splits c.atom_law.ensures c.forces_law.ensures.assumed c.undecided_law.ensures

pub returns-clause-traces : goal.returns-clause-traces
returns-clause-traces c = no_trace c.atom_law.ensures c.forces_law.ensures.assumed c.undecided_law.ensures
