use Rattle.rule_problem.proofs.OneVerdict.{one_verdict}
use Rattle.rule_problem.proofs.laws.goal_law.Goals as goal

pub returns : goal.returns
returns c = one_verdict c.agree_law.ensures
