use Rattle.std.proofs.Common.{[]}
use Rattle.rule_problem.specs.Reasons.{Holds}
use Rattle.rule_problem.proofs.Outcome.{one_outcome}
use Rattle.rule_problem.proofs.laws.outcome_law.Goals as goal

pub returns : goal.returns
returns c = λ table problem certificate r s first second. one_outcome certificate.atoms certificate.items (Holds table problem certificate.atoms) [] 0 r s first second
