use Rattle.std.proofs.Common.{sym, ◌∙◌}
use Rattle.contradiction_checker.proofs.premises.Premises.is_left_at.Goals as goal

pub returns-in-Some-clause-value : goal.returns-in-Some-clause-value
returns-in-Some-clause-value c = c.known_at-known.ensures.of c.args.truth c.in-Some.left (sym c.left.ensures ∙ c.in-Some.is)

pub returns-in-Some-clause-found : goal.returns-in-Some-clause-found
returns-in-Some-clause-found c = record {
  for_all = λ asked asks before. before;
}
