use Rattle.std.proofs.Common.{sym, ◌∙◌}
use Rattle.contradiction_checker.proofs.Findings.{verdict_right}
use Rattle.contradiction_checker.proofs.premises.Premises.verdict_at.Goals as goal

pub returns-in-Some-clause-value : goal.returns-in-Some-clause-value
returns-in-Some-clause-value c =
    let p = c.args.self.now in
    verdict_right p.table.now p.atoms.now p.trail.now c.args.atom.now c.known_at.result c.in-Some.verdict c.known_at.ensures (sym c.verdict.ensures ∙ c.in-Some.is)

pub returns-in-Some-clause-found : goal.returns-in-Some-clause-found
returns-in-Some-clause-found c = record {
  for_all = λ asked asks before. before;
}
