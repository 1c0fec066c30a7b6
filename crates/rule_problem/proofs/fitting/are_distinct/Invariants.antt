use Rattle.std.proofs.Common.{◌≡◌, drop}
use Rattle.rule_problem.specs.Distinct.{are_distinct}
use Rattle.rule_problem.proofs.fitting.are_distinct.Given as goal

abbrev pub invariant-loop-place : goal.invariant-loop-place
invariant-loop-place l = are_distinct l.atoms ≡ are_distinct (drop l.place l.atoms)
