use Rattle.std.proofs.Common.{◌+◌, ◌*◌, map, take}
use Rattle.rule_report.specs.Paths.{behind}
use Rattle.rule_report.specs.Numbered.{atoms_at, rule_numbers}
use Rattle.rule_report.specs.Taken.{IsTaking, IsAdded}
use Rattle.rule_report.proofs.paths.+statements.Given as goal
use Rattle.rule_report.proofs.Weights.{weight, weights}

abbrev pub invariant-push_statements-loop-statement : goal.invariant-push_statements-loop-statement
invariant-push_statements-loop-statement l = IsTaking l.shared l.taken
    × IsAdded l.fn.taken.atoms (map (atoms_at l.shared) (behind l.above (rule_numbers (take l.statement-index l.statements)))) l.taken.atoms l.fn.paths l.paths

abbrev pub decreases-push_statements : goal.decreases-push_statements
decreases-push_statements l = 2 * weights l.statements.now + 1

abbrev pub decreases-push_statement : goal.decreases-push_statement
decreases-push_statement l = 2 * weight l.statement.now
