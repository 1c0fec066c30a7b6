use Rattle.std.proofs.Common.{take}
use Rattle.std.specs.List.{flat_map}
use Rattle.rule_report.specs.Paths.{statement_paths}
use Rattle.rule_report.specs.Numbered.{rule_numbers, IsGrown, ArePathsOf}
use Rattle.rule_report.proofs.numbered.+statements.Given as goal

abbrev pub invariant-number_statements-loop-statement : goal.invariant-number_statements-loop-statement
invariant-number_statements-loop-statement l = IsGrown l.fn.atoms.keys l.atoms.keys × ArePathsOf l.atoms.keys (rule_numbers l.numbered) (flat_map statement_paths (take l.statement-index l.statements))
