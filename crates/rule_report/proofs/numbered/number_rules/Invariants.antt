use Rattle.std.proofs.Common.{map, take}
use Rattle.rule_report.specs.Paths.{rule_paths}
use Rattle.rule_report.specs.Numbered.{rule_numbers, IsGrown, AreRulesOf}
use Rattle.rule_report.proofs.numbered.number_rules.Given as goal

abbrev pub invariant-loop-rule : goal.invariant-loop-rule
invariant-loop-rule l = IsGrown l.fn.atoms.keys l.atoms.keys × AreRulesOf l.atoms.keys (map rule_numbers l.numbered) (map rule_paths (take l.rule-index l.rules))
