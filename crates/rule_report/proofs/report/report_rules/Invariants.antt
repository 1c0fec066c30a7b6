use Rattle.std.proofs.Common.{map}
use Rattle.std.specs.List.{AllZip, range_with_len}
use Rattle.euclid_ast.specs.declared.meaning.Choice.TheVariants.{Rule}
use Rattle.rule_report.specs.Answers.{IsAnswerOn}
use Rattle.rule_report.proofs.report.report_rules.Given as goal

abbrev pub invariant-loop-rule : goal.invariant-loop-rule
invariant-loop-rule l = AllZip (IsAnswerOn l.targets l.budget) (map (λ rule. Rule rule) (range_with_len 0 l.rule)) l.reports
