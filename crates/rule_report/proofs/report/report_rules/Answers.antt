use Rattle.std.proofs.Common.{map, arith}
use Rattle.std.specs.List.{range_with_len}
use Rattle.std.proofs.lemmas.List.FromFn.{map-range_with_len_more}
use Rattle.std.proofs.lemmas.Slice.Zip.{all_zipped_more}
use Rattle.euclid_ast.specs.declared.meaning.Choice as decided
use Rattle.euclid_ast.specs.declared.meaning.Choice.TheVariants.{Rule}
use Rattle.rule_report.specs.Answers.{IsAnswerOn}
use Rattle.rule_report.proofs.report.report_rules.Goals as goal

pub loop-rule-preserved : goal.loop-rule-preserved
loop-rule-preserved c =
    let rule = c.loop-rule.rule in
    rw (c.in_ok-push.ensures.ok, map-range_with_len_more {X = decided.Choice} (λ r. Rule r) 0 rule rule (omega arith))
    (all_zipped_more (IsAnswerOn c.args.targets.now c.args.budget) (map (λ r. Rule r) (range_with_len 0 rule)) c.loop-rule.reports (Rule rule) c.in_ok-report.field-0 c.loop-rule.invariant c.in_ok-report.ensures)
