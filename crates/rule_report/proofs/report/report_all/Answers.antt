use Rattle.std.proofs.Common.{length, map, subst}
use Rattle.std.specs.List.{AllZip, range_with_len}
use Rattle.std.proofs.lemmas.Slice.Zip.{all_zipped_more}
use Rattle.euclid_ast.specs.declared.meaning.Choice.TheVariants.{Rule, Default}
use Rattle.rule_report.specs.Aims.{Aims}
use Rattle.rule_report.specs.Answers.{IsAnswerOn, targets_of}
use Rattle.rule_report.proofs.report.report_all.Goals as goal

pub returns : goal.returns
returns c =
    let targets = c.in_ok-targets.targets in
    let rules = map (λ r. Rule r) (range_with_len 0 (length targets.program.source.rules)) in
    let P : Aims → Type 0 = λ a. AllZip (IsAnswerOn a c.args.budget) (targets_of (length a.program.source.rules)) c.push.new.self in
    subst P c.in_ok-targets.ensures
    (rw c.in_ok-push.ensures.ok (all_zipped_more (IsAnswerOn targets c.args.budget) rules c.in_ok-reports.reports Default c.in_ok-report.field-0 c.in_ok-reports.ensures c.in_ok-report.ensures))
