use Rattle.std.proofs.Common.{[], List, map, take, sym}
use Rattle.std.specs.List.{flat_map}
use Rattle.rule_report.specs.Numbered.{atoms_at, rule_numbers}
use Rattle.rule_report.specs.declared.numbered.NumberedStatement.{NumberedStatement}
use Rattle.rule_report.specs.Paths.{Path}
use Rattle.rule_report.proofs.Images.{flat_next}
use Rattle.rule_report.proofs.TakenLemmas.{added_then}
use Rattle.rule_report.proofs.paths.paths_of_rules.Goals as goal

pub loop-rule-preserved : goal.loop-rule-preserved
loop-rule-preserved c =
    let f : List NumberedStatement → List Path = λ rule. map (atoms_at c.args.shared.now) (rule_numbers rule) in (
      c.in_ok-push_rule.ensures.taken,
      rw (flat_next f c.args.rules.now c.loop-rule.rule-index c.rule-item.result c.loop-rule-test.true c.rule-item.is)
          (added_then c.args.taken.now.atoms c.loop-rule.taken.atoms c.push_rule.new.taken.atoms (flat_map f (take c.loop-rule.rule-index c.args.rules.now)) (f c.rule-item.result)
          [] c.loop-rule.paths c.push_rule.new.paths c.loop-rule.invariant.1 (rw (sym c.as_slice.ensures) c.in_ok-push_rule.ensures.added)),
    )
