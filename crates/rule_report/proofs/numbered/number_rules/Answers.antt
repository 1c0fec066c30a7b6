use Rattle.std.proofs.Common.{List, map, take, subst}
use Rattle.std.specs.List.{flat_map}
use Rattle.vir_lowering.specs.declared.vir.VirStatement.{VirStatement}
use Rattle.rule_report.specs.Paths.{statement_paths, rule_paths}
use Rattle.rule_report.specs.Numbered.{rule_numbers, ArePathsOf}
use Rattle.rule_report.proofs.Growth.{grown_then, rules_more}
use Rattle.rule_report.proofs.Images.{map_push, map_next}
use Rattle.rule_report.proofs.numbered.number_rules.Goals as goal

pub loop-rule-preserved : goal.loop-rule-preserved
loop-rule-preserved c =
    let P : List VirStatement → Type 0 = λ z. ArePathsOf c.number_statements.new.atoms.keys (rule_numbers c.in_ok-number_statements.field-0) (flat_map statement_paths z) in (
      grown_then c.args.atoms.now.keys c.loop-rule.atoms.keys c.number_statements.new.atoms.keys c.loop-rule.invariant.0 c.in_ok-number_statements.ensures.grown,
      rw (
        c.in_ok-push.ensures.ok,
        map_push rule_numbers c.loop-rule.numbered c.in_ok-number_statements.field-0,
        map_next rule_paths c.args.rules.now c.loop-rule.rule-index c.rule-item.result c.loop-rule-test.true c.rule-item.is,
      )
          (rules_more c.loop-rule.atoms.keys c.number_statements.new.atoms.keys c.in_ok-number_statements.ensures.grown (map rule_numbers c.loop-rule.numbered)
          (map rule_paths (take c.loop-rule.rule-index c.args.rules.now)) (rule_numbers c.in_ok-number_statements.field-0) (rule_paths c.rule-item.result)
          c.loop-rule.invariant.1 (subst P c.as_slice.ensures c.in_ok-number_statements.ensures.right)),
    )
