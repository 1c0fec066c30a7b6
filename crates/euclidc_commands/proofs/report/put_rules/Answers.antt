use Rattle.std.proofs.Common.{Bool, List, [], ◌∷◌, ◌++◌, string_bytes, sym, subst, arith}
use Rattle.std.proofs.lemmas.List.FromFn.{map-range_with_len_more}
use Rattle.euclid_ast.specs.declared.meaning.Choice as decided
use Rattle.euclid_ast.specs.declared.meaning.Choice.TheVariants.{Rule}
use Rattle.euclidc_commands.specs.Appended.{rules_to, AppendsAll}
use Rattle.euclidc_commands.proofs.ReportLemmas.{appends_more}
use Rattle.euclidc_commands.proofs.report.put_rules.Goals as goal

pub loop-rule-preserved : goal.loop-rule-preserved
loop-rule-preserved c =
    let rule = c.loop-rule.rule in
    let P : List decided.Choice → Bool → Type 0 = λ ts b. AppendsAll c.args.targets.now c.args.budget ts (string_bytes c.args.out.now) (string_bytes c.put_target.new.out) b in
    subst (λ ts. P ts c.either-is_left.result) (sym (map-range_with_len_more {X = decided.Choice} (λ r. Rule r) 0 rule rule (omega arith)))
    (subst (P (rules_to rule ++ Rule rule ∷ [])) (sym c.either-is_left.ensures)
    (appends_more c.args.targets.now c.args.budget (rules_to rule) (Rule rule) (string_bytes c.args.out.now) (string_bytes c.loop-rule.out) (string_bytes c.put_target.new.out) c.loop-rule.is_left c.in_ok-here.here
    c.loop-rule.invariant c.in_ok-here.ensures))
