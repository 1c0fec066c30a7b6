use Rattle.std.proofs.Common.{List, ◌∷◌, [], ◌++◌, ap, sym, ◌∙◌, arith}
use Rattle.euclid_ast.specs.declared.program.Rule.{Rule}
use Rattle.sample_program.specs.Draws.{state}
use Rattle.sample_program.specs.Programs.{rules}
use Rattle.sample_program.proofs.Drawing.{state_first, no_rules, rules_more}
use Rattle.sample_program.proofs.program.rules.Goals as goal

pub loop-number-init : goal.loop-number-init
loop-number-init c = (c.in_ok-rules.ensures ∙ sym (no_rules c.args.seed), c.from_seed-draws.ensures ∙ sym (state_first c.args.seed))

pub loop-number-preserved : goal.loop-number-preserved
loop-number-preserved c =
    let n = c.loop-number.number in
    let before = c.loop-number.invariant in (
      c.in_ok-push.ensures.ok ∙ ap (λ (rs : List Rule). rs ++ c.in_ok-rule.field-0 ∷ []) before.0 ∙ ap (λ (r : Rule). rules c.args.seed n ++ r ∷ []) (c.in_ok-rule.ensures.rule c.args.seed before.1) ∙ sym (rules_more c.args.seed n),
      c.in_ok-rule.ensures.state c.args.seed before.1 ∙ ap (state c.args.seed) (omega arith),
    )
