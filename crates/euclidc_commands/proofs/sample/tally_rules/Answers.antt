use Rattle.std.proofs.Common.{◌+◌, refl, ap, ◌∙◌}
use Rattle.euclidc_commands.specs.Sample.Counts.{nothing}
use Rattle.euclidc_commands.proofs.SampleLemmas.{rule_counted, one_counted}
use Rattle.euclidc_commands.proofs.sample.tally_rules.Goals as goal

pub loop-rule-init : goal.loop-rule-init
loop-rule-init c = (refl, λ s graph. nothing)

pub loop-rule-preserved : goal.loop-rule-preserved
loop-rule-preserved c =
    let tally = c.loop-rule.tally in
    let more = c.with-tally.ensures in (
      one_counted c.in_ok-is_reached.field-0 tally.reached tally.never c.with-tally.result.reached c.with-tally.result.never more.reached more.never ∙ ap (λ k. k + 1) c.loop-rule.invariant.0,
      λ s graph. rule_counted c.args.targets.now.program s c.loop-rule.rule tally.reached tally.never c.with-tally.result.reached c.with-tally.result.never c.in_ok-is_reached.field-0
          (c.in_ok-is_reached.ensures s graph) (c.loop-rule.invariant.1 s graph) more.reached more.never,
    )
