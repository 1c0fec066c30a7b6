use Rattle.std.proofs.Common.{◌||◌, ap, sym, ◌∙◌}
use Rattle.key_table.specs.declared.slot.Datum.TheVariants.{Number}
use Rattle.key_table.specs.Atoms.{test_holds}
use Rattle.interval_domains.proofs.Steps.{any_step}
use Rattle.interval_domains.proofs.pieces.pieces_of.Goals as goal

pub loop-test-preserved : goal.loop-test-preserved
loop-test-preserved c = record {
  filled = c.push_test.ensures.filled;
  numbers = λ x fits. c.in_ok-push_test.ensures.numbers x fits
      ∙ ap (λ b. b || test_holds (Number x) c.test-item.result) (c.loop-test.invariant.numbers x fits)
      ∙ sym (any_step (test_holds (Number x)) c.args.tests.now _ c.test-item.result c.loop-test-test.true c.test-item.is);
}
