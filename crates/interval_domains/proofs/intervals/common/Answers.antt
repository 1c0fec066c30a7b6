use Rattle.std.proofs.Common.{pos, arith}
use Rattle.std.proofs.lemmas.Int.{ints}
use Rattle.interval_domains.specs.declared.interval.Interval.{Interval}
use Rattle.interval_domains.proofs.IntervalLemmas.{step_left, step_right, first_of_both, has_first, found_step, still}
use Rattle.interval_domains.proofs.intervals.common.Goals as goal

abbrev none : Interval
none = record { first = pos 0; last = pos 0 }

pub add_common-requires : goal.add_common-requires
add_common-requires c = record {
  starts = λ le. c.loop-i.invariant.starts _ (has_first c.args.mine.now c.args.other.now c.loop-i.i c.loop-i.j none c.requires.mine c.requires.other c.loop-i-test.true c.if-j-other.true le);
}

pub loop-i-preserved-then-mine-i : goal.loop-i-preserved-then-mine-i
loop-i-preserved-then-mine-i c =
    let xs = c.args.mine.now in
    let ys = c.args.other.now in
    let i = c.loop-i.i in
    let j = c.loop-i.j in
    let step = step_left xs ys i j none c.requires.mine c.requires.other c.loop-i-test.true c.if-j-other.true (grind (arith, ints)) in
    record {
      left = omega arith;
      right = omega arith;
      numbers = λ x. found_step _ _ _ _ _ _ (c.in_ok-add_common.ensures.ok x) (step x) (c.loop-i.invariant.numbers x);
      starts = λ x rest.
          let before = still _ _ _ (step x) rest in
          c.in_ok-add_common.ensures.starts x (first_of_both xs ys i j none c.requires.mine c.requires.other c.loop-i-test.true c.if-j-other.true x before) (c.loop-i.invariant.starts x before);
    }

pub loop-i-preserved : goal.loop-i-preserved
loop-i-preserved c =
    let xs = c.args.mine.now in
    let ys = c.args.other.now in
    let i = c.loop-i.i in
    let j = c.loop-i.j in
    let step = step_right xs ys i j none c.requires.mine c.requires.other c.loop-i-test.true c.if-j-other.true (grind (arith, ints)) in
    record {
      left = omega arith;
      right = omega arith;
      numbers = λ x. found_step _ _ _ _ _ _ (c.in_ok-add_common.ensures.ok x) (step x) (c.loop-i.invariant.numbers x);
      starts = λ x rest.
          let before = still _ _ _ (step x) rest in
          c.in_ok-add_common.ensures.starts x (first_of_both xs ys i j none c.requires.mine c.requires.other c.loop-i-test.true c.if-j-other.true x before) (c.loop-i.invariant.starts x before);
    }
