use Rattle.std.proofs.Common.{◌≡◌, ℤ, pos, ◌≤ℤ◌, get_or, to_z, of_z, ◌∙◌, arith, rules}
use Rattle.std.specs.Int.{int_max}
use Rattle.std.specs.List.{list_any}
use Rattle.std.proofs.lemmas.Int.{ints, clamps}
use mir.Val.{SFits}
use mir.Syntax.{w64}
use Rattle.key_table.specs.declared.slot.Datum.TheVariants.{Number}
use Rattle.key_table.specs.Atoms.{test_holds}
use Rattle.interval_domains.specs.declared.interval.Interval.{Interval}
use Rattle.interval_domains.specs.Intervals.{has_number}
use Rattle.interval_domains.proofs.IntervalLemmas.{fits_in}
use Rattle.interval_domains.proofs.Hulls.{interval_at}
use Rattle.interval_domains.proofs.Walks.{none_fails, reach_passes, fails_there}
use Rattle.interval_domains.proofs.coverage.any_fails.Goals as goal

abbrev none : Interval
none = record { first = pos 0; last = pos 0 }

pub loop-place-init : goal.loop-place-init
loop-place-init c = record {
  within = omega arith;
  before = λ x none. cc;
  below = λ x there low. let fits = fits_in c.args.list.now x c.requires there in absurd (omega (arith, ints));
}

pub returns-in_default : goal.returns-in_default
returns-in_default c =
    let passes = λ (x : ℤ). list_any (test_holds (Number x)) c.args.tests.now in
    let list = c.args.list.now in
    let k = c.loop-place.place in
    let from = to_z w64 c.loop-place.from-bits in
    let start = to_z w64 (of_z w64 c.start_from.result) in
    let fits : SFits w64 c.start_from.result = search rules in
    let plain : start ≡ c.start_from.result = omega (arith, ints) in
    let there = interval_at list k none c.requires c.loop-place-test.true in
    let low = there.low in
    let high = there.high in
    let past : from ≤ℤ (get_or list k none).last = grind (arith, ints) in
    fails_there list passes k none from start c.requires c.loop-place-test.true (plain ∙ c.start_from.ensures) past c.in_default.ensures

pub returns-then-reach-eq9223372036854775807 : goal.returns-then-reach-eq9223372036854775807
returns-then-reach-eq9223372036854775807 c =
    let passes = λ (x : ℤ). list_any (test_holds (Number x)) c.args.tests.now in
    let inv = c.loop-place.invariant in
    let list = c.args.list.now in
    let k = c.loop-place.place in
    let from = to_z w64 c.loop-place.from-bits in
    let start = to_z w64 (of_z w64 c.start_from.result) in
    let fits : SFits w64 c.start_from.result = search rules in
    let plain : start ≡ c.start_from.result = omega (arith, ints) in
    none_fails (λ x. has_number list x) passes
    (λ x there. reach_passes list passes k none from start c.requires c.loop-place-test.true (plain ∙ c.start_from.ensures) inv.before inv.below c.in-Some.reach c.in-Some.ensures x there (let fit = fits_in list x c.requires there in omega (arith, ints)))

pub loop-place-preserved : goal.loop-place-preserved
loop-place-preserved c =
    let passes = λ (x : ℤ). list_any (test_holds (Number x)) c.args.tests.now in
    let inv = c.loop-place.invariant in
    let list = c.args.list.now in
    let k = c.loop-place.place in
    let from = to_z w64 c.loop-place.from-bits in
    let start = to_z w64 (of_z w64 c.start_from.result) in
    let fits : SFits w64 c.start_from.result = search rules in
    let plain : start ≡ c.start_from.result = omega (arith, ints) in
    record {
      within = inv.within;
      before = inv.before;
      below = λ x there low. reach_passes list passes k none from start c.requires c.loop-place-test.true (plain ∙ c.start_from.ensures) inv.before inv.below c.in-Some.reach c.in-Some.ensures x there (omega (arith, ints));
    }

pub loop-place-smaller : goal.loop-place-smaller
loop-place-smaller c =
    let list = c.args.list.now in
    let k = c.loop-place.place in
    let from = to_z w64 c.loop-place.from-bits in
    let start = to_z w64 (of_z w64 c.start_from.result) in
    let fits : SFits w64 c.start_from.result = search rules in
    let plain : start ≡ c.start_from.result = omega (arith, ints) in
    let is : start ≡ int_max (get_or list k none).first from = plain ∙ c.start_from.ensures in
    let late : from ≤ℤ start = omega (arith, ints, clamps) in
    let up : start ≤ℤ c.in-Some.reach = c.in-Some.ensures.0 in
    let fits' : SFits w64 c.in-Some.reach = search rules in
    omega (arith, ints)
