use Rattle.std.proofs.Common.{◌≡◌, ◌^◌, ℤ, pos, neg_ℤ, List, [], sym, subst, refl, arith, to_z, of_z}
use mir.Syntax.{w128}
use Rattle.std.proofs.lemmas.Int.{ints}
use Rattle.interval_domains.specs.declared.interval.Interval.{Interval}
use Rattle.interval_domains.proofs.Gaps.{AreGaps, gaps_start, interval_here, gaps_more, gaps_all}
use Rattle.interval_domains.proofs.intervals.gaps.Goals as goal

abbrev none : Interval
none = record { first = pos 0; last = pos 0 }

pub loop-interval-init : goal.loop-interval-init
loop-interval-init c =
    let low : neg_ℤ (pos (2 ^ 63)) ≡ to_z w128 (of_z w128 c.from-next.result) = omega (arith, ints) in
    let P : ℤ → Type 0 = λ n. AreGaps [] c.args.list.now [] c.args.list.now n in
    let Q : List Interval → Type 0 = λ is. AreGaps is c.args.list.now [] c.args.list.now (to_z w128 (of_z w128 c.from-next.result)) in
    subst Q (sym c.new-others.ensures) (subst P low (gaps_start c.args.list.now c.requires))

pub loop-interval-preserved : goal.loop-interval-preserved
loop-interval-preserved c =
    let list = c.args.list.now in
    let i = c.loop-interval.interval-index in
    let one = interval_here c.loop-interval.others list i none (to_z w128 c.loop-interval.next-bits) c.loop-interval.invariant c.loop-interval-test.true in
    let low = one.low in
    let high = one.high in
    gaps_more c.loop-interval.others list i none (to_z w128 c.loop-interval.next-bits) c.loop-interval.invariant c.loop-interval-test.true
    _ _ _ _ refl (omega (arith, ints)) (omega (arith, ints)) c.in_ok-add_up_to.ensures.ok c.in_ok-add_up_to.ensures.starts

pub returns : goal.returns
returns c =
    gaps_all c.loop-interval.others _ c.args.list.now c.loop-interval.interval-index (to_z w128 c.loop-interval.next-bits) _ _ c.loop-interval.invariant (omega arith) refl (omega (arith, ints)) c.in_ok-add_up_to-2.ensures.ok
