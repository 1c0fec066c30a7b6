use Rattle.std.proofs.Common.{◌≡◌, ℤ, ◌≤ℤ◌, ◌&&◌, ◌||◌, ap, ◌∙◌, arith}
use Rattle.std.specs.Int.{int_max}
use Rattle.std.proofs.lemmas.Int.{ints}
use Rattle.interval_domains.specs.declared.interval.Interval.{Interval}
use Rattle.interval_domains.specs.Intervals.{within, has_number, StartBy}
use Rattle.interval_domains.proofs.Steps.{on_ok_then}
use Rattle.interval_domains.proofs.IntervalLemmas.{each-weaker, within_common}
use Rattle.interval_domains.proofs.intervals.Intervals.add_common.Goals as goal

pub returns-in-Some-clause-ok : goal.returns-in-Some-clause-ok
returns-in-Some-clause-ok c =
    let old = c.args.self.now in
    let mine = c.args.mine in
    let other = c.args.other in
    let P : Type 0 = (x : ℤ) → has_number c.add.new.self x ≡ (has_number old x || within x c.in-Some.both) in
    let Q : Type 0 = (x : ℤ) → has_number c.add.new.self x ≡ (has_number old x || (within x mine && within x other)) in
    on_ok_then P Q _ c.add.ensures.ok (λ numbers x.
    numbers x ∙ ap (λ (i : Interval). has_number old x || within x i) c.in-Some.ensures.0 ∙ ap (λ b. has_number old x || b) (within_common x mine other))

pub returns-in-Some-clause-starts : goal.returns-in-Some-clause-starts
returns-in-Some-clause-starts c =
    let old = c.args.self.now in
    let first : c.in-Some.both.first ≡ int_max c.args.mine.first c.args.other.first = ap (λ (i : Interval). i.first) c.in-Some.ensures.0 in
    let Q : Type 0 = (x : ℤ) → int_max c.args.mine.first c.args.other.first ≤ℤ x → StartBy x old → StartBy x c.add.new.self in
    on_ok_then (StartBy c.in-Some.both.first c.add.new.self) Q _ c.add.ensures.starts (λ starts x later _.
    each-weaker (λ (i : Interval). i.first ≤ℤ c.in-Some.both.first) (λ (i : Interval). i.first ≤ℤ x) (λ i before. omega (arith, ints)) _ starts)
