use Rattle.std.proofs.Common.{◌≡◌, ℤ, ◌≤ℤ◌, List, true, subst, sym, ◌∙◌}
use Rattle.std.proofs.lemmas.Int.{to_z-of_z}
use Rattle.interval_domains.specs.declared.interval.Interval.{Interval}
use Rattle.interval_domains.specs.Intervals.{has_number, AreApart, IsInterval}
use Rattle.interval_domains.proofs.IntervalLemmas.{least_first}
use Rattle.interval_domains.proofs.intervals.Intervals.first.Goals as goal

pub returns-in-Some : goal.returns-in-Some
returns-in-Some c =
    let i = c.in-Some.interval.now in
    let P : List Interval → Type 0 = λ is. AreApart is in
    let Q : List Interval → Type 0 = λ is. IsInterval i × (has_number is i.first ≡ true) × ((y : ℤ) → has_number is y ≡ true → i.first ≤ℤ y) in
    let first = subst Q (c.deref.ensures.value ∙ c.self.view_is) (least_first c.deref.result.now i (subst P (sym c.deref.ensures.value) c.self.invariant) c.in-Some.ensures.value) in
    let low = first.0.low in
    simp to_z-of_z (first.1, first.2)
