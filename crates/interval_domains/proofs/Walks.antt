-- A walk over intervals from reach to reach of what passes.
use Rattle.std.proofs.Common.{◌≡◌, ℕ, ◌+◌, ◌<◌, ℤ, ◌≤ℤ◌, ◌<ℤ◌, List, ◌∷◌, length, get_or, take, drop, Bool, true, false, not, ◌&&◌, ◌||◌, Some, inl, inr, refl, ap, sym, ◌∙◌, subst, arith}
use Rattle.std.specs.Int.{int_max}
use Rattle.std.proofs.lemmas.Int.{ints, clamps, by_lt_z}
use Rattle.std.proofs.lemmas.Bool.{and_from, or_cases}
use Rattle.std.proofs.lemmas.List.{take-append-drop, drop_more}
use Rattle.std.proofs.lemmas.List.Folds.{list_any-append, list_any_at}
use Rattle.interval_domains.specs.declared.interval.Interval.{Interval}
use Rattle.interval_domains.specs.Intervals.{within, has_number, AreApart}
use Rattle.interval_domains.specs.Finding.{IsReach}
use Rattle.interval_domains.proofs.IntervalLemmas.{from_first, apart_drop}
use Rattle.interval_domains.proofs.Hulls.{interval_at}

-- where each number of a set passes, none fails
pub none_fails : (has passes : ℤ → Bool) → ((x : ℤ) → has x ≡ true → passes x ≡ true) → (x : ℤ) → (has x && not (passes x)) ≡ false
none_fails has passes all x =
    elim (has x) as (λ b. has x ≡ b → (b && not (passes x)) ≡ false) [
      | true ↦ (λ there. ap not (all x there))
      | false ↦ (λ out. refl)
    ] refl

-- a number of a list that lies before an interval of it is in an interval before that
pub earlier : (list : List Interval) (k : ℕ) (d : Interval) (x : ℤ) → AreApart list → k < length list → has_number list x ≡ true → x <ℤ (get_or list k d).first → has_number (take k list) x ≡ true
earlier list k d x apart here there low =
    let P : List Interval → Type 0 = λ is. AreApart is in
    let parts : (has_number (take k list) x || has_number (drop k list) x) ≡ true =
    sym (list_any-append (within x) (take k list) (drop k list)) ∙ ap (λ (is : List Interval). has_number is x) (take-append-drop k list) ∙ there in
    elim (or_cases _ _ parts) [
      | inl before ↦ before
      | inr after ↦
          let opened : has_number (get_or list k d ∷ drop (k + 1) list) x ≡ true = sym (ap (λ (is : List Interval). has_number is x) (drop_more list k d here)) ∙ after in
          let high : (get_or list k d).first ≤ℤ x = from_first x (get_or list k d) (drop (k + 1) list) (subst P (drop_more list k d here) (apart_drop k list apart)) opened in
          absurd (omega (arith, ints))
    ]

module _ (list : List Interval) (passes : ℤ → Bool) (k : ℕ) (d : Interval) (from start : ℤ) (apart : AreApart list) (here : k < length list) (is : start ≡ int_max (get_or list k d).first from) where
  -- what was passed before, and what is reached from an interval on, passes
  pub reach_passes : ((x : ℤ) → has_number (take k list) x ≡ true → passes x ≡ true) → ((x : ℤ) → has_number list x ≡ true → x <ℤ from → passes x ≡ true)
      → (reach : ℤ) → IsReach passes start (Some reach) → (x : ℤ) → has_number list x ≡ true → x ≤ℤ reach → passes x ≡ true
  reach_passes before below reach reached x there le =
      by_lt_z {P = passes x ≡ true} x from (λ lt. below x there lt)
      (λ late. by_lt_z {P = passes x ≡ true} x (get_or list k d).first
      (λ lt. before x (earlier list k d x apart here there lt))
      (λ high. reached.1 x (omega (arith, ints, clamps)) le))

  pub fails_there : from ≤ℤ (get_or list k d).last → passes start ≡ false → (x : ℤ) × ((has_number list x && not (passes x)) ≡ true)
  fails_there le fails =
      let filled = (interval_at list k d apart here).filled in
      let inside : within start (get_or list k d) ≡ true = grind (arith, ints, clamps) in
      (start, and_from _ _ (list_any_at (within start) list k d here inside) (ap not fails))
