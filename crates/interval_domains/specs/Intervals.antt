-- Lists of intervals of numbers.
use Rattle.std.specs.Prelude.{◌≡◌, ℤ, pos, ◌+ℤ◌, ◌≤ℤ◌, ◌<ℤ◌, int_le, int_lt, FitsSigned, List, [], ◌∷◌, Bool, true, false, ◌&&◌, Option, Some, None, if◌then◌else◌}
use Rattle.std.specs.List.{list_any, AllByRecursion}
use Rattle.std.specs.declared.cmp.Ordering.{Ordering}
use Rattle.std.specs.declared.cmp.Ordering.TheVariants.{Less, Equal, Greater}
use mir.Syntax.{w64}
use Rattle.interval_domains.specs.declared.interval.Interval.{Interval}

-- whether a number is in the interval
abbrev pub within : ℤ → Interval → Bool
within x i = int_le i.first x && int_le x i.last

-- where an interval lies from a number: below it, around it, or above it
abbrev pub side : ℤ → Interval → Ordering
side x i = if int_lt i.last x then Less else (if int_lt x i.first then Greater else Equal)

-- whether a number is in some interval
abbrev pub has_number : List Interval → ℤ → Bool
has_number is x = list_any (within x) is

-- It is not empty, and its ends are signed numbers of 64 bits.
pub record IsInterval (i : Interval) : Type 0 where
  pub filled : i.first ≤ℤ i.last
  pub low : FitsSigned w64 i.first
  pub high : FitsSigned w64 i.last

-- No interval begins after the number.
abbrev pub StartBy : ℤ → List Interval → Type 0
StartBy x is = AllByRecursion (λ (i : Interval). i.first ≤ℤ x) is

-- Each begins past the next number after a number.
abbrev pub StartPast : ℤ → List Interval → Type 0
StartPast x is = AllByRecursion (λ (i : Interval). (x +ℤ pos 1) <ℤ i.first) is

-- The intervals ascend, and no two of them meet or touch.
abbrev pub AreApart : List Interval → Type 0
AreApart [] = Unit {0}
AreApart (i ∷ is) = IsInterval i × StartPast i.last is × AreApart is

-- The interval goes from the least number of a set to its greatest. There is none where the set has no number.
abbrev pub IsHull : (ℤ → Bool) → Option Interval → Type 0
IsHull has None = (x : ℤ) → has x ≡ false
IsHull has (Some hull) = (has hull.first ≡ true) × (has hull.last ≡ true) × ((x : ℤ) → has x ≡ true → (hull.first ≤ℤ x) × (x ≤ℤ hull.last))
