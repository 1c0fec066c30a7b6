-- Sets without an option, and the option that is picked of the others.
use Rattle.std.specs.Prelude.{◌≡◌, ℕ, ◌≤◌, ◌≤ℤ◌, ℤ, List, Bool, true, false, Option, Some, None, replicate}
use Rattle.std.specs.Bool.{MatchBool}
use Rattle.std.specs.Ordering.{nat_cmp, is_le}
use Rattle.std.specs.Cmp.Lexicographic.{slice_cmp}
use Rattle.key_table.specs.declared.slot.Datum.{Datum}
use Rattle.key_table.specs.declared.slot.Datum.TheVariants.{Variant, Number, Text}
use Rattle.key_table.specs.OptionSets.{Options}

-- No option is in the set.
abbrev pub HasNoOption : Options → Type 0
HasNoOption options = (o : Option Datum) → options o ≡ false

-- the text of 256 letters a, longer than any text of a test
unfoldable pub long_text : List ℕ
long_text = replicate 256 97

-- Of a set of values: the long text where that is in it, and else the least text by bytes.
abbrev pub IsFirstText : (Datum → Bool) → List ℕ → Type 0
IsFirstText has t = MatchBool (has (Text long_text)) (t ≡ long_text) ((u : List ℕ) → has (Text u) ≡ true → is_le (slice_cmp nat_cmp t u) ≡ true)

-- A value of a set comes first where it is the least variant, the least number, or the first text.
abbrev pub IsFirst : (Datum → Bool) → Datum → Type 0
IsFirst has (Variant n) = (m : ℕ) → has (Variant m) ≡ true → n ≤ m
IsFirst has (Number x) = (y : ℤ) → has (Number y) ≡ true → x ≤ℤ y
IsFirst has (Text t) = IsFirstText has t

-- The value of a set that comes first, or nothing where the set has none.
abbrev pub FindsFirst : (Datum → Bool) → Option Datum → Type 0
FindsFirst has None = (d : Datum) → has d ≡ false
FindsFirst has (Some datum) = (has datum ≡ true) × IsFirst has datum

-- Absence where it is in the set, and else the value in it that comes first.
abbrev pub IsPick : Options → Option Datum → Type 0
IsPick options None = options None ≡ true
IsPick options (Some datum) = (options None ≡ false) × (options (Some datum) ≡ true) × IsFirst (λ d. options (Some d)) datum
