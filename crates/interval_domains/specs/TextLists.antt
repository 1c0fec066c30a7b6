-- Lists of short texts in ascending order.
use Rattle.std.specs.Prelude.{ℕ, ◌≤◌, nat_le, List, length, Bool, not, ◌&&◌, bytes_eq}
use Rattle.std.specs.List.{list_any, All}
use Rattle.std.specs.List.Sorted.{IsStrictlySortedBy}
use Rattle.std.specs.Ordering.{nat_cmp}
use Rattle.std.specs.Cmp.Lexicographic.{slice_cmp}
use Rattle.key_table.specs.declared.atom.Test.{Test}
use Rattle.key_table.specs.declared.atom.Test.TheVariants.{Text}

-- whether a text is in the list
abbrev pub has_text : List (List ℕ) → List ℕ → Bool
has_text texts t = list_any (bytes_eq t) texts

-- whether a text is legal and not in the list
abbrev pub is_other_text : List (List ℕ) → List ℕ → Bool
is_other_text texts t = nat_le (length t) 1024 && not (has_text texts t)

-- A text has at most 255 bytes, as each text of a test.
abbrev pub IsShort : List ℕ → Type 0
IsShort t = length t ≤ 255

-- A test's text, where it has one, is short.
abbrev pub HasShortText : Test → Type 0
HasShortText (Text t) = IsShort t
HasShortText _ = Unit {0}

-- Each text is short, and they ascend by bytes, so that each is there once.
pub record AreListed (texts : List (List ℕ)) : Type 0 where
  pub short : All IsShort texts
  pub ascending : IsStrictlySortedBy (slice_cmp nat_cmp) texts
