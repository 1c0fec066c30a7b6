-- Atoms: which of them fit a table, and of which values they hold.
use Rattle.std.specs.Prelude.{ℕ, ℤ, int_lt, int_le, nat_lt, nat_le, List, length, Bool, true, false, not, ◌&&◌, ◌==◌, bytes_eq, Option, Some, None, if◌then◌else◌}
use Rattle.std.specs.Ordering.{int_eq}
use Rattle.std.specs.List.{list_any, list_all}
use Rattle.std.specs.Option.{option_map_or}
use Rattle.key_table.specs.declared.atom.Op.{Op}
use Rattle.key_table.specs.declared.atom.Op.TheVariants.{Equal, NotEqual, Less, LessEqual, Greater, GreaterEqual}
use Rattle.key_table.specs.declared.atom.Test.{Test}
use Rattle.key_table.specs.declared.atom.Test.TheVariants.{Variant, Text, Number}
use Rattle.key_table.specs.declared.atom.Atom.{Atom}
use Rattle.key_table.specs.declared.slot.Datum.{Datum}
use Rattle.key_table.specs.declared.slot.Datum.TheVariants as datum
use Rattle.key_table.specs.declared.slot.Slot.{Slot}
use Rattle.key_table.specs.Tables.{Table, Domain, variants, bounds, text, metadata, domain_at, has_sub}

-- whether a number has this relation to another
abbrev pub relates : Op → ℤ → ℤ → Bool
relates Equal x y = int_eq x y
relates NotEqual x y = not (int_eq x y)
relates Less x y = int_lt x y
relates LessEqual x y = int_le x y
relates Greater x y = int_lt y x
relates GreaterEqual x y = int_le y x

-- Whether a test has the kind of its key. The number of a test may lie outside the bounds.
abbrev pub test_fits : Domain → Test → Bool
test_fits (variants names) (Variant n) = nat_lt n (length names)
test_fits (bounds least greatest) (Number op n) = true
test_fits text (Text t) = nat_le (length t) 255
test_fits metadata (Text t) = nat_le (length t) 255
test_fits _ _ = false

-- Whether the slot is legal, and each of at most 4,096 tests fits its key.
abbrev pub atom_fits : Table → Atom → Bool
atom_fits table atom = option_map_or (λ domain. has_sub domain atom.slot.sub && (nat_le (length atom.tests) 4096 && list_all (test_fits domain) atom.tests)) (domain_at atom.slot.key table) false

-- Whether a test is true of a value: that it is this variant or this very text, or a number with this relation to the given one.
abbrev pub test_holds : Datum → Test → Bool
test_holds (datum.Variant m) (Variant n) = m == n
test_holds (datum.Text u) (Text t) = bytes_eq u t
test_holds (datum.Number x) (Number op n) = relates op x n
test_holds _ _ = false

-- Whether some test is true of a value or, with `none_of`, none is.
abbrev pub passes : Atom → Datum → Bool
passes atom d = if atom.none_of then not (list_any (test_holds d) atom.tests) else list_any (test_holds d) atom.tests
