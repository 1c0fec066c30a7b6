-- Names and numbers of a table: the atom that a named atom is, and the names of an atom.
use Rattle.std.specs.Prelude.{ℕ, nat_lt, List, [], length, map, slice_index_or, Bool, true, Option, Some, None, option_map, option_and_then, if◌then◌else◌}
use Rattle.std.specs.Option.{unwrap_or}
use Rattle.std.specs.Str.{is_utf8}
use Rattle.key_table.specs.declared.atom.Test.{Test}
use Rattle.key_table.specs.declared.atom.Test.TheVariants.{Variant, Text, Number}
use Rattle.key_table.specs.declared.atom.Atom.{Atom}
use Rattle.key_table.specs.Slots.{at}
use Rattle.key_table.specs.Tables.{Table, find_key, name_at, variants_at, find_variant}
use Rattle.key_table.specs.Atoms.{atom_fits}
use Rattle.certificate_text.specs.Named.{NamedTest, variant, text, number, NamedAtom, each}

abbrev pub named_test : List (List ℕ) → Test → NamedTest
named_test names (Variant n) = variant (slice_index_or names n [])
named_test names (Text t) = text t
named_test names (Number op n) = number op n

-- whether a test is of no variant, or of one of these
abbrev pub is_named : List (List ℕ) → Test → Bool
is_named names (Variant n) = nat_lt n (length names)
is_named names _ = true

-- the atom with the names that the table has for its numbers
abbrev pub named : Table → Atom → NamedAtom
named table atom = record { key = unwrap_or (name_at atom.slot.key table) []; sub = atom.slot.sub; none_of = atom.none_of; tests = map (named_test (variants_at atom.slot.key table)) atom.tests }

-- the bytes, where they are UTF-8
abbrev pub utf8 : List ℕ → Option (List ℕ)
utf8 bytes = if is_utf8 bytes then Some bytes else None

abbrev pub test_numbered : Table → ℕ → NamedTest → Option Test
test_numbered table key (variant name) = option_map Variant (find_variant key name table)
test_numbered table key (text bytes) = option_map Text (utf8 bytes)
test_numbered table key (number op n) = Some (Number op n)

abbrev pub sub_numbered : Option (List ℕ) → Option (Option (List ℕ))
sub_numbered None = Some None
sub_numbered (Some name) = option_map (λ n. Some n) (utf8 name)

abbrev pub fitting : Table → Atom → Option Atom
fitting table atom = if atom_fits table atom then Some atom else None

abbrev pub atom_with : ℕ → Option (List ℕ) → Bool → List Test → Atom
atom_with key sub none_of tests = record { slot = at key sub; none_of = none_of; tests = tests }

-- The atom of a named one: its key and its variants are there, its texts are UTF-8, and it fits the table.
unfoldable pub numbered : Table → NamedAtom → Option Atom
numbered table atom =
    option_and_then (λ key. option_and_then (λ sub. option_and_then (λ tests.
    fitting table (atom_with key sub atom.none_of tests))
    (each (test_numbered table key) atom.tests)) (sub_numbered atom.sub)) (find_key atom.key table)
