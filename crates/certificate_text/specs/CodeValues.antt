-- Tests, atoms, items and certificates as the code has them.
use Rattle.std.specs.Prelude.{◌≡◌, ◌<◌, ℕ, List, true, IsUtf8, Option, Some, None}
use Rattle.std.specs.List.{AllByRecursion}
use Rattle.key_table.specs.declared.atom.Test.{Test}
use Rattle.key_table.specs.declared.atom.Test.TheVariants.{Variant, Text, Number}
use Rattle.key_table.specs.declared.atom.Atom.{Atom}
use Rattle.key_table.specs.Integers.{is_signed}
use Rattle.rule_problem.specs.declared.certificate.Item.{Item}
use Rattle.rule_problem.specs.declared.certificate.Item.TheVariants.{Split, Void, Want, Bar, Goal, Todo}
use Rattle.rule_problem.specs.declared.certificate.Certificate.{Certificate}

-- A text is UTF-8, and a number one of 64 bits.
abbrev pub IsTest : Test → Type 0
IsTest (Variant n) = Unit {0}
IsTest (Text t) = IsUtf8 t
IsTest (Number op n) = is_signed n ≡ true

-- A sub name is UTF-8.
abbrev pub IsSub : Option (List ℕ) → Type 0
IsSub None = Unit {0}
IsSub (Some name) = IsUtf8 name

abbrev pub IsAtom : Atom → Type 0
IsAtom atom = IsSub atom.slot.sub × AllByRecursion IsTest atom.tests

-- A number is one of 32 bits.
abbrev pub IsItem : Item → Type 0
IsItem (Split n) = n < 4294967296
IsItem (Void n) = n < 4294967296
IsItem (Want n) = n < 4294967296
IsItem (Bar n) = n < 4294967296
IsItem Goal = Unit {0}
IsItem Todo = Unit {0}

pub record IsCertificate (c : Certificate) : Type 0 where
  pub atoms : AllByRecursion IsAtom c.atoms
  pub items : AllByRecursion IsItem c.items
