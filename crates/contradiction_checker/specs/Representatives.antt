-- Few options that stand for all options of a slot: on one of them the same tests are true as on any.
use Rattle.std.specs.Prelude.{◌≡◌, ℕ, zero, suc, pos, ◌+ℤ◌, List, [], ◌∷◌, ◌++◌, length, replicate, nat_le, Bool, true, false, Option, Some, None}
use Rattle.std.specs.List.{list_all, flat_map, AllByRecursion}
use Rattle.key_table.specs.declared.atom.Test.{Test}
use Rattle.key_table.specs.declared.atom.Test.TheVariants as test
use Rattle.key_table.specs.declared.slot.Datum.{Datum}
use Rattle.key_table.specs.declared.slot.Datum.TheVariants as datum
use Rattle.key_table.specs.Tables.{Domain, variants, bounds, text, metadata, allows}
use Rattle.key_table.specs.Atoms.{test_holds}
use Rattle.rule_problem.specs.Quantifiers.{AnyByRecursion}

-- A text that no test names: the text of a test has at most 255 bytes.
unfoldable pub long_text : List ℕ
long_text = replicate 256 97

-- whether the text of a test has at most 255 bytes
abbrev pub is_short : Test → Bool
is_short (test.Text t) = nat_le (length t) 255
is_short _ = true

-- whether absence or a value may stand at the slots of a key
abbrev pub may_be : Domain → Option Datum → Bool
may_be domain None = true
may_be domain (Some d) = allows domain d

-- whether a test is true of an option
abbrev pub is_true_of : Option Datum → Test → Bool
is_true_of None t = false
is_true_of (Some d) t = test_holds d t

-- so many variants, the last one first
abbrev pub variants_below : ℕ → List (Option Datum)
variants_below zero = []
variants_below (suc v) = Some (datum.Variant v) ∷ variants_below v

-- Each variant, the least number, or the text that no test names.
abbrev pub untested_of : Domain → List (Option Datum)
untested_of (variants names) = variants_below (length names)
untested_of (bounds least greatest) = Some (datum.Number least) ∷ []
untested_of text = Some (datum.Text long_text) ∷ []
untested_of metadata = Some (datum.Text long_text) ∷ []

-- The number of a test and the one above it, or its text.
abbrev pub tested_of : Test → List (Option Datum)
tested_of (test.Number op n) = Some (datum.Number n) ∷ Some (datum.Number (n +ℤ pos 1)) ∷ []
tested_of (test.Text t) = Some (datum.Text t) ∷ []
tested_of (test.Variant v) = []

abbrev pub representatives : Domain → List Test → List (Option Datum)
representatives domain tests = None ∷ (untested_of domain ++ flat_map tested_of tests)

-- A representative that may stand there and on which the same tests are true as on the option.
pub record HasRepresentative (domain : Domain) (tests : List Test) (option : Option Datum) : Type 0 where
  pub stands : Option Datum
  pub among : AnyByRecursion (λ r. r ≡ stands) (representatives domain tests)
  pub legal : may_be domain stands ≡ true
  pub same : AllByRecursion (λ t. is_true_of option t ≡ is_true_of stands t) tests

-- Each option has a representative.
abbrev pub RepresentativesLaw : Type 0
RepresentativesLaw = (domain : Domain) (tests : List Test) (option : Option Datum) → list_all is_short tests ≡ true → may_be domain option ≡ true → HasRepresentative domain tests option
