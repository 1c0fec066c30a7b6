-- Whether some option of a slot meets assumptions on it, by trying a few options that stand for all of them.
use Rattle.std.specs.Prelude.{ℕ, zero, suc, ℤ, pos, ◌+ℤ◌, int_le, int_lt, ◌∷◌, length, Bool, false, ◌&&◌, ◌||◌, Option, Some, None}
use Rattle.std.specs.List.{list_any, list_all, filter}
use Rattle.std.specs.Option.{option_map_or}
use Rattle.std.specs.Ordering.{is_eq}
use Rattle.key_table.specs.declared.atom.Atom.{Atom}
use Rattle.key_table.specs.declared.atom.Test.{Test}
use Rattle.key_table.specs.declared.atom.Test.TheVariants as test
use Rattle.key_table.specs.declared.slot.Datum.{Datum}
use Rattle.key_table.specs.declared.slot.Datum.TheVariants as datum
use Rattle.key_table.specs.declared.slot.Slot.{Slot}
use Rattle.key_table.specs.Slots.{slot_cmp}
use Rattle.key_table.specs.Tables.{Table, Domain, variants, bounds, text, metadata, domain_at}
use Rattle.key_table.specs.Contexts.{Assumption, Context, assume, has_truth}
use Rattle.contradiction_checker.specs.declared.options.Values.{Values}
use Rattle.contradiction_checker.specs.declared.options.Values.TheVariants.{Variants, Numbers, Texts}
use Rattle.contradiction_checker.specs.Candidates.{untested_has_truth}

-- what the slots of a key may hold
abbrev pub values_of : Domain → Values
values_of (variants names) = Variants (length names)
values_of (bounds least greatest) = Numbers least greatest
values_of text = Texts
values_of metadata = Texts

-- whether an option has the truths of all assumptions
abbrev pub meets_all : Context → Option Datum → Bool
meets_all assumptions option = list_all (has_truth option) assumptions

-- whether a number is within the bounds and has all truths
abbrev pub number_meets : ℤ → ℤ → Context → ℤ → Bool
number_meets least greatest assumptions z = int_le least z && (int_le z greatest && meets_all assumptions (Some (datum.Number z)))

-- whether a number is not below the least one and has all truths
abbrev pub from_meets : ℤ → Context → ℤ → Bool
from_meets least assumptions z = int_le least z && meets_all assumptions (Some (datum.Number z))

-- whether the number above a number is within the bounds and has all truths
abbrev pub next_meets : ℤ → ℤ → Context → ℤ → Bool
next_meets least greatest assumptions z = int_lt z greatest && from_meets least assumptions (z +ℤ pos 1)

-- Whether one of the values for which a test stands has all truths: its number and the one above it, or its text.
abbrev pub tested_meets : Values → Context → Test → Bool
tested_meets (Numbers least greatest) assumptions (test.Number op z) = number_meets least greatest assumptions z || next_meets least greatest assumptions z
tested_meets Texts assumptions (test.Text t) = meets_all assumptions (Some (datum.Text t))
tested_meets _ assumptions _ = false

-- whether some test of some assumption is such a one
abbrev pub some_test : (Test → Bool) → Context → Bool
some_test is_such assumptions = list_any (λ (a : Assumption). list_any is_such a.atom.tests) assumptions

-- whether one of so many variants has all truths
abbrev pub some_variant : ℕ → Context → Bool
some_variant zero assumptions = false
some_variant (suc v) assumptions = meets_all assumptions (Some (datum.Variant v)) || some_variant v assumptions

-- Whether a value for which no test stands has all truths: some variant, the least number, or a text that no test names.
abbrev pub untested_meets : Values → Context → Bool
untested_meets (Variants count) assumptions = some_variant count assumptions
untested_meets (Numbers least greatest) assumptions = number_meets least greatest assumptions least
untested_meets Texts assumptions = list_all untested_has_truth assumptions

-- Whether absence, a value for which no test stands, or one for which a test stands has all truths.
abbrev pub some_option : Values → Context → Bool
some_option values assumptions = meets_all assumptions None || (untested_meets values assumptions || some_test (tested_meets values assumptions) assumptions)

-- the assumptions on a slot
abbrev pub on_slot : Slot → Context → Context
on_slot slot context = filter (λ (a : Assumption). is_eq (slot_cmp slot a.atom.slot)) context

-- Whether the context leaves an option to the slot of an atom on which the atom has this truth.
abbrev pub leaves : Table → Context → Atom → Bool → Bool
leaves table context atom truth = option_map_or (λ domain. some_option (values_of domain) (assume atom truth ∷ on_slot atom.slot context)) (domain_at atom.slot.key table) false
