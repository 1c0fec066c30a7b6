-- The options of a slot, and the meaning of an atom. An option is absence, or a value.
use Rattle.std.specs.Prelude.{◌≡◌, Bool, true, false, Option, Some, None}
use Rattle.key_table.specs.declared.atom.Atom.{Atom}
use Rattle.key_table.specs.declared.slot.Slot.{Slot}
use Rattle.key_table.specs.declared.slot.Datum.{Datum}
use Rattle.key_table.specs.Tables.{Table, datum_fits}
use Rattle.key_table.specs.Payments.{Entries, value_of, is_legal}
use Rattle.key_table.specs.Atoms.{passes}

-- The options of a slot are absence and each value that is legal there.
abbrev pub is_option : Table → Slot → Option Datum → Bool
is_option table slot None = true
is_option table slot (Some datum) = datum_fits table slot datum

-- An atom holds of an option that is a value and passes its tests.
abbrev pub holds_of : Atom → Option Datum → Bool
holds_of atom None = false
holds_of atom (Some datum) = passes atom datum

-- An atom holds of a payment where it holds of what stands at its slot.
abbrev pub holds_on : Atom → Entries → Bool
holds_on atom payment = holds_of atom (value_of atom.slot payment)

-- In a legal payment each slot has one of its options.
abbrev pub OptionLaw : Type 0
OptionLaw = (table : Table) (payment : Entries) (slot : Slot) → is_legal table payment ≡ true → is_option table slot (value_of slot payment) ≡ true
