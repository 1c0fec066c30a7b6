-- Payments: finite maps from slots to values, as their entries in ascending order of slots.
use Rattle.std.specs.Prelude.{◌≡◌, ◌==◌, ℕ, List, Bool, true, Option, Some, if◌then◌else◌}
use Rattle.std.specs.List.{filter, list_all}
use Rattle.std.specs.List.Sorted.{IsStrictlySortedBy}
use Rattle.std.specs.Map.{keys_of, lookup}
use Rattle.std.specs.BTreeMap.{insert_entry, is_at}
use Rattle.std.specs.Ordering.{is_eq}
use Rattle.key_table.specs.declared.slot.Slot.{Slot}
use Rattle.key_table.specs.declared.slot.Datum.{Datum}
use Rattle.key_table.specs.Slots.{slot_cmp}
use Rattle.key_table.specs.Tables.{Table, datum_fits}

abbrev pub Entries : Type 0
Entries = List (Slot × Datum)

abbrev pub AreAscending : Entries → Type 0
AreAscending entries = IsStrictlySortedBy slot_cmp (keys_of entries)

-- what stands at a slot
abbrev pub value_of : Slot → Entries → Option Datum
value_of slot entries = lookup (is_at (slot_cmp slot)) entries

-- the payment in which the slot has the datum, and every other slot what it had
abbrev pub with_value : Entries → Slot → Datum → Entries
with_value entries slot datum = insert_entry slot_cmp entries slot datum

-- the entries under a key
abbrev pub under : ℕ → Entries → Entries
under key entries = filter (λ (e : Slot × Datum). e.0.key == key) entries

-- whether each entry fits the table
abbrev pub is_legal : Table → Entries → Bool
is_legal table entries = list_all (λ (e : Slot × Datum). datum_fits table e.0 e.1) entries

-- After a put the slot has the datum, and every other slot has what it had.
abbrev pub PutLaw : Type 0
PutLaw = (es : Entries) (s t : Slot) (d : Datum) → value_of t (with_value es s d) ≡ (if is_eq (slot_cmp t s) then Some d else value_of t es)

-- A legal payment stays legal where a value that fits is put.
abbrev pub PutLegalLaw : Type 0
PutLegalLaw = (table : Table) (es : Entries) (s : Slot) (d : Datum) → datum_fits table s d ≡ true → is_legal table es ≡ true → is_legal table (with_value es s d) ≡ true

-- A payment is legal where its slots ascend, and what is found at each slot fits there.
abbrev pub FoundLegalLaw : Type 0
FoundLegalLaw = (table : Table) (es : Entries) → AreAscending es → ((s : Slot) (d : Datum) → value_of s es ≡ Some d → datum_fits table s d ≡ true) → is_legal table es ≡ true
