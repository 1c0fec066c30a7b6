-- The payment of the picks of a store's slots.
use Rattle.std.specs.Prelude.{◌≡◌, ℕ, ◌<◌, List, true, Option, None, Some, length, slice_index_or}
use Rattle.std.specs.List.{All, Contains}
use Rattle.key_table.specs.declared.atom.Atom.{Atom}
use Rattle.key_table.specs.declared.slot.Slot.{Slot}
use Rattle.key_table.specs.declared.slot.Datum.{Datum}
use Rattle.key_table.specs.Payments.{Entries, value_of, with_value, is_legal}
use Rattle.key_table.specs.Tables.{Table, datum_fits}
use Rattle.interval_domains.specs.declared.domain.SlotDomain.{SlotDomain}
use Rattle.interval_domains.specs.Members.{members, slot_of}
use Rattle.interval_domains.specs.Picks.{IsPick}
use Rattle.domain_store.specs.Stores.{Seen, open_options}

-- A legal payment with the pick of the options that are left to the slot of each of the problem's atoms, and nothing at any other slot.
pub record IsPayment (seen : Seen) (entries : Entries) : Type 0 where
  pub legal : is_legal seen.table entries ≡ true
  pub picks : (atom : Atom) → Contains seen.problem.atoms atom → IsPick (open_options seen atom.slot) (value_of atom.slot entries)
  pub others : (slot : Slot) → ((atom : Atom) → Contains seen.problem.atoms atom → slot ≡ atom.slot → ⊥) → value_of slot entries ≡ None

-- the payment with what was picked at a slot at which nothing is
abbrev pub with_pick : Entries → Slot → Option Datum → Entries
with_pick entries slot None = entries
with_pick entries slot (Some datum) = with_value entries slot datum

-- At the slot of each domain the payment has its pick, and at no other slot anything.
pub record ArePicks (domains : List SlotDomain) (entries : Entries) : Type 0 where
  pub picks : (i : ℕ) (d : SlotDomain) → i < length domains → IsPick (members (slice_index_or domains i d)) (value_of (slot_of (slice_index_or domains i d)) entries)
  pub others : (slot : Slot) → ((i : ℕ) (d : SlotDomain) → i < length domains → slot ≡ slot_of (slice_index_or domains i d) → ⊥) → value_of slot entries ≡ None

-- Each value in the domain is legal at its slot.
abbrev pub FitsAt : Table → SlotDomain → Type 0
FitsAt table domain = (datum : Datum) → members domain (Some datum) ≡ true → datum_fits table (slot_of domain) datum ≡ true

-- So it is in each domain.
abbrev pub AreFitting : Table → List SlotDomain → Type 0
AreFitting table domains = All (FitsAt table) domains
