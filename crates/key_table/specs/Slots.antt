-- Slots and their order: by key, then no sub name first, then by the bytes of the sub name.
use Rattle.std.specs.Prelude.{◌≡◌, ℕ, List, Option}
use Rattle.std.specs.declared.cmp.Ordering.{Ordering}
use Rattle.std.specs.declared.cmp.Ordering.TheVariants.{Equal}
use Rattle.std.specs.Ordering.{nat_cmp, then_cmp, on}
use Rattle.std.specs.Option.{option_cmp}
use Rattle.std.specs.Cmp.Lexicographic.{slice_cmp}
use Rattle.key_table.specs.declared.slot.Slot.{Slot}

abbrev pub slot_cmp : Slot → Slot → Ordering
slot_cmp = then_cmp (on (λ s. s.key) nat_cmp) (on (λ s. s.sub) (option_cmp (slice_cmp nat_cmp)))

-- the slot of a key, and of a sub name under it
abbrev pub at : ℕ → Option (List ℕ) → Slot
at key sub = record { key = key; sub = sub }

-- Slots that compare equal are equal.
abbrev pub SameSlotLaw : Type 0
SameSlotLaw = (s t : Slot) → slot_cmp s t ≡ Equal → s ≡ t
