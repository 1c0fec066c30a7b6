-- When two slots are the same.
use Rattle.std.proofs.Common.{◌≡◌, true}
use Rattle.std.specs.Cmp.{IsEquivalence, Equal-is, eq_by_cmp_equiv}
use Rattle.key_table.specs.declared.slot.Slot.{Slot}
use Rattle.key_table.specs.Slots.{slot_cmp}
use Rattle.key_table.proofs.Sorted.{slot_cmp_total}
use Rattle.key_table.proofs.OptionLemmas.{same_slot}
use Rattle.key_table.specs.contracts.slot.SlotPartialEq.TheImpl as by_equality
use Rattle.key_table.specs.contracts.slot.SlotOrd.TheImpl.Laws as by_order
use Rattle.vir_lowering.specs.Grouped.{is_slot}

pub is_slot_laws : IsEquivalence is_slot
is_slot_laws = eq_by_cmp_equiv slot_cmp_total

pub equal_slots : (s t : Slot) → is_slot s t ≡ true → s ≡ t
equal_slots s t h = same_slot s t ((Equal-is (slot_cmp s t)).0 h)

-- Slots that are found equal are the same.
pub slots_alike : (s t : Slot) → by_equality.eq-value.it s t ≡ is_slot s t
slots_alike = by_order.matches_eq-law
