use Rattle.std.proofs.Common.{rules}
use Rattle.std.proofs.lemmas.Fn.{always_returns_same}
use Rattle.std.specs.Option.{option_copied}
use Rattle.std.specs.Ordering.{ordering_reverse}
use Rattle.key_table.specs.declared.slot.Slot.{Slot}
use Rattle.key_table.specs.declared.slot.Datum.{Datum}
use Rattle.key_table.specs.Slots.{slot_cmp, at}
use Rattle.key_table.proofs.Places.{searched}
use Rattle.key_table.proofs.payment.place.Goals as goal

-- the closure answers the order of an entry against the slot
pub returns : goal.returns
returns c =
    let facts = c.binary_search_by.ensures in
    let slot : Slot = at c.args.key (option_copied c.args.sub) in
    searched c.args.entries.now slot _ c.requires facts.bound (facts.position (λ (e : Slot × Datum). ordering_reverse (slot_cmp slot e.0)) (always_returns_same _ _ _ (λ a r g called. search rules)))
