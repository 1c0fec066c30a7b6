use Rattle.std.proofs.Common.{◌∙◌, sym}
use Rattle.std.proofs.lemmas.Bool.{true≢false}
use Rattle.domain_store.proofs.SlotLemmas.{found_at, is_found}
use Rattle.domain_store.proofs.slots.place_of.Goals as goal

pub unreachable-requires : goal.unreachable-requires
unreachable-requires c = true≢false (sym (is_found c.args.slots.now.keys c.args.slot.now c.requires) ∙ sym c.in-None.ensures.found)

pub returns : goal.returns
returns c = found_at c.slot_law.ensures.equal c.args.slots.now.keys c.args.slot.now c.in-Some.place (sym c.in-Some.ensures.index)
