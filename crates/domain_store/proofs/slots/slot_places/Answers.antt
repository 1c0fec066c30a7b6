use Rattle.std.proofs.Common.{List, [], ℕ, ◌+◌, take, sym, subst}
use Rattle.std.proofs.lemmas.List.{take_all}
use Rattle.key_table.specs.declared.atom.Atom.{Atom}
use Rattle.key_table.specs.declared.slot.Slot.{Slot}
use Rattle.domain_store.specs.Kept.{ArePlaces}
use Rattle.domain_store.proofs.SlotLemmas.{places_none, places_next}
use Rattle.domain_store.proofs.slots.slot_places.Goals as goal

pub loop-atom-init : goal.loop-atom-init
loop-atom-init c =
    let P : List Slot → Type 0 = λ ss. ArePlaces [] ss [] in
    let Q : List ℕ → Type 0 = λ ps. ArePlaces [] c.args.slots.now.keys ps in
    subst Q (sym c.in_ok-places.ensures.items) (subst P (sym c.requires) places_none)

pub loop-atom-preserved : goal.loop-atom-preserved
loop-atom-preserved c =
    let P : List ℕ → Type 0 = λ ps. ArePlaces (take (c.loop-atom.atom-index + 1) c.args.atoms.now) c.insert_full.new.self.keys ps in
    subst P (sym c.in_ok-push.ensures.items)
    (places_next c.slot_law.ensures.equal c.args.atoms.now c.loop-atom.atom-index c.atom-item.result c.in_ok-copy.field-0 c.loop-atom.slots.keys c.insert_full.new.self.keys c.loop-atom.places.items c.in_ok-place.place
    c.loop-atom-test.true c.atom-item.is c.loop-atom.invariant c.in_ok-copy.ensures c.in_ok-place.ensures.keys c.in_ok-place.ensures.stored)

pub returns : goal.returns
returns c =
    let P : List Atom → Type 0 = λ xs. ArePlaces xs c.loop-atom.slots.keys c.loop-atom.places.items in
    subst P (take_all c.loop-atom.atom-index c.args.atoms.now c.loop-atom-test.false) c.loop-atom.invariant
