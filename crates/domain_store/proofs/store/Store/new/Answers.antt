use Rattle.std.proofs.Common.{◌≡◌, ℕ, Bool, List, [], map, sym, subst}
use Rattle.key_table.specs.declared.atom.Atom.{Atom}
use Rattle.key_table.specs.declared.slot.Slot.{Slot}
use Rattle.interval_domains.specs.declared.domain.SlotDomain.{SlotDomain}
use Rattle.interval_domains.specs.Members.{slot_of}
use Rattle.domain_store.specs.Kept.{ArePlaces, AreNodePlaces, IsKept}
use Rattle.domain_store.specs.Stores.{Seen}
use Rattle.domain_store.proofs.KeptLemmas.{kept_new}
use Rattle.domain_store.proofs.NodeLemmas.{atom_of_node}
use Rattle.domain_store.proofs.SlotLemmas.{slots_have, slots_fit}
use Rattle.domain_store.proofs.store.Store.new.Goals as goal

pub node_places-requires : goal.node_places-requires
node_places-requires c = λ node atom at.
    let problem = c.args.problem.now in
    let P : List Atom → Type 0 = λ xs. ArePlaces xs c.slot_places.new.slots.keys c.in_ok-places.places.items in
    slots_have problem.atoms c.slot_places.new.slots.keys c.in_ok-places.places.items atom (subst P c.as_slice.ensures c.in_ok-places.ensures)
    (c.fits_law.ensures.graph c.args.table.now problem c.requires atom (atom_of_node problem.graph node atom at))

pub full_domains-requires : goal.full_domains-requires
full_domains-requires c =
    let problem = c.args.problem.now in
    let P : List Atom → Type 0 = λ xs. ArePlaces xs c.slot_places.new.slots.keys c.in_ok-places.places.items in
    slots_fit c.args.table.now problem.atoms c.slot_places.new.slots.keys c.in_ok-places.places.items (subst P c.as_slice.ensures c.in_ok-places.ensures)
    (c.fits_law.ensures.atoms c.args.table.now problem c.requires)

pub invariant_of-result : goal.invariant_of-result
invariant_of-result c =
    let table = c.args.table.now in
    let problem = c.args.problem.now in
    let ds = c.in_ok-domains.domains.items in
    let ps = c.in_ok-places.places.items in
    let ns = c.in_ok-node_places.node_places.items in
    let keys = c.slot_places.new.slots.keys in
    let P : List Atom → Type 0 = λ xs. ArePlaces xs keys ps in
    let S : List Slot → Type 0 = λ ss. ArePlaces problem.atoms ss ps in
    let N : List Slot → Type 0 = λ ss. AreNodePlaces problem.graph ss ns in
    let slots : map slot_of ds ≡ keys = c.in_ok-domains.ensures.slots in
    let seen : Seen = record { table = table; problem = problem; assumptions = [] } in
    let Q : List (ℕ × Bool) → Type 0 = λ xs. IsKept (record seen { assumptions = xs }) ds ps ns [] in
    let R : List SlotDomain → Type 0 = λ rs. IsKept (record seen { assumptions = c.new.result.items }) ds ps ns rs in
    subst R (sym c.new-2.ensures.items) (subst Q (sym c.new.ensures.items)
    (kept_new table problem ds ps ns c.requires (subst S (sym slots) (subst P c.as_slice.ensures c.in_ok-places.ensures)) (subst N (sym slots) c.in_ok-node_places.ensures) c.in_ok-domains.ensures.full))
