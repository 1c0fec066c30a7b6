use Rattle.std.proofs.Common.{take}
use Rattle.domain_store.specs.Kept.{ArePlaces}
use Rattle.domain_store.proofs.slots.slot_places.Given as goal

abbrev pub invariant-loop-atom : goal.invariant-loop-atom
invariant-loop-atom l = ArePlaces (take l.atom-index l.atoms) l.slots.keys l.places.items
