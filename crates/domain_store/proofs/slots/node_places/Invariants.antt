use Rattle.std.proofs.Common.{◌≡◌, ℕ, ◌<◌, length, get_or, slice_get, Some}
use Rattle.key_table.specs.declared.atom.Atom.{Atom}
use Rattle.domain_store.specs.Kept.{atom_at}
use Rattle.domain_store.proofs.slots.node_places.Given as goal

abbrev pub invariant-loop-node : goal.invariant-loop-node
invariant-loop-node l = record {
  count : length l.places.items ≡ l.node;
  at : (node : ℕ) (atom : Atom) → node < l.node → atom_at l.graph node ≡ Some (Some atom) → slice_get l.slots.keys (get_or l.places.items node 0) ≡ Some atom.slot;
}
