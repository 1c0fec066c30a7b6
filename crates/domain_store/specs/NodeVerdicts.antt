-- Verdicts of the atoms of a graph's nodes.
use Rattle.std.specs.Prelude.{◌≡◌, ℕ, List, length, Some, slice_index_or}
use Rattle.key_table.specs.declared.atom.Atom.{Atom}
use Rattle.key_table.specs.declared.atom.Verdict3.{Verdict3}
use Rattle.key_table.specs.declared.atom.Verdict3.TheVariants.{Refuted}
use Rattle.key_table.specs.Contexts.{HasVerdict}
use Rattle.constraint_graph.specs.declared.node.Node.{Node}
use Rattle.domain_store.specs.Kept.{atom_at}
use Rattle.domain_store.specs.Stores.{Seen, context_of}

-- The verdict of each node's own atom is the one that is given to the atom.
abbrev pub Gives : List Node → List Verdict3 → (Atom → Verdict3) → Type 0
Gives graph own says = (node : ℕ) (atom : Atom) → atom_at graph node ≡ Some (Some atom) → says atom ≡ slice_index_or own node Refuted

-- For each node that has an atom there is this atom's verdict in the context.
pub record AreOwnVerdicts (seen : Seen) (own : List Verdict3) : Type 0 where
  pub count : length own ≡ length seen.problem.graph
  pub are : (node : ℕ) (atom : Atom) → atom_at seen.problem.graph node ≡ Some (Some atom) → HasVerdict seen.table (context_of seen) atom (slice_index_or own node Refuted)
