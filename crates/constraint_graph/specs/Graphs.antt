-- Graphs: lists of nodes. A node's number is its place.
use Rattle.std.specs.Prelude.{ℕ, ◌<◌, ◌≤◌, nat_lt, zero, suc, List, [], ◌∷◌, ◌++◌, length, slice_index_or, Bool, true, false, ◌&&◌, if◌then◌else◌, Option, Some, None, Result, Ok, Err}
use Rattle.std.specs.List.{All, filter_map, sum_by}
use Rattle.key_table.specs.declared.atom.Atom.{Atom}
use Rattle.key_table.specs.declared.atom.Test.{Test}
use Rattle.key_table.specs.declared.slot.Slot.{Slot}
use Rattle.constraint_graph.specs.declared.error.BuildError.{BuildError}
use Rattle.constraint_graph.specs.declared.node.Edge.{Edge}
use Rattle.constraint_graph.specs.declared.node.Gate.{Gate}
use Rattle.constraint_graph.specs.declared.node.Gate.TheVariants as gate
use Rattle.constraint_graph.specs.declared.node.Node.{Node}

-- the atom of a node whose test is this one test on a slot that is there
abbrev pub value_atom : Slot → Test → Atom
value_atom slot test = record { slot = slot; none_of = false; tests = test ∷ [] }

-- the atom of a node whose test is that the slot is there
abbrev pub key_atom : Slot → Atom
key_atom slot = record { slot = slot; none_of = true; tests = [] }

-- the atom of a node whose test is that the slot is there and some of these tests is true
abbrev pub set_atom : Slot → List Test → Atom
set_atom slot tests = record { slot = slot; none_of = false; tests = tests }

-- the atom of a test node
abbrev pub atom_of_gate : Gate → Option Atom
atom_of_gate (gate.Test atom) = Some atom
atom_of_gate gate.All = None
atom_of_gate gate.Any = None

abbrev pub atom_of : Node → Option Atom
atom_of node = atom_of_gate node.gate

-- the atoms of the test nodes, in order
abbrev pub atoms_of : List Node → List Atom
atoms_of nodes = filter_map atom_of nodes

abbrev pub is_all_gate : Gate → Bool
is_all_gate gate.All = true
is_all_gate _ = false

-- whether it is an all node
abbrev pub is_all : Node → Bool
is_all node = is_all_gate node.gate

-- how many edges there are
abbrev pub edge_count : List Node → ℕ
edge_count nodes = sum_by (λ node. length node.incoming) nodes

-- At most 65,536 nodes and 524,288 edges, each of which comes from a lower node.
pub record IsGraph (nodes : List Node) : Type 0 where
  pub few_nodes : length nodes ≤ 65536
  pub few_edges : edge_count nodes ≤ 524288
  pub ascending : (k : ℕ) (d : Node) → k < length nodes → All (λ edge. edge.from < k) (slice_index_or nodes k d).incoming

abbrev pub refusal : ℕ → BuildError
refusal code = record { code = code }

-- a node without edges
abbrev pub node_of : Gate → Node
node_of gate = record { gate = gate; incoming = [] }

-- The nodes with one more, and its number. A 65,537th is refused.
abbrev pub node_added : List Node → Gate → Result (ℕ × List Node) BuildError
node_added nodes gate = if nat_lt (length nodes) 65536 then Ok (length nodes, nodes ++ node_of gate ∷ []) else Err (refusal 3)

-- the nodes, of which one has one more edge to it
abbrev pub with_edge : List Node → ℕ → Edge → List Node
with_edge [] to edge = []
with_edge (node ∷ nodes) zero edge = record { gate = node.gate; incoming = node.incoming ++ edge ∷ [] } ∷ nodes
with_edge (node ∷ nodes) (suc to) edge = node ∷ with_edge nodes to edge

-- The nodes with one more edge: between nodes, from a lower to a higher one, and no 524,289th.
abbrev pub edge_added : List Node → ℕ → Edge → Result (List Node) BuildError
edge_added nodes to edge =
    if nat_lt edge.from (length nodes) && nat_lt to (length nodes) then (
    if nat_lt edge.from to then (
    if nat_lt (edge_count nodes) 524288 then Ok (with_edge nodes to edge)
    else Err (refusal 3))
    else Err (refusal 1))
    else Err (refusal 2)
