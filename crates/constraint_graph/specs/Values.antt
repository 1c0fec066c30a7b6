-- What the nodes of a graph are worth, by what its atoms are worth.
use Rattle.std.specs.Prelude.{ℕ, List, [], ◌∷◌, ◌++◌, slice_index_or, fold, Bool}
use Rattle.key_table.specs.declared.atom.Atom.{Atom}
use Rattle.key_table.specs.declared.atom.Verdict3.{Verdict3}
use Rattle.key_table.specs.Options.{holds_on}
use Rattle.key_table.specs.Payments.{Entries}
use Rattle.constraint_graph.specs.declared.node.Relation.{Relation}
use Rattle.constraint_graph.specs.declared.node.Relation.TheVariants.{Positive, Negative}
use Rattle.constraint_graph.specs.declared.node.Edge.{Edge}
use Rattle.constraint_graph.specs.declared.node.Gate.{Gate}
use Rattle.constraint_graph.specs.declared.node.Gate.TheVariants as gate
use Rattle.constraint_graph.specs.declared.node.Node.{Node}
use Rattle.constraint_graph.specs.Logics.{Logic, every, some, two_valued, three_valued}

abbrev pub related : {V : Type 0} → Logic V → Relation → V → V
related logic Positive source = source
related logic Negative source = logic.opposite source

-- An edge carries the value of its source, or the opposite.
abbrev pub carried : {V : Type 0} → Logic V → List V → Edge → V
carried logic before edge = related logic edge.relation (slice_index_or before edge.from logic.no)

-- A test node asks for its atom and, where edges lead to it, for some of them; an all node for every edge, an any node for some.
abbrev pub gate_value : {V : Type 0} → Logic V → (Atom → V) → (Edge → V) → Gate → List Edge → V
gate_value logic says carries (gate.Test atom) [] = says atom
gate_value logic says carries (gate.Test atom) (edge ∷ edges) = logic.both (says atom) (some logic carries (edge ∷ edges))
gate_value logic says carries gate.All edges = every logic carries edges
gate_value logic says carries gate.Any edges = some logic carries edges

-- a node's value, by the values of the nodes before it
abbrev pub node_value : {V : Type 0} → Logic V → (Atom → V) → List V → Node → V
node_value logic says before node = gate_value logic says (carried logic before) node.gate node.incoming

-- The values of the nodes in order. Each is made of those before it, since edges come from lower nodes.
abbrev pub values : {V : Type 0} → Logic V → (Atom → V) → List Node → List V
values logic says nodes = fold (λ before node. before ++ node_value logic says before node ∷ []) [] nodes

abbrev pub value : {V : Type 0} → Logic V → (Atom → V) → List Node → ℕ → V
value logic says nodes node = slice_index_or (values logic says nodes) node logic.no

-- Whether a node holds of a payment.
abbrev pub holds : List Node → Entries → ℕ → Bool
holds nodes payment = value two_valued (λ atom. holds_on atom payment) nodes

-- What is known of a node, by what is known of the atoms.
abbrev pub verdict : (Atom → Verdict3) → List Node → ℕ → Verdict3
verdict says = value three_valued says
