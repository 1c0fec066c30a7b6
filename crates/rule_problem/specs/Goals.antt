-- The verdict of a node of a graph in a context.
use Rattle.std.specs.Prelude.{◌≡◌, ℕ, List}
use Rattle.key_table.specs.declared.atom.Atom.{Atom}
use Rattle.key_table.specs.declared.atom.Verdict3.{Verdict3}
use Rattle.key_table.specs.Contexts.{Context, HasVerdict}
use Rattle.key_table.specs.Tables.{Table}
use Rattle.constraint_graph.specs.declared.node.Node.{Node}
use Rattle.constraint_graph.specs.Laws.{OfEach}
use Rattle.constraint_graph.specs.Values.{verdict}

-- Each atom of the graph is given its verdict in the context. On a void slot that is refuted.
abbrev pub AreVerdicts : Table → Context → List Node → (Atom → Verdict3) → Type 0
AreVerdicts table context graph says = OfEach (λ atom. HasVerdict table context atom (says atom)) graph

-- The goal's verdict in a context is what the graph makes of the verdicts of its atoms.
pub record GoalHasVerdict (table : Table) (context : Context) (graph : List Node) (goal : ℕ) (v : Verdict3) : Type 0 where
  pub says : Atom → Verdict3
  pub are : AreVerdicts table context graph says
  pub is : verdict says graph goal ≡ v
