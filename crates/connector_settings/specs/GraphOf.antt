-- What the graph of settings is.
use Rattle.std.specs.Prelude.{◌≡◌, ◌↔◌, ◌<◌, length, map, true}
use Rattle.std.specs.List.{All, Contains}
use Rattle.key_table.specs.declared.atom.Atom.{Atom}
use Rattle.key_table.specs.declared.atom.Verdict3.{Verdict3}
use Rattle.key_table.specs.Tables.{Table}
use Rattle.key_table.specs.Atoms.{atom_fits}
use Rattle.key_table.specs.Payments.{Entries}
use Rattle.constraint_graph.specs.Graphs.{atoms_of}
use Rattle.constraint_graph.specs.Values.{holds, verdict}
use Rattle.connector_settings.specs.declared.settings.Settings.{Settings}
use Rattle.connector_settings.specs.declared.layout.ConnectorGraph.{ConnectorGraph}
use Rattle.connector_settings.specs.Takes.{takes, connector_takes, takes_verdict, connector_verdict, atoms_of_settings}

-- A graph of settings takes what they take, and each connector's node what that connector takes, in two values and in three; and its atoms are theirs.
pub record IsGraphOf (table : Table) (settings : Settings) (g : ConnectorGraph) : Type 0 where
  pub goal_holds : (payment : Entries) → holds g.graph payment g.goal ≡ takes table settings payment
  pub each_holds : (payment : Entries) → map (holds g.graph payment) g.per_connector ≡ map (connector_takes table payment) settings.connectors
  pub goal_verdict : (says : Atom → Verdict3) → verdict says g.graph g.goal ≡ takes_verdict table settings says
  pub each_verdict : (says : Atom → Verdict3) → map (verdict says g.graph) g.per_connector ≡ map (connector_verdict table says) settings.connectors
  pub atoms : (atom : Atom) → Contains (atoms_of g.graph) atom ↔ Contains (atoms_of_settings table settings) atom

-- A connector graph is made with a table: the atom of each test node fits it, and the goal and the connectors' nodes are nodes.
pub record IsMadeWith (table : Table) (g : ConnectorGraph) : Type 0 where
  pub atoms_fit : All (λ atom. atom_fits table atom ≡ true) (atoms_of g.graph)
  pub goal_within : g.goal < length g.graph
  pub each_within : All (λ n. n < length g.graph) g.per_connector
