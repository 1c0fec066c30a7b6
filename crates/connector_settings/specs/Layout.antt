-- How the graph of settings is laid out. For each type entry there is a node for each thing that it asks, and then an all node over these; for each connector an any node over its entries; and last an any node over the connectors.
use Rattle.std.specs.Prelude.{ℕ, ◌+◌, List, [], ◌∷◌, ◌++◌, length, map, fold, Bool, true, false, if◌then◌else◌}
use Rattle.constraint_graph.specs.declared.node.Relation.{Relation}
use Rattle.constraint_graph.specs.declared.node.Relation.TheVariants.{Positive, Negative}
use Rattle.constraint_graph.specs.declared.node.Edge.{Edge}
use Rattle.constraint_graph.specs.declared.node.Gate.TheVariants as gate
use Rattle.constraint_graph.specs.declared.node.Node.{Node}
use Rattle.constraint_graph.specs.Graphs.{node_of}
use Rattle.connector_settings.specs.declared.keys.Keys.{Keys}
use Rattle.connector_settings.specs.declared.demand.Demand.{Demand}
use Rattle.connector_settings.specs.declared.settings.TypeEntry.{TypeEntry}
use Rattle.connector_settings.specs.declared.settings.Method.{Method}
use Rattle.connector_settings.specs.declared.settings.Connector.{Connector}
use Rattle.connector_settings.specs.declared.settings.Settings.{Settings}
use Rattle.connector_settings.specs.Demands.{demand_atom, demands_of}

-- the relation of the edge from a demand's node, by whether its atom has to be true
abbrev pub relation_of : Bool → Relation
relation_of true = Positive
relation_of false = Negative

-- a positive edge
abbrev pub positive : ℕ → Edge
positive from = record { from = from; relation = Positive }

-- the edges from the nodes of some demands, of which the first has this number
abbrev pub edges_from : ℕ → List Demand → List Edge
edges_from first [] = []
edges_from first (d ∷ ds) = record { from = first; relation = relation_of d.truth } ∷ edges_from (first + 1) ds

-- the node of a demand
abbrev pub test_node : Demand → Node
test_node d = node_of (gate.Test (demand_atom d))

-- a node that asks for all of these edges
abbrev pub all_node : List Edge → Node
all_node edges = record { gate = gate.All; incoming = edges }

-- a node that asks for some of these nodes
abbrev pub any_node : List ℕ → Node
any_node sources = record { gate = gate.Any; incoming = map positive sources }

-- the nodes so far, and the numbers of those that stand for what was laid out
pub record Plan : Type 0 where
  pub nodes : List Node
  pub roots : List ℕ

-- these nodes, of which these stand for what was laid out
abbrev pub planned : List Node → List ℕ → Plan
planned nodes roots = record { nodes = nodes; roots = roots }

-- the nodes with those of some demands, and an all node over these
abbrev pub with_demands : List Node → List Demand → List Node
with_demands nodes ds = (nodes ++ map test_node ds) ++ all_node (edges_from (length nodes) ds) ∷ []

-- the plan with a type entry of a method, for which its all node stands
abbrev pub entry_step : Keys → ℕ → Plan → TypeEntry → Plan
entry_step keys method plan entry = record {
  nodes = with_demands plan.nodes (demands_of keys method entry);
  roots = plan.roots ++ (length plan.nodes + length (demands_of keys method entry)) ∷ [];
}

-- the plan with the type entries of a method
abbrev pub method_step : Keys → Plan → Method → Plan
method_step keys plan method = fold (entry_step keys method.method) plan method.types

-- the nodes with the type entries of a connector, of which a disabled one has none
abbrev pub with_entries : Keys → List Node → Connector → Plan
with_entries keys nodes connector =
    if connector.disabled then planned nodes []
    else fold (method_step keys) (planned nodes []) connector.methods

-- the nodes of a plan with an any node over its roots, which stands for them beside other roots
abbrev pub with_any : List ℕ → Plan → Plan
with_any roots plan = record { nodes = plan.nodes ++ any_node plan.roots ∷ []; roots = roots ++ length plan.nodes ∷ [] }

-- the plan with a connector, for which its any node stands
abbrev pub connector_step : Keys → Plan → Connector → Plan
connector_step keys plan connector = with_any plan.roots (with_entries keys plan.nodes connector)

-- the plan of all connectors
abbrev pub connectors_plan : Keys → Settings → Plan
connectors_plan keys settings = fold (connector_step keys) (planned [] []) settings.connectors
