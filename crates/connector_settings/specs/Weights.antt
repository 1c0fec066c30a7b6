-- How many nodes and edges a layout takes at most, as one number: a node counts 8 and an edge 1, so that below 524,288 there are neither too many nodes nor too many edges.
use Rattle.std.specs.Prelude.{ℕ, ◌+◌, ◌*◌, List, length}
use Rattle.std.specs.List.{sum_by}
use Rattle.constraint_graph.specs.declared.node.Node.{Node}
use Rattle.constraint_graph.specs.Graphs.{edge_count}
use Rattle.connector_settings.specs.declared.settings.Method.{Method}
use Rattle.connector_settings.specs.declared.settings.Connector.{Connector}
use Rattle.connector_settings.specs.Layout.{Plan}

abbrev pub weight : List Node → ℕ
weight nodes = 8 * length nodes + edge_count nodes

-- With an edge from each root to a node that is still to come.
abbrev pub plan_weight : Plan → ℕ
plan_weight plan = weight plan.nodes + length plan.roots

-- A type entry adds at most 10 nodes and 9 edges, and is a root.
abbrev pub method_weight : Method → ℕ
method_weight method = 90 * length method.types

abbrev pub methods_weight : List Method → ℕ
methods_weight methods = sum_by method_weight methods

-- A connector adds a node and is a root.
abbrev pub connector_weight : Connector → ℕ
connector_weight connector = methods_weight connector.methods + 9

abbrev pub connectors_weight : List Connector → ℕ
connectors_weight connectors = sum_by connector_weight connectors
