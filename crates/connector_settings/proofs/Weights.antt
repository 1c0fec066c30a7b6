-- What a layout adds to nodes and edges.
use Rattle.std.proofs.Common.{◌≡◌, ℕ, ◌+◌, ◌*◌, ◌<◌, ◌≤◌, List, [], ◌∷◌, ◌++◌, length, get_or, take, map, fold, Bool, true, false, cond, Option, Some, None, ℤ, refl, ap, arith}
use Rattle.std.specs.List.{sum_by}
use Rattle.std.proofs.lemmas.List.{length-append, length_push, length-map}
use Rattle.std.proofs.lemmas.List.Sums.{sum_by-append, sum_by_push, sum_by-cons, sum_by_more_le}
use Rattle.constraint_graph.specs.declared.node.Node.{Node}
use Rattle.constraint_graph.specs.Graphs.{edge_count}
use Rattle.key_table.specs.declared.atom.Op.{Op}
use Rattle.key_table.specs.declared.atom.Op.TheVariants.{GreaterEqual, LessEqual}
use Rattle.connector_settings.specs.declared.keys.Keys.{Keys}
use Rattle.connector_settings.specs.declared.demand.Demand.{Demand}
use Rattle.connector_settings.specs.declared.settings.Accept.{Accept}
use Rattle.connector_settings.specs.declared.settings.Accept.TheVariants.{All, Only, Except}
use Rattle.connector_settings.specs.declared.settings.TypeEntry.{TypeEntry}
use Rattle.connector_settings.specs.declared.settings.Method.{Method}
use Rattle.connector_settings.specs.declared.settings.Connector.{Connector}
use Rattle.connector_settings.specs.Demands.{network_demands, only_demands, except_demands, bound_demands, demands_of}
use Rattle.connector_settings.specs.Layout.{Plan, planned, test_node, all_node, any_node, edges_from, with_demands, entry_step, method_step, with_entries, connector_step, positive}
use Rattle.connector_settings.specs.Weights.{weight, plan_weight, method_weight, methods_weight, connector_weight, connectors_weight}
use Rattle.connector_settings.proofs.Nodes.{length-edges_from}

networks_one : (key : ℕ) (ws : List ℕ) → length (network_demands key ws) ≤ 1
networks_one key [] = omega arith
networks_one key (w ∷ ws) = omega arith

only_one : (key : ℕ) (a : Accept) → length (only_demands key a) ≤ 1
only_one key All = omega arith
only_one key (Only ws) = omega arith
only_one key (Except ws) = omega arith

except_one : (key : ℕ) (a : Accept) → length (except_demands key a) ≤ 1
except_one key All = omega arith
except_one key (Only ws) = omega arith
except_one key (Except ws) = omega arith

bound_one : (key : ℕ) (op : Op) (b : Option ℤ) → length (bound_demands key op b) ≤ 1
bound_one key op None = omega arith
bound_one key op (Some n) = omega arith

longer : {X : Type 0} (xs ys : List X) (n : ℕ) → length xs ≤ 1 → length ys ≤ n → length (xs ++ ys) ≤ n + 1
longer xs ys n one rest = omega (arith, length-append xs ys)

-- an entry asks at most nine things
pub demands_nine : (keys : Keys) (method : ℕ) (e : TypeEntry) → length (demands_of keys method e) ≤ 9
demands_nine keys method e =
    let last = longer (except_demands keys.currency e.currencies) (except_demands keys.country e.countries) 1 (except_one keys.currency e.currencies) (except_one keys.country e.countries) in
    let most = longer (bound_demands keys.amount LessEqual e.maximum) _ 2 (bound_one keys.amount LessEqual e.maximum) last in
    let least = longer (bound_demands keys.amount GreaterEqual e.minimum) _ 3 (bound_one keys.amount GreaterEqual e.minimum) most in
    let countries = longer (only_demands keys.country e.countries) _ 4 (only_one keys.country e.countries) least in
    let currencies = longer (only_demands keys.currency e.currencies) _ 5 (only_one keys.currency e.currencies) countries in
    let networks = longer (network_demands keys.network e.networks) _ 6 (networks_one keys.network e.networks) currencies in
    omega arith

tests_no_edges : (ds : List Demand) → edge_count (map test_node ds) ≡ 0
tests_no_edges [] = refl
tests_no_edges (d ∷ ds) = omega (arith, sum_by-cons (λ (n : Node). length n.incoming) (test_node d) (map test_node ds), tests_no_edges ds)

pub length-with_demands : (nodes : List Node) (ds : List Demand) → length (with_demands nodes ds) ≡ length nodes + length ds + 1
length-with_demands nodes ds =
    omega (arith, length_push (nodes ++ map test_node ds) (all_node (edges_from (length nodes) ds)), length-append nodes (map test_node ds), length-map ds test_node)

pub edges-tests : (nodes : List Node) (ds : List Demand) → edge_count (nodes ++ map test_node ds) ≡ edge_count nodes
edges-tests nodes ds = omega (arith, sum_by-append (λ (n : Node). length n.incoming) nodes (map test_node ds), tests_no_edges ds)

edges-with_demands : (nodes : List Node) (ds : List Demand) → edge_count (with_demands nodes ds) ≡ edge_count nodes + length ds
edges-with_demands nodes ds =
    omega (arith, sum_by_push (λ (n : Node). length n.incoming) (nodes ++ map test_node ds) (all_node (edges_from (length nodes) ds)), edges-tests nodes ds, length-edges_from (length nodes) ds)

entry_weighs : (keys : Keys) (method : ℕ) (plan : Plan) (e : TypeEntry) → plan_weight (entry_step keys method plan e) ≤ plan_weight plan + 90
entry_weighs keys method plan e =
    let ds = demands_of keys method e in
    omega (arith, demands_nine keys method e, length-with_demands plan.nodes ds, edges-with_demands plan.nodes ds, length_push plan.roots (length plan.nodes + length ds))

-- over a list, what each step adds
pub fold_weighs : {X : Type 0} (f : Plan → X → Plan) (w : X → ℕ) → ((p : Plan) (x : X) → plan_weight (f p x) ≤ plan_weight p + w x) → (p : Plan) (xs : List X) → plan_weight (fold f p xs) ≤ plan_weight p + sum_by w xs
fold_weighs f w one p [] = omega arith
fold_weighs f w one p (x ∷ xs) = omega (arith, fold_weighs f w one (f p x) xs, one p x, sum_by-cons w x xs)

pub sum_same : {X : Type 0} (n : ℕ) (xs : List X) → sum_by (λ (x : X). n) xs ≡ n * length xs
sum_same n [] = omega arith
sum_same {X} n (x ∷ xs) = omega (arith, sum_by-cons (λ (x : X). n) x xs, sum_same {X = X} n xs)

pub entries_weigh : (keys : Keys) (method : ℕ) (p : Plan) (es : List TypeEntry) → plan_weight (fold (entry_step keys method) p es) ≤ plan_weight p + 90 * length es
entries_weigh keys method p es = omega (arith, fold_weighs (entry_step keys method) (λ (e : TypeEntry). 90) (entry_weighs keys method) p es, sum_same {X = TypeEntry} 90 es)

pub method_weighs : (keys : Keys) (p : Plan) (m : Method) → plan_weight (method_step keys p m) ≤ plan_weight p + method_weight m
method_weighs keys p m = entries_weigh keys m.method p m.types

pub methods_weigh : (keys : Keys) (p : Plan) (ms : List Method) → plan_weight (fold (method_step keys) p ms) ≤ plan_weight p + methods_weight ms
methods_weigh keys = fold_weighs (method_step keys) method_weight (method_weighs keys)

pub with_entries_weighs : (keys : Keys) (nodes : List Node) (c : Connector) → plan_weight (with_entries keys nodes c) ≤ weight nodes + methods_weight c.methods
with_entries_weighs keys nodes c =
    elim c.disabled as (λ (b : Bool). plan_weight (cond b (planned nodes []) (fold (method_step keys) (planned nodes []) c.methods)) ≤ weight nodes + methods_weight c.methods) [
      | true ↦ omega arith
      | false ↦ (let all = methods_weigh keys (planned nodes []) c.methods in omega arith)
    ]

pub connector_weighs : (keys : Keys) (p : Plan) (c : Connector) → plan_weight (connector_step keys p c) ≤ plan_weight p + connector_weight c
connector_weighs keys p c =
    let i = with_entries keys p.nodes c in
    omega (arith, with_entries_weighs keys p.nodes c, length_push i.nodes (any_node i.roots), sum_by_push (λ (n : Node). length n.incoming) i.nodes (any_node i.roots), length-map i.roots positive, length_push p.roots (length i.nodes))

pub connectors_weigh : (keys : Keys) (p : Plan) (cs : List Connector) → plan_weight (fold (connector_step keys) p cs) ≤ plan_weight p + connectors_weight cs
connectors_weigh keys = fold_weighs (connector_step keys) connector_weight (connector_weighs keys)

-- at each turn there is room for what the next one adds
room_for : {X : Type 0} (f : Plan → X → Plan) (w : X → ℕ) → ((p : Plan) (x : X) → plan_weight (f p x) ≤ plan_weight p + w x) → (p now : Plan) (xs : List X) (i : ℕ) (d : X) → now ≡ fold f p (take i xs) → i < length xs → plan_weight now + w (get_or xs i d) ≤ plan_weight p + sum_by w xs
room_for f w one p now xs i d is within =
    omega (arith, ap plan_weight is, fold_weighs f w one p (take i xs), sum_by_more_le w xs i d within)

pub room_for_entry : (keys : Keys) (method : ℕ) (p now : Plan) (es : List TypeEntry) (i : ℕ) (d : TypeEntry) → now ≡ fold (entry_step keys method) p (take i es) → i < length es → plan_weight now + 90 ≤ plan_weight p + 90 * length es
room_for_entry keys method p now es i d is within =
    omega (arith, room_for (entry_step keys method) (λ (e : TypeEntry). 90) (entry_weighs keys method) p now es i d is within, sum_same {X = TypeEntry} 90 es)

pub room_for_method_at : (keys : Keys) (p now : Plan) (ms : List Method) (i : ℕ) (m : Method) → m ≡ get_or ms i m → now ≡ fold (method_step keys) p (take i ms) → i < length ms → plan_weight now + method_weight m ≤ plan_weight p + methods_weight ms
room_for_method_at keys p now ms i m read is within =
    omega (arith, room_for (method_step keys) method_weight (method_weighs keys) p now ms i m is within, ap method_weight read)

pub room_for_connector_at : (keys : Keys) (p now : Plan) (cs : List Connector) (i : ℕ) (c : Connector) → c ≡ get_or cs i c → now ≡ fold (connector_step keys) p (take i cs) → i < length cs → plan_weight now + connector_weight c ≤ plan_weight p + connectors_weight cs
room_for_connector_at keys p now cs i c read is within =
    omega (arith, room_for (connector_step keys) connector_weight (connector_weighs keys) p now cs i c is within, ap connector_weight read)

-- a plan is no heavier than what it equals
pub weight_same : (p q : Plan) → p ≡ q → plan_weight p ≡ plan_weight q
weight_same p q is = ap plan_weight is
