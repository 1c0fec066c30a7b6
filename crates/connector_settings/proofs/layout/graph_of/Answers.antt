use Rattle.std.proofs.Common.{◌<◌, ◌∙◌, List, ℕ, [], ◌∷◌, ◌++◌, length, ap, arith, refl, subst, sym}
use Rattle.std.specs.List.{All}
use Rattle.constraint_graph.specs.declared.node.Node.{Node}
use Rattle.constraint_graph.specs.Graphs.{edge_count}
use Rattle.connector_settings.specs.Keys.{keys_of}
use Rattle.connector_settings.specs.Layout.{planned, any_node, connectors_plan}
use Rattle.connector_settings.specs.Weights.{connectors_weight}
use Rattle.connector_settings.proofs.Weights.{weight_same, connectors_weigh}
use Rattle.connector_settings.proofs.Plans.{connectors_rooted, within_of}
use Rattle.connector_settings.proofs.GraphOf.{fits_room, same_plan, is_graph_of, is_made_with}
use Rattle.connector_settings.proofs.layout.graph_of.Goals as goal

-- settings that fit leave room
pub add_connectors-requires : goal.add_connectors-requires
add_connectors-requires c =
    omega (arith, fits_room c.args.table.now c.args.settings.now c.requires, ap connectors_weight c.as_slice.ensures, ap (λ (ns : List Node). length ns) c.new-builder.ensures, ap (λ (ns : List Node). edge_count ns) c.new-builder.ensures)

pub add_any-requires-clause-nodes : goal.add_any-requires-clause-nodes
add_any-requires-clause-nodes c =
    let connectors = c.args.settings.now.connectors in
    let keys = keys_of c.args.table.now in
    let now = planned c.add_connectors.new.builder c.in_ok-per_connector.per_connector in
    let plan = same_plan now c.of-keys.result keys c.new-builder.result c.as_slice.result.now connectors c.in_ok-per_connector.ensures c.of-keys.ensures c.new-builder.ensures c.as_slice.ensures in
    omega (arith, fits_room c.args.table.now c.args.settings.now c.requires, weight_same now (connectors_plan keys c.args.settings.now) plan, connectors_weigh keys (planned [] []) connectors)

pub add_any-requires-clause-edges : goal.add_any-requires-clause-edges
add_any-requires-clause-edges c =
    let connectors = c.args.settings.now.connectors in
    let keys = keys_of c.args.table.now in
    let now = planned c.add_connectors.new.builder c.in_ok-per_connector.per_connector in
    let plan = same_plan now c.of-keys.result keys c.new-builder.result c.as_slice.result.now connectors c.in_ok-per_connector.ensures c.of-keys.ensures c.new-builder.ensures c.as_slice.ensures in
    omega (arith, fits_room c.args.table.now c.args.settings.now c.requires, weight_same now (connectors_plan keys c.args.settings.now) plan, connectors_weigh keys (planned [] []) connectors, ap (λ (rs : List ℕ). length rs) c.as_slice-2.ensures)

-- the roots are nodes
pub add_any-requires-clause-lower : goal.add_any-requires-clause-lower
add_any-requires-clause-lower c =
    let connectors = c.args.settings.now.connectors in
    let keys = keys_of c.args.table.now in
    let nodes = c.add_connectors.new.builder in
    let now = planned nodes c.in_ok-per_connector.per_connector in
    let plan = same_plan now c.of-keys.result keys c.new-builder.result c.as_slice.result.now connectors c.in_ok-per_connector.ensures c.of-keys.ensures c.new-builder.ensures c.as_slice.ensures in
    let P : List ℕ → Type 0 = λ rs. All (λ n. n < length nodes) rs in
    subst P (sym c.as_slice-2.ensures) (within_of nodes c.in_ok-per_connector.per_connector (connectors_plan keys c.args.settings.now) plan (connectors_rooted keys connectors))

pub returns-clause-graph : goal.returns-clause-graph
returns-clause-graph c =
    let connectors = c.args.settings.now.connectors in
    let keys = keys_of c.args.table.now in
    let nodes = c.add_connectors.new.builder in
    let roots = c.in_ok-per_connector.per_connector in
    let now = planned nodes roots in
    let plan = same_plan now c.of-keys.result keys c.new-builder.result c.as_slice.result.now connectors c.in_ok-per_connector.ensures c.of-keys.ensures c.new-builder.ensures c.as_slice.ensures in
    let graph = c.finish.ensures ∙ c.in_ok-goal.ensures.nodes ∙ ap (λ (rs : List ℕ). nodes ++ any_node rs ∷ []) c.as_slice-2.ensures in
    is_graph_of c.args.table.now c.args.settings.now (record { graph = c.finish.result; goal = c.in_ok-goal.goal; per_connector = roots }) nodes roots plan graph c.in_ok-goal.ensures.number refl

pub returns-clause-made_with : goal.returns-clause-made_with
returns-clause-made_with c =
    let connectors = c.args.settings.now.connectors in
    let keys = keys_of c.args.table.now in
    let nodes = c.add_connectors.new.builder in
    let roots = c.in_ok-per_connector.per_connector in
    let now = planned nodes roots in
    let plan = same_plan now c.of-keys.result keys c.new-builder.result c.as_slice.result.now connectors c.in_ok-per_connector.ensures c.of-keys.ensures c.new-builder.ensures c.as_slice.ensures in
    let graph = c.finish.ensures ∙ c.in_ok-goal.ensures.nodes ∙ ap (λ (rs : List ℕ). nodes ++ any_node rs ∷ []) c.as_slice-2.ensures in
    is_made_with c.args.table.now c.args.settings.now (record { graph = c.finish.result; goal = c.in_ok-goal.goal; per_connector = roots }) nodes roots plan graph c.in_ok-goal.ensures.number refl c.requires
