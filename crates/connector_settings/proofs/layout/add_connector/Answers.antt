use Rattle.std.proofs.Common.{◌<◌, List, ℕ, length, ap, arith, subst, sym}
use Rattle.std.specs.List.{All}
use Rattle.connector_settings.specs.Layout.{planned, with_entries}
use Rattle.connector_settings.proofs.Weights.{weight_same, with_entries_weighs}
use Rattle.connector_settings.proofs.Plans.{with_entries_rooted, within_of}
use Rattle.connector_settings.proofs.layout.add_connector.Goals as goal

pub add_any-requires-clause-nodes : goal.add_any-requires-clause-nodes
add_any-requires-clause-nodes c =
    let i = with_entries c.args.keys c.args.builder.now c.args.connector.now in
    omega (arith, weight_same (planned c.add_inside.new.builder c.in_ok-roots.roots.items) i c.in_ok-roots.ensures, with_entries_weighs c.args.keys c.args.builder.now c.args.connector.now)

pub add_any-requires-clause-edges : goal.add_any-requires-clause-edges
add_any-requires-clause-edges c =
    let i = with_entries c.args.keys c.args.builder.now c.args.connector.now in
    omega (arith, weight_same (planned c.add_inside.new.builder c.in_ok-roots.roots.items) i c.in_ok-roots.ensures, with_entries_weighs c.args.keys c.args.builder.now c.args.connector.now, ap (λ (rs : List ℕ). length rs) c.deref.ensures.value)

-- the roots are nodes
pub add_any-requires-clause-lower : goal.add_any-requires-clause-lower
add_any-requires-clause-lower c =
    let nodes = c.add_inside.new.builder in
    let i = with_entries c.args.keys c.args.builder.now c.args.connector.now in
    let P : List ℕ → Type 0 = λ rs. All (λ n. n < length nodes) rs in
    subst P (sym c.deref.ensures.value) (within_of nodes c.in_ok-roots.roots.items i c.in_ok-roots.ensures (with_entries_rooted c.args.keys c.args.builder.now c.args.connector.now))
