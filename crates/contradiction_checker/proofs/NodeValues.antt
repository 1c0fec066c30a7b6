-- The values of nodes, one after the other.
use Rattle.std.proofs.Common.{◌≡◌, ℕ, ◌+◌, ◌<◌, List, [], ◌∷◌, ◌++◌, length, take, get_or, Some, slice_get, option_map, ap, sym, ◌∙◌}
use Rattle.std.proofs.lemmas.List.{take_more}
use Rattle.std.proofs.lemmas.Option.{slice_get-get_or}
use Rattle.key_table.specs.declared.atom.Atom.{Atom}
use Rattle.constraint_graph.specs.declared.node.Gate.TheVariants as gate
use Rattle.constraint_graph.specs.declared.node.Node.{Node}
use Rattle.constraint_graph.specs.Graphs.{node_of}
use Rattle.constraint_graph.specs.Growth.{values_push}
use Rattle.constraint_graph.specs.Logics.{Logic}
use Rattle.constraint_graph.specs.Values.{node_value, values}

same_value : {X : Type 0} (x y : X) → Some x ≡ Some y → x ≡ y
same_value x y h = cc

-- the value of the next node goes last
pub values_more : {V : Type 0} (L : Logic V) (says : Atom → V) (nodes : List Node) (k : ℕ) (before : List V) (v : V) → k < length nodes → before ≡ values L says (take k nodes) → option_map (node_value L says before) (slice_get nodes k) ≡ Some v → before ++ v ∷ [] ≡ values L says (take (k + 1) nodes)
values_more {V} L says nodes k before v within so_far is =
    let n = get_or nodes k (node_of gate.All) in
    let here = same_value (node_value L says before n) v (sym (ap (option_map (node_value L says before)) (slice_get-get_or nodes k (node_of gate.All) within)) ∙ is) in
    ap (λ (w : V). before ++ w ∷ []) (sym here)
    ∙ ap (λ (vs : List V). vs ++ node_value L says vs n ∷ []) so_far
    ∙ sym (values_push L says (take k nodes) n)
    ∙ sym (ap (values L says) (take_more nodes k (node_of gate.All) within))
