use Rattle.std.proofs.Common.{◌≡◌, fold, take}
use Rattle.constraint_graph.specs.Logics.{three_valued, greater}
use Rattle.constraint_graph.specs.Values.{carried}
use Rattle.key_table.specs.declared.atom.Verdict3.TheVariants.{Refuted}
use Rattle.domain_store.proofs.nodes.greatest.Given as goal

abbrev pub invariant-loop-edge : goal.invariant-loop-edge
invariant-loop-edge l = l.greatest ≡ fold (λ v edge. greater v (carried three_valued l.before edge)) Refuted (take l.edge-index l.edges)
