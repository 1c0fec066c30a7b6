use Rattle.std.proofs.Common.{◌≡◌, fold, take}
use Rattle.constraint_graph.specs.Logics.{three_valued, lesser}
use Rattle.constraint_graph.specs.Values.{carried}
use Rattle.key_table.specs.declared.atom.Verdict3.TheVariants.{Entailed}
use Rattle.domain_store.proofs.nodes.least.Given as goal

abbrev pub invariant-loop-edge : goal.invariant-loop-edge
invariant-loop-edge l = l.least ≡ fold (λ v edge. lesser v (carried three_valued l.before edge)) Entailed (take l.edge-index l.edges)
