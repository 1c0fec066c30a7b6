use Rattle.std.proofs.Common.{◌≡◌, drop}
use Rattle.constraint_graph.specs.Logics.{greater, three_valued, some}
use Rattle.constraint_graph.specs.Values.{carried}
use Rattle.contradiction_checker.proofs.nodes.some_carried.Given as goal

abbrev pub invariant-loop-edge : goal.invariant-loop-edge
invariant-loop-edge l = some three_valued (carried three_valued l.before) l.edges ≡ greater l.greatest (some three_valued (carried three_valued l.before) (drop l.edge-index l.edges))
