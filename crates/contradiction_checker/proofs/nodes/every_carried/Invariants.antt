use Rattle.std.proofs.Common.{◌≡◌, drop}
use Rattle.constraint_graph.specs.Logics.{lesser, three_valued, every}
use Rattle.constraint_graph.specs.Values.{carried}
use Rattle.contradiction_checker.proofs.nodes.every_carried.Given as goal

abbrev pub invariant-loop-edge : goal.invariant-loop-edge
invariant-loop-edge l = every three_valued (carried three_valued l.before) l.edges ≡ lesser l.least (every three_valued (carried three_valued l.before) (drop l.edge-index l.edges))
