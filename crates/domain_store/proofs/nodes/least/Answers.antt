use Rattle.constraint_graph.specs.Logics.{three_valued}
use Rattle.constraint_graph.specs.Values.{carried}
use Rattle.domain_store.proofs.NodeLemmas.{least_is}
use Rattle.domain_store.proofs.nodes.least.Goals as goal

pub returns : goal.returns
returns c = least_is (carried three_valued c.args.before.now) c.args.edges.now c.loop-edge.edge-index c.loop-edge.least c.loop-edge-test.false c.loop-edge.invariant
