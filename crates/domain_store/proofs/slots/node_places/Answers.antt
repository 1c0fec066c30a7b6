use Rattle.std.proofs.Common.{arith}
use Rattle.domain_store.proofs.SlotLemmas.{node_places_all}
use Rattle.domain_store.proofs.slots.node_places.Goals as goal

pub returns : goal.returns
returns c = node_places_all c.args.graph.now c.args.slots.now.keys c.loop-node.places.items c.loop-node.node c.loop-node.invariant.count c.loop-node.invariant.at (omega (arith, c.loop-node-test.false, c.count-node-end.ensures.value, c.loop-node.auto.node-end))
