use Rattle.std.proofs.Common.{◌≡◌, length}
use Rattle.domain_store.proofs.NodeLemmas.{ValuesAre}
use Rattle.domain_store.proofs.nodes.node_verdicts.Given as goal

abbrev pub invariant-loop-node : goal.invariant-loop-node
invariant-loop-node l = record {
  count : length l.verdicts.items ≡ l.node;
  values : ValuesAre l.graph l.own l.verdicts.items l.node;
}
