use Rattle.std.proofs.Common.{take, option_copied}
use Rattle.constraint_graph.specs.Graphs.{atoms_of}
use Rattle.rule_report.proofs.Growth.{grown_then, atoms_next}
use Rattle.rule_report.proofs.atoms.number_graph.Goals as goal

pub loop-node-preserved : goal.loop-node-preserved
loop-node-preserved c = (
  grown_then c.args.atoms.now.keys c.loop-node.atoms.keys c.push_number_of_node.new.atoms.keys c.loop-node.invariant.0 c.in_ok-push_number_of_node.ensures.grown,
  rw (atoms_next c.args.graph.now c.loop-node.node (option_copied c.atom.result) c.atom.ensures)
      (c.in_ok-push_number_of_node.ensures.right (atoms_of (take c.loop-node.node c.args.graph.now)) c.loop-node.invariant.1),
)
