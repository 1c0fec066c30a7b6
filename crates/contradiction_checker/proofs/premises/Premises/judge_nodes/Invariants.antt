use Rattle.std.proofs.Common.{◌≡◌, ◌≤◌, take, vec_len, vec_capacity}
use Rattle.constraint_graph.specs.Logics.{three_valued}
use Rattle.constraint_graph.specs.Values.{values}
use Rattle.contradiction_checker.specs.Assumed.{premises_of}
use Rattle.contradiction_checker.specs.Decisions.{atom_verdict}
use Rattle.contradiction_checker.specs.Findings.{AreFound, test_at}
use Rattle.contradiction_checker.proofs.premises.Premises.judge_nodes.Given as goal

abbrev pub invariant-loop-node : goal.invariant-loop-node
invariant-loop-node l = record {
  value : l.verdicts.items ≡ values three_valued (atom_verdict l.self.table.now (premises_of l.self)) (take l.node l.graph);
  found : AreFound l.self.table.now l.self.atoms.now l.self.trail.now (test_at l.graph) l.findings.items;
  few : vec_len l.verdicts ≤ l.node;
  room : vec_capacity l.initial.mine ≤ vec_capacity l.mine;
  room_for_nodes : vec_capacity l.initial.verdicts ≤ vec_capacity l.verdicts;
  room_for_findings : vec_capacity l.initial.findings ≤ vec_capacity l.findings;
}
