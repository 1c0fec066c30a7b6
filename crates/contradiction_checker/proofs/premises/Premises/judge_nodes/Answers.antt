use Rattle.std.proofs.Common.{List, ap, sym, ◌∙◌, slice_get, option_map, arith}
use Rattle.key_table.specs.declared.atom.Verdict3.{Verdict3}
use Rattle.constraint_graph.specs.Logics.{three_valued}
use Rattle.constraint_graph.specs.Values.{node_value}
use Rattle.contradiction_checker.specs.Assumed.{premises_of}
use Rattle.contradiction_checker.specs.Decisions.{atom_verdict}
use Rattle.contradiction_checker.proofs.NodeValues.{values_more}
use Rattle.contradiction_checker.proofs.premises.Premises.judge_nodes.Goals as goal

pub loop-node-preserved : goal.loop-node-preserved
loop-node-preserved c =
    let says = atom_verdict c.args.self.now.table.now (premises_of c.args.self.now) in
    let v = c.node_verdict-verdict.result in
    let of = λ (before : List Verdict3). option_map (node_value three_valued says before) (slice_get c.args.graph.now c.loop-node.node) in
    let is = ap of (sym c.deref.ensures.value) ∙ c.node_verdict-verdict.ensures.value in
    record {
      value = c.keep.ensures.items ∙ values_more three_valued says c.args.graph.now c.loop-node.node c.loop-node.verdicts.items v (omega arith) c.loop-node.invariant.value is;
      found = c.node_verdict-verdict.ensures.found;
      few = omega arith;
      room = omega arith;
      room_for_nodes = omega arith;
      room_for_findings = omega arith;
    }
