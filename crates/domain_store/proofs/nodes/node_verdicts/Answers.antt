use Rattle.std.proofs.Common.{◌≡◌, ◌+◌, ◌∙◌, List, length, sym, subst, ap, arith, IfSome, slice_get, get_or}
use Rattle.std.proofs.lemmas.List.{length_push, get_or_default}
use Rattle.key_table.specs.declared.atom.Verdict3.{Verdict3}
use Rattle.key_table.specs.declared.atom.Verdict3.TheVariants.{Entailed, Refuted}
use Rattle.key_table.specs.declared.atom.Atom.{Atom}
use Rattle.constraint_graph.specs.Logics.{three_valued}
use Rattle.constraint_graph.specs.Values.{node_value}
use Rattle.domain_store.proofs.NodeLemmas.{ValuesAre, node_more}
use Rattle.domain_store.proofs.nodes.node_verdicts.Goals as goal

pub loop-node-preserved : goal.loop-node-preserved
loop-node-preserved c =
    let vs : List Verdict3 = c.loop-node.verdicts.items in
    let v : Verdict3 = c.node_verdict-verdict.result in
    let P : List Verdict3 → Type 0 = λ ws. ValuesAre c.args.graph.now c.args.own.now ws (c.loop-node.node + 1) in
    let S : List Verdict3 → Type 0 = λ ws. IfSome (slice_get c.args.graph.now c.loop-node.node) (λ n. v ≡ node_value three_valued (λ (atom : Atom). get_or c.args.own.now c.loop-node.node Entailed) ws n) in
    let here = subst S c.deref.ensures.value c.node_verdict-verdict.ensures in
    record {
      count = ap length c.in_ok-push.ensures.items ∙ length_push vs v ∙ ap (λ k. k + 1) c.loop-node.invariant.count;
      values = subst P (sym c.in_ok-push.ensures.items) (node_more c.args.graph.now c.args.own.now vs c.loop-node.node (get_or c.args.own.now c.loop-node.node Entailed) v (omega (arith, c.loop-node-test.true, c.count-node-end.ensures.value)) (get_or_default c.args.own.now c.loop-node.node Entailed Refuted (omega (arith, c.loop-node-test.true, c.count-node-end.ensures.value, c.requires))) here c.loop-node.invariant.values);
    }
