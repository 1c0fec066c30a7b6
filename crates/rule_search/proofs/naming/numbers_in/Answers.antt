use Rattle.std.proofs.Common.{ap, ◌∙◌, sym}
use Rattle.rule_problem.specs.declared.certificate.Item.TheVariants.{Split}
use Rattle.rule_search.specs.Naming.{with_number}
use Rattle.rule_search.proofs.Names.{firsts_some, firsts_none}
use Rattle.rule_search.proofs.naming.numbers_in.Goals as goal
use Rattle.rule_search.proofs.naming.numbers_in.Goals.{in-Some+in_ok-insert, in_default}

pub loop-item-preserved : goal.loop-item-preserved
loop-item-preserved c =
    elim c.match-atom_of.branch [
      | in-Some+in_ok-insert w ↦
          rw w.numbers-is (w.in_ok-insert.ensures.keys ∙ ap (λ names. with_number names w.in-Some.number) c.loop-item.invariant
          ∙ sym (firsts_some c.args.items.now c.loop-item.item-index w.in-Some.number (Split 0) c.loop-item-test.true (sym w.in-Some.ensures)))
      | in_default w ↦
          rw w.numbers-is (c.loop-item.invariant ∙ sym (firsts_none c.args.items.now c.loop-item.item-index (Split 0) c.loop-item-test.true (sym w.in_default.ensures)))
    ]
