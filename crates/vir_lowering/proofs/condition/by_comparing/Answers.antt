use Rattle.std.proofs.Common.{◌≡◌, ◌∙◌, true, false, not, ap, sym, take, length, arith}
use Rattle.std.proofs.lemmas.List.{take_all}
use Rattle.std.specs.List.{list_any}
use Rattle.vir_lowering.proofs.GroupedAtoms.{placed, placed_known, placed_new, all_placed}
use Rattle.vir_lowering.proofs.condition.by_comparing.Goals.{then-not-stands_among+in_ok-add_all_at, else-not-stands_among}
use Rattle.vir_lowering.proofs.condition.by_comparing.Goals as goal

pub loop-i-preserved : goal.loop-i-preserved
loop-i-preserved c = elim c.if-not-stands_among.branch [
  | then-not-stands_among+in_ok-add_all_at w ↦ w.atoms-is ∙ w.in_ok-add_all_at.ensures ∙ placed_new c.args.comparisons.now c.loop-i.i c.index-comparisons-i.result c.loop-i.atoms c.loop-i-test.true c.index-comparisons-i.is c.loop-i.invariant (sym w.if-not-stands_among.ensures)
  | else-not-stands_among w ↦ w.atoms-is ∙ placed_known c.args.comparisons.now c.loop-i.i c.index-comparisons-i.result c.loop-i.atoms c.loop-i-test.true c.index-comparisons-i.is c.loop-i.invariant (sym w.if-not-stands_among.ensures)
]

pub returns : goal.returns
returns c = c.loop-i.invariant ∙ ap (placed c.args.comparisons.now) (take_all c.loop-i.i c.args.comparisons.now c.loop-i-test.false) ∙ all_placed c.args.comparisons.now
