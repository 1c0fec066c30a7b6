use Rattle.std.proofs.Common.{arith}
use Rattle.std.proofs.lemmas.Result.{err_from_is_err_and}
use Rattle.dir_typing.specs.Numbered.{comparison_of}
use Rattle.dir_typing.specs.Faults.{comparison_faults}
use Rattle.dir_typing.proofs.Judged.{numbered-none, one-fails, one-clean, judged-Ok, map-next}
use Rattle.dir_typing.proofs.typing.comparisons.Goals as goal

pub loop-source-init : goal.loop-source-init
loop-source-init c = (numbered-none _ _, c.in_ok-typed.ensures, omega arith)

pub returns-in_err-comparison : goal.returns-in_err-comparison
returns-in_err-comparison c =
    let p = err_from_is_err_and c.from_residual-in_err-comparison.result c.from_residual-in_err-comparison.ensures.1 in
    rw (p.1, p.2) (one-fails c.in_err-comparison.field-0.0 (comparison_faults c.args.table.now c.args.rule) c.args.next.now c.loop-source.next c.args.comparisons.now c.loop-source.source-index c.source-item.result _ _
    c.loop-source-test.true c.source-item.is c.loop-source.invariant.0 c.loop-source.invariant.2 c.in_err-comparison.ensures)

pub loop-source-preserved : goal.loop-source-preserved
loop-source-preserved c =
    let found = judged-Ok _ _ _ c.in_ok-comparison.ensures in (
      one-clean (comparison_faults c.args.table.now c.args.rule) c.args.next.now c.loop-source.next c.args.comparisons.now c.loop-source.source-index c.source-item.result _ _
          c.loop-source-test.true c.source-item.is c.loop-source.invariant.0 c.loop-source.invariant.2 c.in_ok-comparison.ensures,
      map-next (comparison_of c.args.table.now) c.args.comparisons.now c.loop-source.source-index c.source-item.result c.loop-source.typed c.push.new.self c.in_ok-comparison.field-0
          c.loop-source-test.true c.source-item.is c.loop-source.invariant.1 found.1 c.in_ok-push.ensures.ok,
      grind (arith, c.loop-source.invariant.2, c.in-Some.ensures),
    )
