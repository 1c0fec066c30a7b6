use Rattle.std.proofs.Common.{arith}
use Rattle.std.proofs.lemmas.Result.{err_from_is_err_and}
use Rattle.dir_typing.specs.Numbered.{rule_of}
use Rattle.dir_typing.specs.Faults.{rule_faults}
use Rattle.dir_typing.proofs.Judged.{numbered-none, one-fails, one-clean, judged-Ok, map-next}
use Rattle.dir_typing.proofs.typing.rules.Goals as goal

pub loop-source-init : goal.loop-source-init
loop-source-init c = (numbered-none _ _, c.in_ok-typed.ensures, omega arith)

pub returns-in_err-rule : goal.returns-in_err-rule
returns-in_err-rule c =
    let p = err_from_is_err_and c.from_residual-in_err-rule.result c.from_residual-in_err-rule.ensures.1 in
    rw (p.1, p.2) (one-fails c.in_err-rule.field-0.0 (rule_faults c.args.table.now c.args.first) 0 c.loop-source.number c.args.rules.now c.loop-source.source-index c.source-item.result _ _
    c.loop-source-test.true c.source-item.is c.loop-source.invariant.0 (omega (arith, c.loop-source.invariant.2)) c.in_err-rule.ensures)

pub loop-source-preserved : goal.loop-source-preserved
loop-source-preserved c =
    let found = judged-Ok _ _ _ c.in_ok-rule.ensures in (
      one-clean (rule_faults c.args.table.now c.args.first) 0 c.loop-source.number c.args.rules.now c.loop-source.source-index c.source-item.result _ _
          c.loop-source-test.true c.source-item.is c.loop-source.invariant.0 (omega (arith, c.loop-source.invariant.2)) c.in_ok-rule.ensures,
      map-next (rule_of c.args.table.now) c.args.rules.now c.loop-source.source-index c.source-item.result c.loop-source.typed c.push.new.self c.in_ok-rule.field-0
          c.loop-source-test.true c.source-item.is c.loop-source.invariant.1 found.1 c.in_ok-push.ensures.ok,
      omega (arith, c.loop-source.invariant.2),
    )
