use Rattle.std.proofs.Common.{arith, ◌∙◌, ap, take}
use Rattle.std.proofs.lemmas.Result.{err_from_is_err_and}
use Rattle.euclid_ast.specs.Limits.{comparisons_of, comparisons_in}
use Rattle.dir_typing.specs.Numbered.{statement_of}
use Rattle.dir_typing.specs.Faults.{numbered, comparison_faults}
use Rattle.dir_typing.proofs.Judged.{numbered-none, judged-Ok, part-fails, part-clean, map-next, flat_map-split, flat_map-next}
use Rattle.dir_typing.proofs.Statements.{Nests, condition-fails, nested-fails, statement-done, statement-count}
use Rattle.dir_typing.proofs.typing.+statements.Goals as goal

pub statement-returns-in_err-condition : goal.statement-returns-in_err-condition
statement-returns-in_err-condition t c =
    let p = err_from_is_err_and c.from_residual.result c.from_residual.ensures.1 in
    rw (p.1, p.2) (condition-fails c.in_err-condition.field-0.0 c.args.table.now c.args.rule c.args.next.now c.args.statement.now c.as_slice.result.now _ _ c.as_slice.ensures c.in_err-condition.ensures)

pub statement-returns-in_err-nested : goal.statement-returns-in_err-nested
statement-returns-in_err-nested t c =
    let nests : Nests c.args.statement.now c.as_slice.result.now c.as_slice-2.result.now = record { condition_is = c.as_slice.ensures; nested_is = rw (c.as_slice-2.ensures) c.in-Some.is } in
    let p = err_from_is_err_and c.from_residual-in_err-nested.result c.from_residual-in_err-nested.ensures.1 in
    rw (p.1, p.2) (nested-fails c.in_err-nested.field-0.0 c.args.table.now c.args.rule c.args.next.now c.comparisons.new.next c.args.statement.now c.as_slice.result.now c.as_slice-2.result.now c.in_ok-condition.condition _ _
    nests c.in_ok-condition.ensures c.in_err-nested.ensures)

pub statement-returns : goal.statement-returns
statement-returns t c =
    let nests : Nests c.args.statement.now c.as_slice.result.now c.as_slice-2.result.now = record { condition_is = c.as_slice.ensures; nested_is = rw (c.as_slice-2.ensures) c.in-Some.is } in
    statement-done c.args.table.now c.args.rule c.args.next.now c.comparisons.new.next c.statements.new.next c.args.statement.now c.as_slice.result.now c.as_slice-2.result.now c.in_ok-condition.condition c.in_ok-nested.nested
    nests c.in_ok-condition.ensures c.in_ok-nested.ensures

pub statements-loop-source-init : goal.statements-loop-source-init
statements-loop-source-init t c = (numbered-none _ _, c.in_ok-typed.ensures, omega arith)

pub statements-returns-in_err-statement : goal.statements-returns-in_err-statement
statements-returns-in_err-statement t c =
    let p = err_from_is_err_and c.from_residual-in_err-statement.result c.from_residual-in_err-statement.ensures.1 in
    rw (p.1, p.2) (part-fails c.in_err-statement.field-0.0 (comparison_faults c.args.table.now c.args.rule) c.args.next.now c.loop-source.next
    (comparisons_in (take c.loop-source.source-index c.args.statements.now)) (comparisons_of c.source-item.result) _ (comparisons_in c.args.statements.now) _ _
    (flat_map-split comparisons_of c.args.statements.now c.loop-source.source-index c.source-item.result c.loop-source-test.true c.source-item.is)
    c.loop-source.invariant.0 c.loop-source.invariant.2 c.in_err-statement.ensures)

pub statements-loop-source-preserved : goal.statements-loop-source-preserved
statements-loop-source-preserved t c =
    let f = comparison_faults c.args.table.now c.args.rule in
    let found = judged-Ok _ _ _ c.in_ok-statement.ensures in (
      ap (numbered f c.args.next.now) (flat_map-next comparisons_of c.args.statements.now c.loop-source.source-index c.source-item.result c.loop-source-test.true c.source-item.is)
          ∙ part-clean f c.args.next.now c.loop-source.next (comparisons_in (take c.loop-source.source-index c.args.statements.now)) (comparisons_of c.source-item.result) _ _
          c.loop-source.invariant.0 c.loop-source.invariant.2 c.in_ok-statement.ensures,
      map-next (statement_of c.args.table.now) c.args.statements.now c.loop-source.source-index c.source-item.result c.loop-source.typed c.push.new.self c.in_ok-statement.field-0
          c.loop-source-test.true c.source-item.is c.loop-source.invariant.1 (ap (λ q. q.0) found.1) c.in_ok-push.ensures.ok,
      statement-count c.args.statements.now c.loop-source.source-index c.source-item.result c.args.next.now c.loop-source.next c.statement.new.next
          c.loop-source-test.true c.source-item.is c.loop-source.invariant.2 (ap (λ q. q.1) found.1),
    )
