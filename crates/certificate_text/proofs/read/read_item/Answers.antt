use Rattle.std.proofs.Common.{sym, ◌∙◌}
use Rattle.std.proofs.lemmas.Result.{err_from_is_err_and}
use Rattle.certificate_text.specs.Reading.{proving}
use Rattle.certificate_text.specs.Walks.{after_item}
use Rattle.std.specs.Prelude.{Some, None}
use Rattle.certificate_text.proofs.Walks.{went, failed, from_end, open_proving, end_step, item_next, item_fault}
use Rattle.certificate_text.proofs.read.read_item.Goals as goal

pub returns-in_err-line-clause-goes : goal.returns-in_err-line-clause-goes
returns-in_err-line-clause-goes c table atoms items n =
    let p = err_from_is_err_and c.from_residual.result c.from_residual.ensures.1 in
    rw (p.1, p.2) (from_end table (proving atoms items) c.args.lines.now.read c.args.lines.now.rest.now _ (open_proving atoms items) c.in_err-line.ensures.unended)

pub returns-then-is_end-clause-goes : goal.returns-then-is_end-clause-goes
returns-then-is_end-clause-goes c table atoms items n =
    went table (proving atoms items) (after_item atoms items None) c.args.lines.now.read c.next.new.self.read c.args.lines.now.rest.now c.in_ok-line.line.now c.next.new.self.rest.now c.in_ok-line.ensures.line c.in_ok-line.ensures.read
    (end_step table atoms items c.in_ok-line.line.now (sym c.is_end.ensures ∙ c.if-is_end.true))

pub returns-in-Ok-clause-goes : goal.returns-in-Ok-clause-goes
returns-in-Ok-clause-goes c table atoms items n =
    went table (proving atoms items) (after_item atoms items (Some c.in-Ok.item)) c.args.lines.now.read c.next.new.self.read c.args.lines.now.rest.now c.in_ok-line.line.now c.next.new.self.rest.now c.in_ok-line.ensures.line c.in_ok-line.ensures.read
    (item_next table atoms items c.args.count c.in_ok-line.line.now c.in-Ok.item n (sym c.is_end.ensures ∙ c.if-is_end.false) (sym c.in-Ok.is ∙ c.item.ensures.item))

pub returns-in-Err-clause-goes : goal.returns-in-Err-clause-goes
returns-in-Err-clause-goes c table atoms items n =
    failed table (proving atoms items) c.args.lines.now.read c.next.new.self.read c.in-Err.code c.args.lines.now.rest.now c.in_ok-line.line.now c.next.new.self.rest.now c.fault.result c.in_ok-line.ensures.line c.in_ok-line.ensures.read
    (item_fault table atoms items c.args.count c.in-Err.code c.in_ok-line.line.now n (sym c.is_end.ensures ∙ c.if-is_end.false) (sym c.in-Err.is ∙ c.item.ensures.item)) c.fault.ensures
