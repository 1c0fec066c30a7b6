use Rattle.std.proofs.Common.{sym, ◌∙◌}
use Rattle.std.proofs.lemmas.Result.{err_from_is_err_and}
use Rattle.certificate_text.specs.Reading.{counting, naming}
use Rattle.std.specs.Prelude.{[]}
use Rattle.certificate_text.proofs.Walks.{went, failed, from_end, open_counting, count_next, count_fault}
use Rattle.certificate_text.proofs.read.read_count.Goals as goal

pub returns-in_err-line-clause-goes : goal.returns-in_err-line-clause-goes
returns-in_err-line-clause-goes c table =
    let p = err_from_is_err_and c.from_residual.result c.from_residual.ensures.1 in
    rw (p.1, p.2) (from_end table counting c.args.lines.now.read c.args.lines.now.rest.now _ open_counting c.in_err-line.ensures.unended)

pub returns-in-Ok-clause-goes : goal.returns-in-Ok-clause-goes
returns-in-Ok-clause-goes c table =
    went table counting (naming c.in-Ok.count []) c.args.lines.now.read c.next.new.self.read c.args.lines.now.rest.now c.in_ok-line.line.now c.next.new.self.rest.now c.in_ok-line.ensures.line c.in_ok-line.ensures.read
    (count_next table c.in_ok-line.line.now c.in-Ok.count (sym c.count.ensures.count ∙ c.in-Ok.is))

pub returns-in-Err-clause-goes : goal.returns-in-Err-clause-goes
returns-in-Err-clause-goes c table =
    failed table counting c.args.lines.now.read c.next.new.self.read c.in-Err.code c.args.lines.now.rest.now c.in_ok-line.line.now c.next.new.self.rest.now c.fault.result c.in_ok-line.ensures.line c.in_ok-line.ensures.read
    (count_fault table c.in_ok-line.line.now c.in-Err.code (sym c.count.ensures.count ∙ c.in-Err.is)) c.fault.ensures
