use Rattle.std.proofs.Common.{sym, ◌∙◌, length}
use Rattle.std.proofs.lemmas.Result.{err_from_is_err_and}
use Rattle.std.proofs.lemmas.Bool.{eqb-true, eqb-false}
use Rattle.std.proofs.Math.Nat.{pos_of_ne-zero}
use Rattle.certificate_text.proofs.Kept.{read_fits, read_within}
use Rattle.certificate_text.proofs.Walks.{fails_at, certificate_from, closed_end, closed_full}
use Rattle.certificate_text.proofs.read.read_certificate.Goals as goal

pub returns-in_err-count-clause-value : goal.returns-in_err-count-clause-value
returns-in_err-count-clause-value c =
    let p = err_from_is_err_and c.from_residual.result c.from_residual.ensures.1 in
    rw (p.1, p.2) (certificate_from c.args.table.now c.args.bytes.now ∙ c.in_err-count.ensures.goes c.args.table.now)

pub returns-in_err-atoms-clause-value : goal.returns-in_err-atoms-clause-value
returns-in_err-atoms-clause-value c =
    let p = err_from_is_err_and c.from_residual-in_err-atoms.result c.from_residual-in_err-atoms.ensures.1 in
    rw (p.1, p.2) (fails_at _ _ _ (certificate_from c.args.table.now c.args.bytes.now ∙ c.in_ok-count.ensures.goes c.args.table.now) c.in_err-atoms.ensures.goes)

pub returns-in_err-items-clause-value : goal.returns-in_err-items-clause-value
returns-in_err-items-clause-value c =
    let p = err_from_is_err_and c.from_residual-in_err-items.result c.from_residual-in_err-items.ensures.1 in
    rw (p.1, p.2) (fails_at _ _ _ (certificate_from c.args.table.now c.args.bytes.now ∙ c.in_ok-count.ensures.goes c.args.table.now ∙ c.in_ok-atoms.ensures.goes) (c.in_err-items.ensures.goes c.args.table.now c.in_ok-atoms.atoms))

pub returns-then-is_read-clause-value : goal.returns-then-is_read-clause-value
returns-then-is_read-clause-value c =
    certificate_from c.args.table.now c.args.bytes.now ∙ c.in_ok-count.ensures.goes c.args.table.now ∙ c.in_ok-atoms.ensures.goes ∙ c.in_ok-items.ensures.goes c.args.table.now c.in_ok-atoms.atoms
    ∙ closed_end _ _ _ _ (eqb-true (length c.read_items.new.lines.rest.now) 0 (sym c.is_read.ensures ∙ c.if-is_read.true))

pub returns-else-is_read-clause-value : goal.returns-else-is_read-clause-value
returns-else-is_read-clause-value c =
    certificate_from c.args.table.now c.args.bytes.now ∙ c.in_ok-count.ensures.goes c.args.table.now ∙ c.in_ok-atoms.ensures.goes ∙ c.in_ok-items.ensures.goes c.args.table.now c.in_ok-atoms.atoms
    ∙ closed_full _ _ _ _ (pos_of_ne-zero (eqb-false (length c.read_items.new.lines.rest.now) 0 (sym c.is_read.ensures ∙ c.if-is_read.false)))

pub returns-then-is_read-clause-fits : goal.returns-then-is_read-clause-fits
returns-then-is_read-clause-fits c = read_fits c.args.table.now c.args.bytes.now _ (returns-then-is_read-clause-value c)

pub returns-then-is_read-clause-limits : goal.returns-then-is_read-clause-limits
returns-then-is_read-clause-limits c = read_within c.args.table.now c.args.bytes.now _ (returns-then-is_read-clause-value c)
