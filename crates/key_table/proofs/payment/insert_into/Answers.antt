use Rattle.std.proofs.Common.{◌<◌, ◌≤◌, length, arith}
use Rattle.std.proofs.lemmas.Result.{err_from_is_err_and}
use Rattle.key_table.specs.Places.{Run}
use Rattle.key_table.proofs.Cuts.{run_at, same_entries, inserted}
use Rattle.key_table.proofs.payment.insert_into.Goals as goal

-- where memory lacks, the run stays
pub returns-in_err-insert-clause-err : goal.returns-in_err-insert-clause-err
returns-in_err-insert-clause-err c =
    let runs = c.args.runs.now.items in
    let within : c.args.i < length runs = omega (arith, c.args.runs.now.ok.0) in
    let p = err_from_is_err_and c.from_residual.result c.from_residual.ensures.1 in
    rw p.1 (same_entries runs c.args.i c.index_mut-run.result.now within c.index_mut-run.ensures.value c.insert.new.self c.in_err-insert.ensures.items)

-- the entry is one more in the run
pub returns-clause-ok : goal.returns-clause-ok
returns-clause-ok c =
    let runs = c.args.runs.now.items in
    let run = c.index_mut-run.result.now in
    let within : c.args.i < length runs = omega (arith, c.args.runs.now.ok.0) in
    let le = run_at (λ (r : Run). c.args.place ≤ length r.items) runs c.args.i run within c.index_mut-run.ensures.value c.requires.place in
    inserted runs c.args.i run within c.index_mut-run.ensures.value c.args.place c.args.entry c.insert.new.self le c.in_ok-insert.ensures.items
