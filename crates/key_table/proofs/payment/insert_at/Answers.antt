use Rattle.std.proofs.Common.{◌<◌, ◌≤◌, ◌∙◌, length, arith}
use Rattle.std.proofs.lemmas.Result.{on_ok_weaker}
use Rattle.key_table.specs.Places.{Run}
use Rattle.key_table.proofs.Cuts.{run_at, with_entry_next}
use Rattle.key_table.proofs.payment.insert_at.Goals as goal

-- the end of a full run is the front of the next one
pub returns-else-place-len-clause-ok : goal.returns-else-place-len-clause-ok
returns-else-place-len-clause-ok c =
    let runs = c.args.runs.now.items in
    let run = c.index.result.now in
    let within : c.args.i < length runs = omega (arith, c.args.runs.now.ok.0) in
    let le = run_at (λ (r : Run). c.args.place ≤ length r.items) runs c.args.i run within c.index.ensures c.requires.place in
    on_ok_weaker c.insert_behind.result (λ is. is ∙ with_entry_next runs c.args.i run within c.index.ensures c.args.place c.args.entry (omega (arith, run.ok.0))) c.insert_behind.ensures.ok
