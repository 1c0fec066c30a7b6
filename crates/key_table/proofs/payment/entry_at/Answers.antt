use Rattle.std.proofs.Common.{◌≡◌, ◌-◌, ◌+◌, ◌∙◌, ℕ, length, drop, subst, arith}
use Rattle.std.specs.List.{slice_get}
use Rattle.key_table.specs.Places.{entries_of}
use Rattle.key_table.proofs.Cuts.{place_here, place_later}
use Rattle.key_table.proofs.payment.entry_at.Goals as goal

-- the place is in this run
pub returns-then-left-len : goal.returns-then-left-len
returns-then-left-len c =
    c.loop-run.invariant.same
    ∙ place_here c.args.runs.now c.loop-run.run-index c.loop-run.left c.run-item.result c.index.result.now c.loop-run-test.true c.run-item.is (omega (arith, c.run-item.result.ok.0)) c.index.ensures

-- the place is counted on from the next run
pub loop-run-preserved : goal.loop-run-preserved
loop-run-preserved c =
    let runs = c.args.runs.now in
    let i = c.loop-run.run-index in
    let run = c.run-item.result in
    let later = place_later runs i c.loop-run.left run c.loop-run-test.true c.run-item.is (omega (arith, run.ok.0)) c.loop-run.invariant.within in
    let gone : length run.items ≡ c.len-left.result = omega (arith, run.ok.0) in
    let P : ℕ → Type 0 = λ n. slice_get (entries_of runs) c.args.place ≡ slice_get (entries_of (drop (i + 1) runs)) (c.loop-run.left - n) in
    record { within = omega (arith, later.0); same = subst P gone (c.loop-run.invariant.same ∙ later.1) }
