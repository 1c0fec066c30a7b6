use Rattle.key_table.specs.Places.{AreRuns, Run, entries_of}
use Rattle.std.proofs.Common.{◌≡◌, List, sym, subst, length, refl}
use Rattle.key_table.proofs.Cuts.{no_runs}
use Rattle.key_table.proofs.payment.Payment.empty.Goals as goal

pub invariant_of-result : goal.invariant_of-result
invariant_of-result c =
    let P : List Run → Type 0 = λ runs. AreRuns runs × (0 ≡ length (entries_of runs)) in
    subst P (sym c.new.ensures.items) (no_runs, refl)
