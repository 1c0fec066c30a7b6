use Rattle.std.proofs.Common.{◌+◌, ◌-◌, ◌≤◌, None, List, ◌++◌, length, take, drop, sym, subst, ap, ◌∙◌, slice_get}
use Rattle.std.specs.Option.{IfSome}
use Rattle.std.proofs.lemmas.List.{take_rest}
use Rattle.key_table.specs.declared.slot.Slot.{Slot}
use Rattle.key_table.specs.declared.slot.Datum.{Datum}
use Rattle.key_table.specs.Slots.{at}
use Rattle.key_table.specs.Payments.{Entries, AreAscending}
use Rattle.key_table.specs.Places.{AreBefore, Run, entries_of, front_under}
use Rattle.key_table.proofs.Cuts.{run_ascends}
use Rattle.key_table.proofs.UnderKeys.{under_runs}
use Rattle.key_table.proofs.payment.entries_from.Goals as goal

-- each run is in order
pub first_place-first-requires : goal.first_place-first-requires
first_place-first-requires c =
    let P : Entries → Type 0 = λ es. AreAscending es in
    subst P (sym c.deref.ensures.value) (run_ascends c.args.runs.now c.run_of-i.result c.index-runs-i.result c.run_of-i.ensures.within c.index-runs-i.is c.requires.ascending)

-- the key's entries are among those that do not stand before its slots
pub returns : goal.returns
returns c =
    let runs = c.args.runs.now in
    let i = c.run_of-i.result in
    let run = c.index-runs-i.result in
    let first = c.first_place-first.result in
    let here : AreBefore (at c.args.key None) (take first run.items) = rw c.deref.ensures.value at c.first_place-first.ensures.before in
    let from : IfSome (slice_get run.items first) (λ (e : Slot × Datum). c.args.key ≤ e.0.key) = rw c.deref.ensures.value at c.first_place-first.ensures.from in
    let first_run = take_rest c.deref-2.result.now first ∙ ap (drop first) c.deref-2.ensures.value in
    let result = c.new.ensures ∙ ap (λ (es : Entries). es ++ entries_of (take (length runs - (i + 1)) (drop (i + 1) runs))) first_run ∙ ap (λ (rs : List Run). drop first run.items ++ entries_of rs) (take_rest runs (i + 1)) in
    ap (front_under c.args.key) result ∙ sym (under_runs runs i run first c.args.key c.requires c.run_of-i.ensures.within c.index-runs-i.is c.run_of-i.ensures.before c.run_of-i.ensures.after here from)
