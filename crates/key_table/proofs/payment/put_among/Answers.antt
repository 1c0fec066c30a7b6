use Rattle.std.proofs.Common.{◌≡◌, ◌+◌, ◌<◌, ◌≤◌, ◌∙◌, List, ℕ, Option, length, set, take, drop, sym, subst, refl, arith}
use Rattle.std.specs.Option.{option_copied}
use Rattle.std.specs.Vec.{with_item}
use Rattle.std.proofs.lemmas.List.{length-set, get_or_read}
use Rattle.std.proofs.lemmas.List.Elements.{All-set}
use Rattle.key_table.specs.declared.slot.Slot.{Slot}
use Rattle.key_table.specs.declared.slot.Datum.{Datum}
use Rattle.key_table.specs.Slots.{at}
use Rattle.key_table.specs.Payments.{Entries, AreAscending}
use Rattle.key_table.specs.Places.{AreBefore, AreAfter, StandsAt, GoesTo, Run, entries_of}
use Rattle.key_table.proofs.Cuts.{run_ascends, at_run, datum_put, entry_put, same_length, runs_put}
use Rattle.key_table.proofs.payment.put_among.Goals as goal

-- each run is in order
pub place-requires : goal.place-requires
place-requires c =
    let P : Entries → Type 0 = λ es. AreAscending es in
    let within : c.run_of-i.result < length c.args.runs.now.items = rw c.deref.ensures.value at c.run_of-i.ensures.within in
    subst P (sym c.deref-2.ensures.value) (run_ascends c.args.runs.now.items c.run_of-i.result c.index.result.now within c.index.ensures c.requires.are_runs.ascending)

-- the slot goes to a place of its run
pub insert_at-requires-clause-place : goal.insert_at-requires-clause-place
insert_at-requires-clause-place c =
    let within : c.run_of-i.result < length c.args.runs.now.items = rw c.deref.ensures.value at c.run_of-i.ensures.within in
    let le : c.in-Err.place ≤ length c.index.result.now.items = rw c.deref-2.ensures.value at c.in-Err.ensures.within in
    at_run (λ (r : Run). c.in-Err.place ≤ length r.items) c.args.runs.now.items c.run_of-i.result c.index.result.now within c.index.ensures le

-- the datum is written over where the slot stands
pub returns-in-Ok : goal.returns-in-Ok
returns-in-Ok c =
    let runs = c.args.runs.now.items in
    let i = c.run_of-i.result in
    let slot = c.args.slot in
    let run = c.index_mut-run.result.now in
    let e : Slot × Datum = c.index_mut.result.now in
    let place = c.in-Ok.place in
    let new : Run = with_item run place (e.0, c.args.datum) in
    let within : i < length runs = rw c.deref.ensures.value at c.run_of-i.ensures.within in
    let before : AreBefore slot (entries_of (take i runs)) = rw (c.deref.ensures.value, c.as_ref.ensures.value) at c.run_of-i.ensures.before in
    let after : AreAfter slot (entries_of (drop (i + 1) runs)) = rw (c.deref.ensures.value, c.as_ref.ensures.value) at c.run_of-i.ensures.after in
    let found : StandsAt slot c.index.result.now.items place = rw (c.deref-2.ensures.value, c.as_ref-2.ensures.value) at c.in-Ok.ensures in
    let is = c.index_mut-run.ensures.value in
    let same : c.index.result.now ≡ run = get_or_read runs i c.index.result.now within c.index.ensures run ∙ sym is in
    let P : Run → Type 0 = λ r. StandsAt slot r.items place in
    let stands : StandsAt slot run.items place = subst P same found in
    let put = datum_put runs i run within is slot before after c.args.datum place e new stands c.index_mut.ensures.value refl in
    let long : length new.items ≡ length run.items = length-set run.items place (e.0, c.args.datum) in
    record {
      ok = put;
      added = omega (arith, same_length runs i run within is new long);
      one = omega arith;
      err = tt;
      are_runs = runs_put runs (set runs i new) slot c.args.datum c.requires.are_runs put (All-set (λ (r : Run). 0 < length r.items) runs i new (omega (arith, stands.within)) c.requires.are_runs.filled);
    }

-- the entry is added where the slot goes
pub returns-in_ok-insert_at-in-Err-clause-ok : goal.returns-in_ok-insert_at-in-Err-clause-ok
returns-in_ok-insert_at-in-Err-clause-ok c =
    let runs = c.args.runs.now.items in
    let i = c.run_of-i.result in
    let slot = c.args.slot in
    let run = c.index.result.now in
    let within : i < length runs = rw c.deref.ensures.value at c.run_of-i.ensures.within in
    let before : AreBefore slot (entries_of (take i runs)) = rw (c.deref.ensures.value, c.as_ref.ensures.value) at c.run_of-i.ensures.before in
    let after : AreAfter slot (entries_of (drop (i + 1) runs)) = rw (c.deref.ensures.value, c.as_ref.ensures.value) at c.run_of-i.ensures.after in
    let goes : GoesTo slot run.items c.in-Err.place = rw (c.deref-2.ensures.value, c.as_ref-2.ensures.value) at c.in-Err.ensures in
    c.in_ok-insert_at-in-Err.ensures.ok ∙ entry_put runs i run within c.index.ensures slot before after c.args.datum c.in-Err.place goes

pub returns-in_ok-insert_at-in-Err-clause-are_runs : goal.returns-in_ok-insert_at-in-Err-clause-are_runs
returns-in_ok-insert_at-in-Err-clause-are_runs c =
    runs_put c.args.runs.now.items c.insert_at.new.runs.items c.args.slot c.args.datum c.requires.are_runs (returns-in_ok-insert_at-in-Err-clause-ok c) c.in_ok-insert_at-in-Err.ensures.filled
