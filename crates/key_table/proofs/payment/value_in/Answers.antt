use Rattle.std.proofs.Common.{◌∙◌, sym, subst}
use Rattle.std.specs.Option.{option_copied}
use Rattle.key_table.specs.Slots.{at}
use Rattle.key_table.specs.Payments.{Entries, AreAscending}
use Rattle.key_table.specs.Places.{StandsAt, GoesTo}
use Rattle.key_table.proofs.Places.{value_there, value_nowhere}
use Rattle.key_table.proofs.Cuts.{run_ascends, value_entries}
use Rattle.key_table.proofs.payment.value_in.Goals as goal

-- each run is in order
pub place-requires : goal.place-requires
place-requires c =
    let P : Entries → Type 0 = λ es. AreAscending es in
    subst P (sym c.deref.ensures.value) (run_ascends c.args.runs.now c.run_of.result c.index-runs-run_of.result c.run_of.ensures.within c.index-runs-run_of.is c.requires.ascending)

-- the slot stands in its run
pub returns-in-Ok : goal.returns-in-Ok
returns-in-Ok c =
    let slot = at c.args.key (option_copied c.args.sub) in
    let run = c.index-runs-run_of.result in
    let P : Entries → Type 0 = λ es. StandsAt slot es c.in-Ok.place in
    sym (value_entries c.args.runs.now c.run_of.result run c.run_of.ensures.within c.index-runs-run_of.is slot c.run_of.ensures.before c.run_of.ensures.after
    ∙ value_there run.items slot c.in-Ok.place c.index-entry.result.now (subst P c.deref.ensures.value c.in-Ok.ensures) c.index-entry.ensures)

-- it is not in the run to which it goes
pub returns-in-Err : goal.returns-in-Err
returns-in-Err c =
    let slot = at c.args.key (option_copied c.args.sub) in
    let run = c.index-runs-run_of.result in
    let P : Entries → Type 0 = λ es. GoesTo slot es c.in-Err.field-0 in
    sym (value_entries c.args.runs.now c.run_of.result run c.run_of.ensures.within c.index-runs-run_of.is slot c.run_of.ensures.before c.run_of.ensures.after
    ∙ value_nowhere run.items slot c.in-Err.field-0 (subst P c.deref.ensures.value c.in-Err.ensures))
