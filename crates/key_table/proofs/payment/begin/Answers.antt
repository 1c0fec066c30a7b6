use Rattle.std.proofs.Common.{[], ◌∷◌, ◌++◌, ◌∙◌, List, ap}
use Rattle.key_table.specs.declared.slot.Slot.{Slot}
use Rattle.key_table.specs.declared.slot.Datum.{Datum}
use Rattle.key_table.specs.Payments.{Entries}
use Rattle.key_table.specs.Places.{Run, entries_of}
use Rattle.key_table.proofs.Cuts.{begun}
use Rattle.key_table.proofs.payment.begin.Goals as goal

-- the run of the entry stands between the others
pub returns-clause-ok : goal.returns-clause-ok
returns-clause-ok c =
    let e : Slot × Datum = c.args.entry in
    let items = c.in_ok-push.ensures.items ∙ ap (λ (es : Entries). es ++ e ∷ []) c.new-run.ensures.items in
    ap (λ (rs : List Run). entries_of rs) c.in_ok-insert.ensures.items ∙ begun c.args.runs.now.items c.args.i e c.push.new.self items
