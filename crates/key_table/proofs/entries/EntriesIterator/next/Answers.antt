use Rattle.std.proofs.Common.{◌≡◌, ◌<◌, ◌∷◌, length, sym, subst, arith}
use Rattle.std.specs.Slice.Iter.{iter_rest}
use Rattle.std.proofs.lemmas.List.Elements.{All-rest, All-head, All-same}
use Rattle.key_table.specs.Payments.{Entries}
use Rattle.key_table.specs.Places.{Run}
use Rattle.key_table.proofs.entries.EntriesIterator.next.Goals as goal

-- the next run has an entry
pub returns-in_err-entry-clause-steps : goal.returns-in_err-entry-clause-steps
returns-in_err-entry-clause-steps c =
    let P : Run → Type 0 = λ run. 0 < length run.items in
    let run = c.in_ok-next.field-0.now in
    let rest = iter_rest c.next-2.new.self in
    let some = All-head P run rest (All-same P (run ∷ rest) (iter_rest c.self.inside.later) (sym c.in_ok-next.ensures.steps) c.self.invariant) in
    let Q : Entries → Type 0 = λ es. length es ≡ 0 in
    let none = subst Q c.deref.ensures.value (subst Q c.iter-self-inside.ensures.rest c.in_err-entry.ensures.steps.0) in
    absurd (omega arith)

-- and the runs after it have some
pub invariant_of-self-2 : goal.invariant_of-self-2
invariant_of-self-2 c = All-rest (λ (run : Run). 0 < length run.items) c.in_ok-next.field-0.now (iter_rest c.next-2.new.self) (iter_rest c.self.inside.later) c.in_ok-next.ensures.steps c.self.invariant
