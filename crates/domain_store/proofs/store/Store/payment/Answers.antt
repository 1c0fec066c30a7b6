use Rattle.std.proofs.Common.{ℕ, ◌≡◌, ◌<◌, List, length, map, get_or, true, sym, subst}
use Rattle.key_table.specs.Payments.{Entries, is_legal}
use Rattle.key_table.specs.OptionSets.{HasOption}
use Rattle.key_table.specs.Tables.{Table}
use Rattle.interval_domains.specs.declared.domain.SlotDomain.{SlotDomain}
use Rattle.interval_domains.specs.Members.{members, slot_of}
use Rattle.domain_store.specs.Stores.{Seen}
use Rattle.domain_store.specs.Kept.{StandOnce}
use Rattle.domain_store.specs.PickedPayments.{IsPayment, ArePicks, AreFitting}
use Rattle.domain_store.proofs.PaymentLemmas.{ok_both, payment_is, are_filled}
use Rattle.domain_store.proofs.store.Store.payment.Goals as goal

pub picks_of-requires-clause-once : goal.picks_of-requires-clause-once
picks_of-requires-clause-once c = let P : List SlotDomain → Type 0 = λ ds. StandOnce (map slot_of ds) in subst P (sym c.deref.ensures.value) c.self.invariant.places.once

pub picks_of-requires-clause-filled : goal.picks_of-requires-clause-filled
picks_of-requires-clause-filled c =
    let P : List SlotDomain → Type 0 = λ ds. (k : ℕ) (d : SlotDomain) → k < length ds → HasOption (members (get_or ds k d)) in
    subst P (sym c.deref.ensures.value) (are_filled _ _ _ _ _ c.self.invariant)

pub returns : goal.returns
returns c =
    let P : Entries → Type 0 = λ es. ArePicks c.deref.result.now es in
    let L : Entries → Type 0 = λ es. (table : Table) → AreFitting table c.deref.result.now → is_legal table es ≡ true in
    let Q : Entries → Type 0 = λ es. IsPayment c.args.self.now es in
    ok_both P L Q _ c.picks_of.ensures.picks c.picks_of.ensures.legal (λ es picks legal.
    let D : List SlotDomain → Type 0 = λ xs. ArePicks xs es in
    let E : List SlotDomain → Type 0 = λ xs. (table : Table) → AreFitting table xs → is_legal table es ≡ true in
    let S : Seen → Type 0 = λ s. IsPayment s es in
    subst S c.self.view_is (payment_is _ _ _ _ _ es c.self.invariant (subst D c.deref.ensures.value picks) (subst E c.deref.ensures.value legal)))
