use Rattle.std.proofs.Common.{◌≡◌, true, Option, sym, ◌∙◌, subst, ap}
use Rattle.key_table.specs.declared.slot.Slot.{Slot}
use Rattle.key_table.specs.declared.slot.Datum.{Datum}
use Rattle.key_table.specs.Payments.{value_of, is_legal}
use Rattle.key_table.specs.Tables.{Table}
use Rattle.interval_domains.specs.Picks.{IsPick}
use Rattle.interval_domains.specs.Members.{members, slot_of}
use Rattle.domain_store.specs.PickedPayments.{with_pick, FitsAt}
use Rattle.domain_store.proofs.PaymentLemmas.{on_ok_then, picked_own, picked_other, picked_legal}
use Rattle.domain_store.proofs.picks.put_pick.Goals as goal

pub returns-clause-pick : goal.returns-clause-pick
returns-clause-pick c =
    let slot = slot_of c.args.domain.now in
    let es = c.args.payment.now in
    let es' = c.put_picked.new.payment in
    let o = c.in_ok-picked.picked in
    let at : with_pick es c.slot.result.now o ≡ with_pick es slot o = ap (λ (s : Slot). with_pick es s o) c.slot.ensures in
    let Q : Option Datum → Type 0 = λ o. IsPick (members c.args.domain.now) o in
    on_ok_then (es' ≡ with_pick es c.slot.result.now o) (Q (value_of slot es')) _ c.put_picked.ensures (λ is.
    subst Q (sym (picked_own c.put_law.ensures es es' slot o c.requires.fresh (is ∙ at))) c.in_ok-picked.ensures)

pub returns-clause-others : goal.returns-clause-others
returns-clause-others c =
    let slot = slot_of c.args.domain.now in
    let es = c.args.payment.now in
    let es' = c.put_picked.new.payment in
    let o = c.in_ok-picked.picked in
    let at : with_pick es c.slot.result.now o ≡ with_pick es slot o = ap (λ (s : Slot). with_pick es s o) c.slot.ensures in
    let Q : Type 0 = (t : Slot) → (t ≡ slot → ⊥) → value_of t es' ≡ value_of t es in
    on_ok_then (es' ≡ with_pick es c.slot.result.now o) Q _ c.put_picked.ensures (λ is t apart. picked_other c.slot_law.ensures.same c.put_law.ensures es es' slot t o (is ∙ at) apart)

pub returns-clause-legal : goal.returns-clause-legal
returns-clause-legal c =
    let slot = slot_of c.args.domain.now in
    let es = c.args.payment.now in
    let es' = c.put_picked.new.payment in
    let o = c.in_ok-picked.picked in
    let at : with_pick es c.slot.result.now o ≡ with_pick es slot o = ap (λ (s : Slot). with_pick es s o) c.slot.ensures in
    let Q : Type 0 = (table : Table) → FitsAt table c.args.domain.now → is_legal table es ≡ true → is_legal table es' ≡ true in
    on_ok_then (es' ≡ with_pick es c.slot.result.now o) Q _ c.put_picked.ensures (λ is table fits legal. picked_legal c.legal_law.ensures.put table es es' c.args.domain.now o fits c.in_ok-picked.ensures (is ∙ at) legal)
