use Rattle.std.proofs.Common.{◌≡◌, ◌∙◌, List, map, ◌++◌, true, ap, sym, subst}
use Rattle.std.proofs.lemmas.List.Elements.{All-push, All-rest}
use Rattle.key_table.specs.declared.slot.Slot.{Slot}
use Rattle.key_table.specs.Options.{is_option}
use Rattle.key_table.specs.Tables.{slot_fits}
use Rattle.interval_domains.specs.declared.domain.SlotDomain.{SlotDomain}
use Rattle.interval_domains.specs.Members.{members, slot_of}
use Rattle.domain_store.specs.Kept.{AreFull}
use Rattle.domain_store.proofs.SlotLemmas.{slots_next}
use Rattle.domain_store.proofs.slots.full_domains.Goals as goal

pub loop-slot-preserved : goal.loop-slot-preserved
loop-slot-preserved c =
    let ds = c.loop-slot.domains.items in
    let d = c.in_ok-full.field-0 in
    let slot = c.in-Some.slot.now in
    let table = c.args.table.now in
    let same : slot_of d ≡ slot = c.in_ok-full.ensures.slot in
    let S : List SlotDomain → Type 0 = λ xs. map slot_of xs ++ c.next.new.self ≡ c.args.slots.now.keys in
    let F : List SlotDomain → Type 0 = λ xs. AreFull table xs in
    record {
      slots = subst S (sym c.in_ok-push.ensures.items) (slots_next c.args.slots.now.keys c.loop-slot.slot-iterator c.next.new.self ds d slot c.in-Some.ensures.steps c.loop-slot.invariant.slots same);
      fits = All-rest (λ (s : Slot). slot_fits table s ≡ true) slot c.next.new.self c.loop-slot.slot-iterator c.in-Some.ensures.steps c.loop-slot.invariant.fits;
      full = subst F (sym c.in_ok-push.ensures.items) (All-push (λ (e : SlotDomain). members e ≡ is_option table (slot_of e)) ds d c.loop-slot.invariant.full (c.in_ok-full.ensures.options ∙ ap (λ (s : Slot). is_option table s) (sym same)));
    }
