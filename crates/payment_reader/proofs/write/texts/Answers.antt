use Rattle.std.proofs.Common.{◌++◌, ◌∙◌, map, ap, sym}
use Rattle.std.specs.Map.Iter.{deref_pair}
use Rattle.std.proofs.lemmas.List.{append-nil, map_push}
use Rattle.std.proofs.lemmas.Map.Iter.{rest_so_far, rest_more, rest_all}
use Rattle.serde_json.specs.Data.{put}
use Rattle.key_table.specs.declared.slot.Slot.{Slot}
use Rattle.key_table.specs.declared.slot.Datum.{Datum}
use Rattle.key_table.specs.Payments.{Entries}
use Rattle.payment_reader.specs.Written.{text_added, texts_of}
use Rattle.payment_reader.proofs.Texts.{put_next}
use Rattle.payment_reader.proofs.write.texts.Goals as goal

-- the next text goes behind those that were put
pub loop-slot-preserved : goal.loop-slot-preserved
loop-slot-preserved c =
    let done : Entries = map deref_pair c.loop-slot.yielded in
    let e : Slot × Datum = (c.in-Some.slot.now, c.in-Some.datum.now) in
    let next = rest_more deref_pair c.loop-slot.slot-iterator c.next.new.self c.next.result (c.in-Some.slot, c.in-Some.datum) c.in-Some.is c.next.ensures.steps in
    let whole = sym c.under-slot-items.ensures ∙ sym c.into_iter-slot-iterator.ensures.into_iter_gives
    ∙ rest_so_far deref_pair c.loop-slot.yielded c.into_iter-slot-iterator.result c.loop-slot.slot-iterator c.loop-slot.yielded_by ∙ ap (λ (l : Entries). done ++ l) next in
    c.in_ok-add_text.ensures
    ∙ ap (text_added put e.0.sub e.1) c.loop-slot.invariant
    ∙ put_next c.args.payment.now c.args.key done e c.next.new.self c.requires whole
    ∙ ap texts_of (sym (map_push deref_pair c.loop-slot.yielded (c.in-Some.slot, c.in-Some.datum)))

-- and in the end all were put
pub returns : goal.returns
returns c =
    let done : Entries = map deref_pair c.loop-slot.yielded in
    let none = rest_all deref_pair c.loop-slot.slot-iterator c.next.new.self c.next.result c.in-None.is c.next.ensures.steps in
    let whole = sym c.under-slot-items.ensures ∙ sym c.into_iter-slot-iterator.ensures.into_iter_gives
    ∙ rest_so_far deref_pair c.loop-slot.yielded c.into_iter-slot-iterator.result c.loop-slot.slot-iterator c.loop-slot.yielded_by ∙ ap (λ (l : Entries). done ++ l) none ∙ append-nil done in
    c.loop-slot.invariant ∙ ap texts_of (sym whole)
