use Rattle.std.proofs.Common.{take, ap, ◌∙◌, rules}
use Rattle.std.proofs.lemmas.List.{with_items_is, places}
use Rattle.shelf_io.proofs.Known.{Consumes-take-add}
use Rattle.shelf_io.proofs.system.read_front.Goals as goal

pub loop-count-preserved : goal.loop-count-preserved
loop-count-preserved g c =
    let read = c.in-Ok.ensures in
    let kept = read.front ∙ ap (take c.loop-count.count) c.deref_mut.ensures.value ∙ c.make_room.ensures.front in
    record {
      within = search rules;
      capped = search rules;
      given =
          rw (with_items_is c.make_room.new.bytes c.read_after.new.bytes (search (rules, places)))
          (Consumes-take-add _ _ _ _ _ _ _ kept c.loop-count.invariant.given read.given);
    }
