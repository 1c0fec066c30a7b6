use Rattle.std.proofs.Common.{take, get_or}
use Rattle.std.proofs.lemmas.List.{take_more}
use Rattle.rule_report.proofs.TakenLemmas.{atoms_more, said_more}
use Rattle.rule_report.proofs.taken.take_all.Goals as goal

pub loop-place-preserved : goal.loop-place-preserved
loop-place-preserved c =
    let place = get_or c.args.places.now c.loop-place.place-index 0 in
    let next = take_more c.args.places.now c.loop-place.place-index 0 c.loop-place-test.true in
    let front = take c.loop-place.place-index c.args.places.now in (
      c.in_ok-take.ensures.taken,
      rw next (atoms_more c.args.shared.now c.args.taken.now.atoms c.loop-place.taken.atoms c.take.new.taken.atoms front place c.loop-place.invariant.1 c.in_ok-take.ensures.atoms),
      rw (next, c.in_ok-push.ensures.ok) (said_more c.args.shared.now c.args.taken.now.atoms c.loop-place.taken.atoms c.take.new.taken.atoms front place c.loop-place.path c.in_ok-take.field-0
          c.loop-place.invariant.2 c.in_ok-take.ensures.atoms c.in_ok-take.ensures.said),
    )
