use Rattle.std.proofs.Common.{Option, subst}
use Rattle.euclidc_commands.specs.Commands.{Command}
use Rattle.euclidc_commands.specs.Top.{Meets, LeavesShelf, Completes, Misses, Accepts}
use Rattle.euclidc_commands.proofs.Meetings.{does, keeps, leaves_shelf}
use Rattle.euclidc_commands.proofs.Completeness.{completes, misses, accepts}
use Rattle.euclidc_commands.proofs.top.euclidc.Goals as goal

pub returns-clause-means : goal.returns-clause-means
returns-clause-means g c =
    let P : Option Command → Type 0 = λ o. Meets o (g.F.Shelf.seen c.args.shelf.now) (g.F.Shelf.seen c.outcome-outcome.new.shelf) (g.K.Sink.seen c.args.out.now) (g.K.Sink.seen c.finish.new.out) c.finish.result in
    subst P c.in-Some.ensures (does _ _ _ _ _ _ _ c.outcome-outcome.ensures c.finish.ensures)

pub returns-clause-keeps : goal.returns-clause-keeps
returns-clause-keeps g c = keeps _ _ _ _ _ _ _ c.outcome-outcome.ensures c.finish.ensures

pub returns-clause-still : goal.returns-clause-still
returns-clause-still g c =
    let P : Option Command → Type 0 = λ o. LeavesShelf o (g.F.Shelf.seen c.args.shelf.now) (g.F.Shelf.seen c.outcome-outcome.new.shelf) c.finish.result in
    subst P c.in-Some.ensures (leaves_shelf _ _ _ _ _ _ _ c.outcome-outcome.ensures c.finish.ensures)

pub returns-clause-completes : goal.returns-clause-completes
returns-clause-completes g c =
    let P : Option Command → Type 0 = λ o. Completes o (g.F.Shelf.seen c.args.shelf.now) (g.F.Shelf.seen c.outcome-outcome.new.shelf) (g.K.Sink.seen c.args.out.now) (g.K.Sink.seen c.finish.new.out) c.finish.result in
    subst P c.in-Some.ensures (completes c.enough_law.ensures _ _ _ _ _ _ _ c.outcome-outcome.ensures c.finish.ensures)

pub returns-clause-misses : goal.returns-clause-misses
returns-clause-misses g c =
    let P : Option Command → Type 0 = λ o. Misses o (g.F.Shelf.seen c.args.shelf.now) c.finish.result in
    subst P c.in-Some.ensures (misses _ _ _ _ _ _ _ c.outcome-outcome.ensures c.finish.ensures)

pub returns-clause-accepts : goal.returns-clause-accepts
returns-clause-accepts g c =
    let P : Option Command → Type 0 = λ o. Accepts o (g.F.Shelf.seen c.args.shelf.now) c.finish.result in
    subst P c.in-Some.ensures (accepts c.accepted_law.ensures c.never_law.ensures _ _ _ _ _ _ _ c.outcome-outcome.ensures c.finish.ensures)
