use Rattle.std.proofs.Common.{[], ◌∷◌}
use Rattle.euclidc_commands.specs.TypedFiles.{typed_file}
use Rattle.euclidc_commands.specs.Decide.{run_on, Decides}
use Rattle.euclidc_commands.proofs.Joined.{concludes_next}
use Rattle.euclidc_commands.proofs.decide.decide_by.Goals as goal

pub returns : goal.returns
returns g c =
    let table = c.args.table.now in
    let p = c.args.program_name.now in
    let pay = c.args.payment_name.now in
    concludes_next (typed_file table p) (λ program. run_on table program pay) Decides (p ∷ []) pay [] (g.F.Shelf.seen c.args.shelf.now) (g.F.Shelf.seen c.read_typed.new.shelf) (g.F.Shelf.seen c.decide_on.new.shelf)
    c.in_ok-read.read.1 c.decide_on.result c.in_ok-read.ensures.stage.0 c.in_ok-read.ensures.stage.1 c.decide_on.ensures
