use Rattle.std.proofs.Common.{[], ◌∷◌}
use Rattle.euclidc_commands.specs.TypedFiles.{typed_file}
use Rattle.euclidc_commands.specs.Prove.{run_on, Proved}
use Rattle.euclidc_commands.proofs.Joined.{concludes_next}
use Rattle.euclidc_commands.proofs.prove.prove_by.Goals as goal

pub returns : goal.returns
returns g c =
    let table = c.args.table.now in
    let p = c.args.program_name.now in
    let s = c.args.settings_name.now in
    let t = c.args.target in
    concludes_next (typed_file table p) (λ program. run_on table program s t) (Proved t c.args.budget) (p ∷ []) s [] (g.F.Shelf.seen c.args.shelf.now) (g.F.Shelf.seen c.read_typed.new.shelf) (g.F.Shelf.seen c.prove_on.new.shelf)
    c.in_ok-read.read.1 c.prove_on.result c.in_ok-read.ensures.stage.0 c.in_ok-read.ensures.stage.1 c.prove_on.ensures
