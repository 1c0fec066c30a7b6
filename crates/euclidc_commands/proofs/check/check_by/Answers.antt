use Rattle.std.proofs.Common.{[], ◌∷◌}
use Rattle.euclidc_commands.specs.TypedFiles.{typed_file}
use Rattle.euclidc_commands.specs.Check.{run_on, Judged}
use Rattle.euclidc_commands.proofs.Joined.{concludes_next}
use Rattle.euclidc_commands.proofs.check.check_by.Goals as goal

pub returns : goal.returns
returns g c =
    let table = c.args.table.now in
    let p = c.args.program_name.now in
    let s = c.args.settings_name.now in
    let t = c.args.target in
    let certificate = c.args.certificate_name.now in
    concludes_next (typed_file table p) (λ program. run_on table program s t certificate) Judged (p ∷ []) s (certificate ∷ []) (g.F.Shelf.seen c.args.shelf.now) (g.F.Shelf.seen c.read_typed.new.shelf) (g.F.Shelf.seen c.check_on.new.shelf)
    c.in_ok-read.read.1 c.check_on.result c.in_ok-read.ensures.stage.0 c.in_ok-read.ensures.stage.1 c.check_on.ensures
