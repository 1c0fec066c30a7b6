use Rattle.std.proofs.Common.{[], ◌∷◌}
use Rattle.euclidc_commands.specs.SettingsFiles.{settings_file}
use Rattle.euclidc_commands.specs.Check.{run_under, Judged}
use Rattle.euclidc_commands.proofs.Joined.{concludes_next}
use Rattle.euclidc_commands.proofs.check.check_on.Goals as goal

pub returns : goal.returns
returns g c =
    let table = c.args.table.now in
    let program = c.args.typed.now in
    let s = c.args.settings_name.now in
    let t = c.args.target in
    let certificate = c.args.certificate_name.now in
    concludes_next (settings_file table s) (λ settings. run_under table program settings t certificate) Judged (s ∷ []) certificate [] (g.F.Shelf.seen c.args.shelf.now) (g.F.Shelf.seen c.read_settings.new.shelf) (g.F.Shelf.seen c.check_under.new.shelf)
    c.in_ok-settings.settings c.check_under.result c.in_ok-settings.ensures.stage.0 c.in_ok-settings.ensures.stage.1 c.check_under.ensures
