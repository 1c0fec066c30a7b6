use Rattle.sample_program.proofs.SettingsRead.{settings_read}
use Rattle.sample_program.proofs.laws.settings_law.Goals as goal

pub returns : goal.returns
returns c = settings_read
