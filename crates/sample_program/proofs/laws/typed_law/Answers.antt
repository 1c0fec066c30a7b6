use Rattle.sample_program.proofs.WellTyped.{well_typed}
use Rattle.sample_program.proofs.laws.typed_law.Goals as goal

pub returns : goal.returns
returns c = well_typed
