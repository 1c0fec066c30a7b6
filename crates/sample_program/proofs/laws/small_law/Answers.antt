use Rattle.sample_program.proofs.Small.{small}
use Rattle.sample_program.proofs.laws.small_law.Goals as goal

pub returns : goal.returns
returns c = small
