use Rattle.vir_lowering.proofs.Kept.{kept}
use Rattle.vir_lowering.proofs.laws.keeps_law.Goals as goal

pub returns : goal.returns
returns c = kept
