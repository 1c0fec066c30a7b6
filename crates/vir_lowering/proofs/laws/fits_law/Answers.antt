use Rattle.vir_lowering.proofs.AllAtomsFit.{all_atoms_fit}
use Rattle.vir_lowering.proofs.laws.fits_law.Goals as goal

pub returns : goal.returns
returns c = all_atoms_fit
