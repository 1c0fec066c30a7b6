use Rattle.key_table.proofs.EqualLemmas.{atom_equal}
use Rattle.key_table.proofs.laws.atom_law.Goals as goal

pub returns : goal.returns
returns c = atom_equal
