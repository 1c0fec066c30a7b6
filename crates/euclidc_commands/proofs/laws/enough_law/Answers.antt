use Rattle.euclidc_commands.proofs.FindingLemmas.{not_open}
use Rattle.euclidc_commands.proofs.laws.enough_law.Goals as goal

pub returns : goal.returns
returns c = not_open c.atom_law.ensures c.bound_law.ensures.traces
