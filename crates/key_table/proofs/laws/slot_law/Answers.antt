use Rattle.key_table.proofs.OptionLemmas.{same_slot}
use Rattle.key_table.proofs.laws.slot_law.Goals as goal

pub returns-clause-same : goal.returns-clause-same
returns-clause-same c = same_slot
