use Rattle.key_table.proofs.ContextLemmas.{assumed, more}
use Rattle.key_table.proofs.laws.forces_law.Goals as goal

pub returns-clause-assumed : goal.returns-clause-assumed
returns-clause-assumed c = assumed

pub returns-clause-more : goal.returns-clause-more
returns-clause-more c = more
