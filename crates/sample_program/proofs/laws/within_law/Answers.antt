use Rattle.sample_program.proofs.WithinLimits.{within, counted}
use Rattle.sample_program.proofs.laws.within_law.Goals as goal

pub returns-clause-within : goal.returns-clause-within
returns-clause-within c = within

pub returns-clause-count : goal.returns-clause-count
returns-clause-count c = counted
