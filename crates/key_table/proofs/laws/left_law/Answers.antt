use Rattle.key_table.proofs.ContextLemmas.{left_is, verdict}
use Rattle.key_table.proofs.laws.left_law.Goals as goal

pub returns-clause-options : goal.returns-clause-options
returns-clause-options c = left_is

pub returns-clause-verdict : goal.returns-clause-verdict
returns-clause-verdict c = verdict
