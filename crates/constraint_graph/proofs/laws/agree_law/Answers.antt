use Rattle.constraint_graph.proofs.Agreement.{agreed}
use Rattle.constraint_graph.proofs.laws.agree_law.Goals as goal

pub returns : goal.returns
returns c = agreed
