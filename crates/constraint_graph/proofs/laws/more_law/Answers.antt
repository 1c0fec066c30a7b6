use Rattle.constraint_graph.proofs.More.{more}
use Rattle.constraint_graph.proofs.laws.more_law.Goals as goal

pub returns : goal.returns
returns c = more
