use Rattle.constraint_graph.proofs.Total.{total}
use Rattle.constraint_graph.proofs.laws.total_law.Goals as goal

pub returns : goal.returns
returns c = total
