use Rattle.constraint_graph.proofs.Undecided.{undecided}
use Rattle.constraint_graph.proofs.laws.undecided_law.Goals as goal

pub returns : goal.returns
returns c = undecided
