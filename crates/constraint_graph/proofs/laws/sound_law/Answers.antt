use Rattle.constraint_graph.proofs.Soundness.{sound}
use Rattle.constraint_graph.proofs.laws.sound_law.Goals as goal

pub returns : goal.returns
returns c = sound
