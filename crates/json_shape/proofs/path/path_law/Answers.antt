use Rattle.json_shape.proofs.Steps.{name_law, item_law}
use Rattle.json_shape.proofs.path.path_law.Goals as goal

pub returns : goal.returns
returns c = (name_law, item_law)
