use Rattle.euclid_parser.proofs.Right.{text-law}
use Rattle.euclid_parser.proofs.laws.text_law.Goals as goal

pub returns : goal.returns
returns c = text-law c.written_law.ensures
