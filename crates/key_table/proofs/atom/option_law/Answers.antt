use Rattle.key_table.proofs.OptionLemmas.{legal_option}
use Rattle.key_table.proofs.atom.option_law.Goals as goal

pub returns : goal.returns
returns c = legal_option
