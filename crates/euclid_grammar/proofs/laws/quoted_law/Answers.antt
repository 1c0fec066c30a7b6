use Rattle.euclid_grammar.proofs.Quoted.{shape-quoted}
use Rattle.euclid_grammar.proofs.laws.quoted_law.Goals as goal

pub returns : goal.returns
returns c = shape-quoted
