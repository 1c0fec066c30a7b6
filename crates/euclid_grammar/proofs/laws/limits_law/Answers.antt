use Rattle.euclid_grammar.proofs.ProgramLimits.{limits_agree}
use Rattle.euclid_grammar.proofs.laws.limits_law.Goals as goal

pub returns : goal.returns
returns c = limits_agree
