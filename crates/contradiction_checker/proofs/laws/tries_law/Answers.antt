use Rattle.contradiction_checker.proofs.Exact.{tries_law}
use Rattle.contradiction_checker.proofs.laws.tries_law.Goals as goal

pub returns : goal.returns
returns c = tries_law
