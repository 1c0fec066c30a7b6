use Rattle.std.proofs.Common.{arith}
use Rattle.std.proofs.lemmas.Grind.{common_steps}
use Rattle.euclid_printer.proofs.Statements.{says_statement-out}
use Rattle.euclid_printer.proofs.expressible.+says_statement.Goals as goal

pub returns-then-not-says_statement : goal.returns-then-not-says_statement
returns-then-not-says_statement t c = rw (says_statement-out, c.in-Some.is) (grind (arith, common_steps))

pub returns-after-loop-inner : goal.returns-after-loop-inner
returns-after-loop-inner t c = rw (says_statement-out, c.in-Some.is) (grind (arith, common_steps))
