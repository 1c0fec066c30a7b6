use Rattle.std.proofs.Common.{arith}
use Rattle.std.proofs.lemmas.Grind.{common_steps}
use Rattle.euclid_ast.proofs.Statements.{statement_holds-out}
use Rattle.euclid_ast.proofs.meaning.+statement_holds.Goals as goal

pub returns-then-statement_holds : goal.returns-then-statement_holds
returns-then-statement_holds t c = rw (statement_holds-out, c.in-Some.is) (grind (arith, common_steps))

pub returns-after-loop-inner : goal.returns-after-loop-inner
returns-after-loop-inner t c = rw (statement_holds-out, c.in-Some.is) (grind (arith, common_steps))
