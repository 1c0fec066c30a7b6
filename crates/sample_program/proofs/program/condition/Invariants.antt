use Rattle.sample_program.proofs.Drawing.{Picks}
use Rattle.sample_program.proofs.program.condition.Given as goal

abbrev pub invariant-loop : goal.invariant-loop
invariant-loop l = Picks l.fn.draws.state l.draws.state l.condition l.counter
