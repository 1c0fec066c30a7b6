use Rattle.std.proofs.Common.{◌≡◌, ◌*◌}
use Rattle.sample_program.specs.Draws.{state}
use Rattle.sample_program.specs.Programs.{rules}
use Rattle.sample_program.proofs.program.rules.Given as goal

abbrev pub invariant-loop-number : goal.invariant-loop-number
invariant-loop-number l = (l.rules ≡ rules l.seed l.number) × (l.draws.state ≡ state l.seed (4 * l.number))
