use Rattle.std.proofs.Common.{Result, IfOk, subst}
use Rattle.euclid_ast.specs.declared.program.Program.{Program}
use Rattle.json_shape.specs.declared.error.ShapeError.{ShapeError}
use Rattle.json_program.proofs.Counting.{IsAllowed, program_counts, program_or_fault-allowed}
use Rattle.json_program.proofs.ProgramLimits.{within}
use Rattle.json_program.proofs.reading.read_json.Goals as goal

pub returns-in-Ok-clause-within : goal.returns-in-Ok-clause-within
returns-in-Ok-clause-within c =
    let P : Result Program ShapeError → Type 0 = λ r. IfOk r (λ p. IsAllowed (program_counts p)) in
    within c.in-Ok.program c.in-Ok.ensures.fits (subst P c.in-Ok.ensures.program (program_or_fault-allowed 32 c.args.bytes.now))
