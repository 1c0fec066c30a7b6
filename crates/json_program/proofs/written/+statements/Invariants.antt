use Rattle.std.proofs.Common.{◌≡◌, map, take}
use Rattle.serde_json.specs.View.{view}
use Rattle.json_program.specs.Written.{statement_data}
use Rattle.json_program.proofs.written.+statements.Given as goal

abbrev pub invariant-statements_value-loop-statement : goal.invariant-statements_value-loop-statement
invariant-statements_value-loop-statement l = map view l.list.items ≡ map statement_data (take l.statement-index l.statements)
