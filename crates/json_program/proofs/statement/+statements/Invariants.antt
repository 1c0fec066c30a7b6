use Rattle.std.proofs.Common.{◌≡◌, ◌+◌, ◌*◌, map, true}
use Rattle.std.specs.List.{list_all}
use Rattle.serde_json.specs.View.{view}
use Rattle.json_shape.specs.Counted.{each}
use Rattle.json_shape.proofs.InTurnCounted.{behind, rest_of}
use Rattle.json_program.specs.Parts.{is_statement}
use Rattle.json_program.specs.Statements.{statement_of}
use Rattle.json_program.proofs.statement.+statements.Given as goal

abbrev pub decreases-statement : goal.decreases-statement
decreases-statement l = 4 * l.levels

abbrev pub decreases-body : goal.decreases-body
decreases-body l = 4 * l.levels + 3

abbrev pub decreases-nested : goal.decreases-nested
decreases-nested l = 4 * l.levels + 2

abbrev pub decreases-statements : goal.decreases-statements
decreases-statements l = 4 * l.levels + 1

abbrev pub invariant-statements-loop-i : goal.invariant-statements-loop-i
invariant-statements-loop-i l = record {
  statements : behind l.items (rest_of (statement_of l.levels) l.path l.i l.nodes) l.counts ≡ each (statement_of l.levels) l.path 0 (map view l.nodes) l.fn.counts;
  fit : list_all (is_statement l.levels) l.items ≡ true;
}
