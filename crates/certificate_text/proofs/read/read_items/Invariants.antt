use Rattle.std.proofs.Common.{◌≡◌, ◌+◌, ◌≤◌, List, length}
use Rattle.key_table.specs.declared.atom.Atom.{Atom}
use Rattle.key_table.specs.Tables.{Table}
use Rattle.certificate_text.specs.Reading.{naming, proving}
use Rattle.certificate_text.specs.Walks.{from}
use Rattle.certificate_text.proofs.read.read_items.Given as goal

abbrev pub invariant-loop-items : goal.invariant-loop-items
invariant-loop-items l = record {
  goes : (table : Table) (atoms : List Atom) → from table (naming 0 atoms) l.fn.lines.read l.fn.lines.rest.now ≡ from table (proving atoms l.items) l.lines.read l.lines.rest.now;
  read : l.lines.read ≡ l.fn.lines.read + length l.items;
  few : length l.items ≤ 131073;
}

abbrev pub decreases-loop-items : goal.decreases-loop-items
decreases-loop-items l = length l.lines.rest.now
