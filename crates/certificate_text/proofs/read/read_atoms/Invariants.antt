use Rattle.std.proofs.Common.{◌≡◌, ◌+◌, ◌-◌, []}
use Rattle.certificate_text.specs.Reading.{naming}
use Rattle.certificate_text.specs.Walks.{from}
use Rattle.certificate_text.proofs.read.read_atoms.Given as goal

abbrev pub invariant-loop : goal.invariant-loop
invariant-loop l = record {
  goes : from l.table (naming (l.count - l.counter) l.atoms) l.lines.read l.lines.rest.now ≡ from l.table (naming l.count []) l.fn.lines.read l.fn.lines.rest.now;
  read : l.lines.read ≡ 2 + l.counter;
}
