use Rattle.std.proofs.Common.{◌-◌, ◌≤◌, take, vec_len}
use Rattle.std.specs.Io.KnownBytes.{Consumes}
use Rattle.shelf_io.proofs.system.read_front.Given as goal

-- The bytes so far are those that the reader has given.
abbrev pub invariant-loop-count : goal.invariant-loop-count
invariant-loop-count g l = record {
  within : l.count ≤ vec_len l.bytes;
  capped : vec_len l.bytes ≤ l.cap;
  given : Consumes (g.F.Read.remaining l.initial.reader) (g.F.Read.remaining l.reader) (take l.count l.bytes.items);
}

-- Each read gives some bytes.
abbrev pub decreases-loop-count : goal.decreases-loop-count
decreases-loop-count g l = l.cap - l.count
