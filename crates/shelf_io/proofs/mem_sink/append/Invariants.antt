use Rattle.std.proofs.Common.{◌≡◌, ◌++◌, take, vec_capacity}
use Rattle.shelf_io.proofs.mem_sink.append.Given as goal

-- The bytes so far stand after the earlier ones, and the capacity is as it was.
abbrev pub invariant-loop-byte : goal.invariant-loop-byte
invariant-loop-byte l = record {
  items : l.buffer.items ≡ l.initial.buffer.items ++ take l.byte-index l.bytes;
  capacity : vec_capacity l.buffer ≡ vec_capacity l.initial.buffer;
}
