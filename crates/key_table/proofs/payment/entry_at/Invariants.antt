use Rattle.std.proofs.Common.{◌≡◌, ◌<◌, length, drop}
use Rattle.std.specs.List.{slice_get}
use Rattle.key_table.specs.Places.{entries_of}
use Rattle.key_table.proofs.payment.entry_at.Given as goal

abbrev pub invariant-loop-run : goal.invariant-loop-run
invariant-loop-run l = record {
  within : l.left < length (entries_of (drop l.run-index l.runs));
  same : slice_get (entries_of l.runs) l.place ≡ slice_get (entries_of (drop l.run-index l.runs)) l.left;
}
