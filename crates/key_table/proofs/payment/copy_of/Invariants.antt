use Rattle.std.proofs.Common.{◌≡◌, take}
use Rattle.key_table.specs.Places.{parts_of}
use Rattle.key_table.proofs.payment.copy_of.Given as goal

abbrev pub invariant-loop-run : goal.invariant-loop-run
invariant-loop-run l = parts_of l.copy.items ≡ parts_of (take l.run-index l.runs.items)
