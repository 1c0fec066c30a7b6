use Rattle.std.proofs.Common.{◌≡◌, take}
use Rattle.key_table.proofs.payment.copy_run.Given as goal

abbrev pub invariant-loop-slot : goal.invariant-loop-slot
invariant-loop-slot l = l.copy.items ≡ take l.slot-index l.run.items
