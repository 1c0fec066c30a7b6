use Rattle.std.proofs.Common.{◌≡◌, ◌++◌, true, map}
use Rattle.std.specs.List.{All}
use Rattle.key_table.specs.declared.slot.Slot.{Slot}
use Rattle.key_table.specs.Tables.{slot_fits}
use Rattle.interval_domains.specs.Members.{slot_of}
use Rattle.domain_store.specs.Kept.{AreFull}
use Rattle.domain_store.proofs.slots.full_domains.Given as goal

abbrev pub invariant-loop-slot : goal.invariant-loop-slot
invariant-loop-slot l = record {
  slots : map slot_of l.domains.items ++ l.slot-iterator ≡ l.slots.keys;
  fits : All (λ (s : Slot). slot_fits l.table s ≡ true) l.slot-iterator;
  full : AreFull l.table l.domains.items;
}
