use Rattle.std.proofs.Common.{◌-◌, ◌<◌, ◌≤◌, length, take, drop}
use Rattle.std.specs.Option.{option_copied}
use Rattle.key_table.specs.Slots.{at}
use Rattle.key_table.specs.Places.{AreBefore, AreAfter, entries_of}
use Rattle.key_table.proofs.payment.run_of.Given as goal

abbrev pub invariant-loop-first : goal.invariant-loop-first
invariant-loop-first l = record {
  order : l.first < l.end;
  within : l.end ≤ length l.runs;
  before : AreBefore (at l.key (option_copied l.sub)) (entries_of (take l.first l.runs));
  after : AreAfter (at l.key (option_copied l.sub)) (entries_of (drop l.end l.runs));
}

abbrev pub decreases-loop-first : goal.decreases-loop-first
decreases-loop-first l = l.end - l.first
