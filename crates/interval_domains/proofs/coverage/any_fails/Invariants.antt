use Rattle.std.proofs.Common.{◌≡◌, ◌+◌, ◌-◌, ◌^◌, ◌≤◌, ℤ, pos, ◌-ℤ◌, ◌<ℤ◌, length, take, true}
use Rattle.std.specs.Int.RustNames.{unsigned_abs}
use Rattle.std.specs.List.{list_any}
use Rattle.key_table.specs.declared.slot.Datum.TheVariants.{Number}
use Rattle.key_table.specs.Atoms.{test_holds}
use Rattle.interval_domains.specs.Intervals.{has_number}
use Rattle.interval_domains.proofs.coverage.any_fails.Given as goal

abbrev pub invariant-loop-place : goal.invariant-loop-place
invariant-loop-place l = record {
  within : l.place ≤ length l.list;
  before : (x : ℤ) → has_number (take l.place l.list) x ≡ true → list_any (test_holds (Number x)) l.tests ≡ true;
  below : (x : ℤ) → has_number l.list x ≡ true → x <ℤ l.from → list_any (test_holds (Number x)) l.tests ≡ true;
}

abbrev pub decreases-loop-place : goal.decreases-loop-place
decreases-loop-place l = (length l.list - l.place) + unsigned_abs (pos (2 ^ 63) -ℤ l.from)
