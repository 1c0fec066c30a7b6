use Rattle.std.proofs.Common.{◌≡◌, ℤ, take, false, ◌&&◌}
use Rattle.std.specs.List.{list_any}
use Rattle.key_table.specs.declared.slot.Datum.TheVariants.{Number}
use Rattle.key_table.specs.Atoms.{test_holds}
use Rattle.interval_domains.specs.Intervals.{has_number}
use Rattle.interval_domains.proofs.coverage.any_passes.Given as goal

abbrev pub invariant-loop-test : goal.invariant-loop-test
invariant-loop-test l = (x : ℤ) → (has_number l.list x && list_any (test_holds (Number x)) (take l.test-index l.tests)) ≡ false
