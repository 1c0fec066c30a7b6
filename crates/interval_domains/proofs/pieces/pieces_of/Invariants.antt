use Rattle.std.proofs.Common.{◌≡◌, ℤ, take, FitsSigned}
use Rattle.std.specs.List.{list_any, All}
use mir.Syntax.{w64}
use Rattle.key_table.specs.declared.slot.Datum.TheVariants.{Number}
use Rattle.key_table.specs.Atoms.{test_holds}
use Rattle.interval_domains.specs.Intervals.{has_number, IsInterval}
use Rattle.interval_domains.proofs.pieces.pieces_of.Given as goal

abbrev pub invariant-loop-test : goal.invariant-loop-test
invariant-loop-test l = record {
  filled : All IsInterval l.pieces.items;
  numbers : (x : ℤ) → FitsSigned w64 x → has_number l.pieces.items x ≡ list_any (test_holds (Number x)) (take l.test-index l.tests);
}
