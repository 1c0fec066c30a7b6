use Rattle.std.proofs.Common.{◌≡◌, map, take}
use Rattle.vir_lowering.specs.Atoms.{entry_test}
use Rattle.vir_lowering.proofs.atom.entry_tests.Given as goal

abbrev pub invariant-loop-entry : goal.invariant-loop-entry
invariant-loop-entry l = l.tests ≡ map entry_test (take l.entry-index l.entries)
