use Rattle.std.proofs.Common.{◌≡◌, map, take}
use Rattle.key_table.specs.declared.atom.Op.TheVariants.{Equal}
use Rattle.key_table.specs.declared.atom.Test.TheVariants as test
use Rattle.vir_lowering.proofs.atom.number_tests.Given as goal

abbrev pub invariant-loop-number : goal.invariant-loop-number
invariant-loop-number l = l.tests ≡ map (test.Number Equal) (take l.number-index l.numbers)
