use Rattle.std.proofs.Common.{◌≡◌, map, take}
use Rattle.key_table.specs.declared.atom.Test.TheVariants as test
use Rattle.vir_lowering.proofs.atom.variant_tests.Given as goal

abbrev pub invariant-loop-variant : goal.invariant-loop-variant
invariant-loop-variant l = l.tests ≡ map test.Variant (take l.variant-index l.variants)
