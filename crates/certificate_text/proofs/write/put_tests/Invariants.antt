use Rattle.std.proofs.Common.{◌≡◌, ◌++◌, ◌∷◌, take, drop, string_bytes}
use Rattle.std.specs.List.{flat_map, AllByRecursion}
use Rattle.key_table.specs.Tables.{variants_at}
use Rattle.certificate_text.specs.CodeValues.{IsTest}
use Rattle.certificate_text.specs.Named.{test_text}
use Rattle.certificate_text.specs.Numbered.{named_test}
use Rattle.certificate_text.proofs.write.put_tests.Given as goal

abbrev pub invariant-loop-test : goal.invariant-loop-test
invariant-loop-test l = (string_bytes l.out ++ flat_map (λ t. 32 ∷ test_text (named_test (variants_at l.key l.table) t)) (drop l.test-index l.tests) ≡ string_bytes l.fn.out ++ flat_map (λ t. 32 ∷ test_text (named_test (variants_at l.key l.table) t)) l.tests) × AllByRecursion IsTest (take l.test-index l.tests)
