-- The atom of a comparison.
use Rattle.std.specs.Prelude.{List, [], ◌∷◌, map, Bool, true, false}
use Rattle.key_table.specs.declared.atom.Op.{Op}
use Rattle.key_table.specs.declared.atom.Op.TheVariants.{Equal, NotEqual}
use Rattle.key_table.specs.declared.atom.Test.{Test}
use Rattle.key_table.specs.declared.atom.Test.TheVariants as test
use Rattle.key_table.specs.declared.atom.Atom.{Atom}
use Rattle.euclid_ast.specs.declared.statement.NumberTest.{NumberTest}
use Rattle.dir_typing.specs.declared.dir.DirValue.{DirValue}
use Rattle.dir_typing.specs.declared.dir.DirValue.TheVariants.{Number, Variant, Text, Numbers, Variants, NumberTests}
use Rattle.dir_typing.specs.declared.dir.DirComparison.{DirComparison}

-- Whether no test may be true. It is so of `not_equal` alone.
abbrev pub is_none_of : Op → Bool
is_none_of NotEqual = true
is_none_of _ = false

-- The operator of the test of a number: `not_equal` has the test of `equal`.
abbrev pub test_op : Op → Op
test_op NotEqual = Equal
test_op op = op

-- the test of an entry of a number comparison array
abbrev pub entry_test : NumberTest → Test
entry_test entry = test.Number entry.op entry.number

-- One test for a single value, and for an array those of its items in order.
abbrev pub tests_of : Op → DirValue → List Test
tests_of op (Number n) = test.Number (test_op op) n ∷ []
tests_of op (Variant v) = test.Variant v ∷ []
tests_of op (Text t) = test.Text t ∷ []
tests_of op (Numbers ns) = map (test.Number Equal) ns
tests_of op (Variants vs) = map test.Variant vs
tests_of op (NumberTests entries) = map entry_test entries

-- The atom of a comparison: its slot, and the tests of its operator and its value.
abbrev pub atom_of : DirComparison → Atom
atom_of c = record { slot = c.slot; none_of = is_none_of c.op; tests = tests_of c.op c.value }
