-- What the code has read of a line, as named tests and atoms.
use Rattle.std.specs.Borrow.{Bor}
use Rattle.std.specs.Prelude.{ℕ, nat_le, List, [], length, Bool, true, false, ◌&&◌, Option, Some, None, option_map, is_some, option_and_then, Result, if◌then◌else◌}
use Rattle.std.specs.Option.{option_map_or, unwrap_or}
use Rattle.std.specs.List.{list_all}
use Rattle.certificate_text.specs.declared.named.NamedTest as code
use Rattle.certificate_text.specs.declared.named.NamedTest.TheVariants as code_test
use Rattle.certificate_text.specs.declared.named.Head as code_head
use Rattle.certificate_text.specs.Spelled.{bytes_of}
use Rattle.key_table.specs.declared.atom.Test.{Test}
use Rattle.key_table.specs.declared.atom.Atom.{Atom}
use Rattle.key_table.specs.Tables.{Table, find_key}
use Rattle.key_table.specs.Answers.{◌>>=◌, or_fault}
use Rattle.certificate_text.specs.Forms.{is_hex}
use Rattle.certificate_text.specs.Numbered.{test_numbered, sub_numbered, fitting, atom_with}
use Rattle.certificate_text.specs.Named.{NamedTest, variant, text, number, NamedAtom, Head, with_tests, test_of, test_within, sub_within, each}

-- the bytes of hexadecimal digits
abbrev pub unhex : List ℕ → List ℕ
unhex digits = unwrap_or (bytes_of digits) []

abbrev pub test_view : code.NamedTest → NamedTest
test_view (code_test.Variant name) = variant name.now
test_view (code_test.Text digits) = text (unhex digits.now)
test_view (code_test.Number op n) = number op n

abbrev pub sub_view : Option (Bor (List ℕ)) → Option (List ℕ)
sub_view sub = option_map (λ digits. unhex digits.now) sub

abbrev pub head_view : code_head.Head → Head
head_view head = (head.key.now, sub_view head.sub, head.none_of)

-- whether a field is a test
abbrev pub is_test : List ℕ → Bool
is_test field = is_some (test_of field)

-- whether a field is a test within the limits
abbrev pub field_within : List ℕ → Bool
field_within field = option_map_or test_within (test_of field) false

-- whether the text of a test, or a sub name, is there in hexadecimal
abbrev pub is_hex_test : code.NamedTest → Bool
is_hex_test (code_test.Text digits) = is_hex digits.now
is_hex_test _ = true

abbrev pub is_hex_sub : Option (Bor (List ℕ)) → Bool
is_hex_sub None = true
is_hex_sub (Some digits) = is_hex digits.now

-- the test of a field with its numbers
abbrev pub field_numbered : Table → ℕ → List ℕ → Option Test
field_numbered table key field = option_and_then (test_numbered table key) (test_of field)

-- the atom of a line's first fields and of the fields of its tests
unfoldable pub numbered_in : Table → Head → List (List ℕ) → Result Atom ℕ
numbered_in table head fields = do
  key ← or_fault 2 (find_key head.0 table)
  sub ← or_fault 2 (sub_numbered head.1)
  tests ← or_fault 2 (each (field_numbered table key) fields)
  or_fault 2 (fitting table (atom_with key sub head.2 tests))

-- what the first fields and the fields of the tests spell
abbrev pub line_view : Head → List (List ℕ) → Option NamedAtom
line_view head fields = option_map (with_tests head) (each test_of fields)

abbrev pub fields_within : Head → List (List ℕ) → Bool
fields_within head fields = nat_le (length fields) 4096 && (sub_within head.1 && list_all field_within fields)

-- the code of the fault of a line that has these fields, and is no atom
abbrev pub fault_code : Head → List (List ℕ) → ℕ
fault_code head fields = if list_all is_test fields then (if fields_within head fields then 2 else 5) else 1
