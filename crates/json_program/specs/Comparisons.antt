-- Comparisons in JSON: the operators and the forms of a value.
use Rattle.std.specs.Prelude.{ℕ, List, [], ◌∷◌, codes, bytes_eq, Option, Ok}
use Rattle.std.specs.Map.{lookup}
use Rattle.key_table.specs.Answers.{◌>>=◌}
use Rattle.key_table.specs.declared.atom.Op.{Op}
use Rattle.key_table.specs.declared.atom.Op.TheVariants.{Equal, NotEqual, Less, LessEqual, Greater, GreaterEqual}
use Rattle.euclid_ast.specs.declared.statement.NumberTest.{NumberTest}
use Rattle.euclid_ast.specs.declared.statement.ValueForm.{ValueForm}
use Rattle.euclid_ast.specs.declared.statement.ValueForm.TheVariants as value
use Rattle.euclid_ast.specs.declared.statement.Comparison.{Comparison}
use Rattle.json_shape.specs.Shapes.{whole_of}
use Rattle.json_shape.specs.Each.{Reader}
use Rattle.json_shape.specs.Fields.{within_field, items, word_of}
use Rattle.json_program.specs.declared.comparison.Form.{Form}
use Rattle.json_program.specs.declared.comparison.Form.TheVariants.{Number, Variant, Metadata, Str, Numbers, Variants, NumberTests}
use Rattle.json_program.specs.Texts.{text_of, name_in}

-- the names of the operators
abbrev pub operators : List (List ℕ × Op)
operators =
    (codes "equal", Equal)
    ∷ (codes "not_equal", NotEqual)
    ∷ (codes "less_than", Less)
    ∷ (codes "less_than_equal", LessEqual)
    ∷ (codes "greater_than", Greater)
    ∷ (codes "greater_than_equal", GreaterEqual)
    ∷ []

-- the operator with a name
abbrev pub operator_named : List ℕ → Option Op
operator_named word = lookup (bytes_eq word) operators

-- an operator; another string is UnknownOperator
abbrev pub operator_of : Reader Op
operator_of path d = word_of 7 operator_named path d

-- the names of the forms of a value
abbrev pub forms : List (List ℕ × Form)
forms =
    (codes "number", Number)
    ∷ (codes "enum_variant", Variant)
    ∷ (codes "metadata_variant", Metadata)
    ∷ (codes "str_value", Str)
    ∷ (codes "number_array", Numbers)
    ∷ (codes "enum_variant_array", Variants)
    ∷ (codes "number_comparison_array", NumberTests)
    ∷ []

-- the form of a value with a name
abbrev pub form_named : List ℕ → Option Form
form_named word = lookup (bytes_eq word) forms

-- an entry of a number comparison array
unfoldable pub test_of : Reader NumberTest
test_of path d = do
  op ← within_field (name_in (codes "comparisonType") (codes "comparison_type") d) operator_of path d
  number ← within_field (codes "number") whole_of path d
  Ok (record { op = op; number = number })

-- the key and the value of a metadata variant
abbrev pub metadata_of : Reader ValueForm
metadata_of path d = do
  key ← within_field (codes "key") text_of path d
  text ← within_field (codes "value") text_of path d
  Ok (value.Metadata key text)

-- a value of a form
abbrev pub value_in : Form → Reader ValueForm
value_in Number path d = whole_of path d >>= λ number. Ok (value.Number number)
value_in Variant path d = text_of path d >>= λ name. Ok (value.Variant name)
value_in Metadata path d = metadata_of path d
value_in Str path d = text_of path d >>= λ text. Ok (value.Str text)
value_in Numbers path d = items 4096 whole_of path d >>= λ numbers. Ok (value.Numbers numbers)
value_in Variants path d = items 4096 text_of path d >>= λ names. Ok (value.Variants names)
value_in NumberTests path d = items 4096 test_of path d >>= λ tests. Ok (value.NumberTests tests)

-- a value: its form, where another string is UnknownForm, and then what it is
unfoldable pub value_of : Reader ValueForm
value_of path d = do
  form ← within_field (codes "type") (word_of 6 form_named) path d
  within_field (codes "value") (value_in form) path d

-- the fields of a comparison
unfoldable pub fields_of : Reader Comparison
fields_of path d = do
  lhs ← within_field (codes "lhs") text_of path d
  op ← within_field (codes "comparison") operator_of path d
  what ← within_field (codes "value") value_of path d
  Ok (record { lhs = lhs; op = op; value = what })
