-- What may be wrong with a comparison.
use Rattle.std.specs.Prelude.{ℕ, List, [], ◌∷◌, Bool, true, false, not, is_none, is_some, if◌then◌else◌, Option, Some, None}
use Rattle.std.specs.List.{list_all}
use Rattle.std.specs.Option.{option_map_or}
use Rattle.key_table.specs.declared.atom.Op.{Op}
use Rattle.key_table.specs.declared.key.Kind.{Kind}
use Rattle.key_table.specs.declared.key.Kind.TheVariants as kind
use Rattle.key_table.specs.Tables.{Table, find_key, find_variant, kind_at}
use Rattle.euclid_ast.specs.declared.statement.ValueForm.{ValueForm}
use Rattle.euclid_ast.specs.declared.statement.ValueForm.TheVariants.{Number, Variant, Metadata, Str, Numbers, Variants, NumberTests}
use Rattle.euclid_ast.specs.declared.statement.Comparison.{Comparison}
use Rattle.euclid_ast.specs.Comparisons.{is_equality}
use Rattle.dir_typing.specs.Numbered.{key_number}

-- the first code whose fault is there, among codes in their order
abbrev pub first_code : List (ℕ × Bool) → Option ℕ
first_code [] = None
first_code (f ∷ faults) = if f.1 then Some f.0 else first_code faults

-- Which forms fit a key of a kind.
abbrev pub form_fits : Kind → ValueForm → Bool
form_fits kind.Enum (Variant word) = true
form_fits kind.Enum (Variants words) = true
form_fits kind.Number (Number n) = true
form_fits kind.Number (Numbers ns) = true
form_fits kind.Number (NumberTests tests) = true
form_fits kind.Text (Str text) = true
form_fits kind.Metadata (Metadata sub text) = true
form_fits _ _ = false

-- Every operator fits a number, and those of equality fit the other forms.
abbrev pub operator_fits : Op → ValueForm → Bool
operator_fits op (Number n) = true
operator_fits op _ = is_equality op

-- the names of variants in a value
abbrev pub words_in : ValueForm → List (List ℕ)
words_in (Variant word) = word ∷ []
words_in (Variants words) = words
words_in _ = []

-- whether a key has a variant with this name
abbrev pub is_variant : Table → ℕ → List ℕ → Bool
is_variant table key word = is_some (find_variant key word table)

-- The first that applies: 1 the left side is no key, 2 the form doesn't fit the key's kind, 3 the operator doesn't fit the form, 4 a variant is none of the key.
abbrev pub comparison_code : Table → Comparison → Option ℕ
comparison_code table c =
    let key = key_number table c.lhs in
    first_code (
    (1, is_none (find_key c.lhs table))
    ∷ (2, not (option_map_or (λ k. form_fits k c.value) (kind_at key table) false))
    ∷ (3, not (operator_fits c.op c.value))
    ∷ (4, not (list_all (is_variant table key) (words_in c.value)))
    ∷ [])
