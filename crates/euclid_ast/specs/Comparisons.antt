-- When a comparison holds of a payment.
use Rattle.std.specs.Prelude.{ℕ, ℤ, not, List, Bool, true, false, ◌&&◌, bytes_eq, Option, Some, None, slice_get}
use Rattle.std.specs.List.{list_any}
use Rattle.std.specs.Option.{option_map_or}
use Rattle.key_table.specs.declared.atom.Op.{Op}
use Rattle.key_table.specs.declared.atom.Op.TheVariants.{Equal, NotEqual}
use Rattle.key_table.specs.declared.key.Kind.{Kind}
use Rattle.key_table.specs.declared.key.Kind.TheVariants as kind
use Rattle.key_table.specs.declared.slot.Datum.{Datum}
use Rattle.key_table.specs.declared.slot.Datum.TheVariants as datum
use Rattle.key_table.specs.Tables.{Table, Domain, kind_of, names_of, find_key, domain_at}
use Rattle.key_table.specs.Atoms.{relates}
use Rattle.key_table.specs.Slots.{at}
use Rattle.key_table.specs.Payments.{Entries, value_of}
use Rattle.euclid_ast.specs.declared.statement.ValueForm.{ValueForm}
use Rattle.euclid_ast.specs.declared.statement.ValueForm.TheVariants.{Number, Variant, Metadata, Str, Numbers, Variants, NumberTests}
use Rattle.euclid_ast.specs.declared.statement.Comparison.{Comparison}

-- the operators that fit every form
abbrev pub is_equality : Op → Bool
is_equality Equal = true
is_equality NotEqual = true
is_equality _ = false

-- Which forms and operators fit a key.
abbrev pub fits : Kind → Op → ValueForm → Bool
fits kind.Enum op (Variant name) = is_equality op
fits kind.Enum op (Variants names) = is_equality op
fits kind.Number op (Number n) = true
fits kind.Number op (Numbers ns) = is_equality op
fits kind.Number op (NumberTests tests) = is_equality op
fits kind.Text op (Str t) = is_equality op
fits kind.Metadata op (Metadata key value) = is_equality op
fits _ _ _ = false

-- the sub name of the slot that is compared
abbrev pub sub_of : ValueForm → Option (List ℕ)
sub_of (Metadata key value) = Some key
sub_of _ = None

-- Whether a value is the variant with this name, under a key with these variants. The number of no variant is none.
abbrev pub is_word : List (List ℕ) → List ℕ → Datum → Bool
is_word names word (datum.Variant n) = option_map_or (bytes_eq word) (slice_get names n) false
is_word names word _ = false

-- whether a value is a number with this relation to another
abbrev pub is_number : Op → ℤ → Datum → Bool
is_number op n (datum.Number x) = relates op x n
is_number op n _ = false

abbrev pub is_text : List ℕ → Datum → Bool
is_text s (datum.Text t) = bytes_eq t s
is_text s _ = false

-- Whether a value meets some entry: the single one, or an item of the array.
abbrev pub meets : List (List ℕ) → Datum → ValueForm → Bool
meets names d (Number n) = is_number Equal n d
meets names d (Variant word) = is_word names word d
meets names d (Metadata key value) = is_text value d
meets names d (Str s) = is_text s d
meets names d (Numbers ns) = list_any (λ n. is_number Equal n d) ns
meets names d (Variants words) = list_any (λ word. is_word names word d) words
meets names d (NumberTests tests) = list_any (λ t. is_number t.op t.number d) tests

-- An order operator compares with a single number.
abbrev pub ordered : Op → Datum → ValueForm → Bool
ordered op d (Number n) = is_number op n d
ordered op d _ = false

abbrev pub compares : List (List ℕ) → Datum → Op → ValueForm → Bool
compares names d Equal value = meets names d value
compares names d NotEqual value = not (meets names d value)
compares names d op value = ordered op d value

-- A comparison is false where it doesn't fit its key, and where its slot isn't there.
abbrev pub holds_of : Comparison → Option Domain → Option Datum → Bool
holds_of c (Some domain) (Some d) = fits (kind_of domain) c.op c.value && compares (names_of domain) d c.op c.value
holds_of c _ _ = false

-- It is false where its left side is no key.
abbrev pub comparison_holds : Table → Entries → Comparison → Bool
comparison_holds table payment c = option_map_or (λ key. holds_of c (domain_at key table) (value_of (at key (sub_of c.value)) payment)) (find_key c.lhs table) false
