-- A comparison without a fault holds of a payment exactly where its atom does.
use Rattle.std.proofs.Common.{◌≡◌, ℕ, ℤ, List, [], ◌∷◌, map, Bool, true, false, not, ◌&&◌, ◌||◌, Option, Some, None, option_map, refl, ap, sym, ◌∙◌, rules}
use Rattle.std.specs.List.{list_any, list_all}
use Rattle.std.specs.Option.{option_map_or}
use Rattle.std.proofs.lemmas.Bool.{false≢true, and_parts}
use Rattle.key_table.specs.declared.atom.Op.{Op}
use Rattle.key_table.specs.declared.atom.Op.TheVariants.{Equal, NotEqual, Less, LessEqual, Greater, GreaterEqual}
use Rattle.key_table.specs.declared.atom.Test.TheVariants as test
use Rattle.key_table.specs.declared.atom.Atom.{Atom}
use Rattle.key_table.specs.declared.key.Kind.{Kind}
use Rattle.key_table.specs.declared.key.Kind.TheVariants as kind
use Rattle.key_table.specs.declared.slot.Datum.{Datum}
use Rattle.key_table.specs.declared.slot.Datum.TheVariants as datum
use Rattle.key_table.specs.Tables.{Table, Domain, kind_of, names_of, domain_at, variants_at, is_table}
use Rattle.key_table.specs.Slots.{at}
use Rattle.key_table.specs.Payments.{Entries, value_of}
use Rattle.key_table.specs.Atoms.{test_holds, passes}
use Rattle.key_table.specs.Options as options
use Rattle.euclid_ast.specs.declared.statement.NumberTest.{NumberTest}
use Rattle.euclid_ast.specs.declared.statement.ValueForm.{ValueForm}
use Rattle.euclid_ast.specs.declared.statement.ValueForm.TheVariants.{Number, Variant, Metadata, Str, Numbers, Variants, NumberTests}
use Rattle.euclid_ast.specs.declared.statement.Comparison.{Comparison}
use Rattle.euclid_ast.specs.Comparisons.{is_equality, fits, sub_of, is_word, is_number, is_text, meets, ordered, compares, holds_of, comparison_holds}
use Rattle.dir_typing.specs.Comparisons.{form_fits, operator_fits, words_in, is_variant}
use Rattle.dir_typing.specs.Numbered as numbered
use Rattle.vir_lowering.specs.Atoms.{tests_of, entry_test, is_none_of, atom_of}
use Rattle.vir_lowering.proofs.Faultless.{is_faultless, faultless}
use Rattle.vir_lowering.proofs.WordNumbers.{word_number}

or_false : (a : Bool) → a ≡ (a || false)
or_false true = refl
or_false false = refl

-- Form and operator, each on its own.
fits_both : (k : Kind) (op : Op) (value : ValueForm) → form_fits k value ≡ true → operator_fits op value ≡ true → fits k op value ≡ true
fits_both kind.Enum op (Variant word) form operator = operator
fits_both kind.Enum op (Variants words) form operator = operator
fits_both kind.Number op (Number n) form operator = refl
fits_both kind.Number op (Numbers ns) form operator = operator
fits_both kind.Number op (NumberTests tests) form operator = operator
fits_both kind.Text op (Str text) form operator = operator
fits_both kind.Metadata op (Metadata key value) form operator = operator
fits_both _ op _ form operator = form

word_test : (table : Table) (key : ℕ) (word : List ℕ) (d : Datum) → is_table table ≡ true → is_variant table key word ≡ true
    → is_word (variants_at key table) word d ≡ test_holds d (test.Variant (numbered.variant_number table key word))
word_test table key word (datum.Variant m) well there = word_number table key word m well there
word_test table key word (datum.Number x) well there = refl
word_test table key word (datum.Text t) well there = refl

words_test : (table : Table) (key : ℕ) (words : List (List ℕ)) (d : Datum) → is_table table ≡ true → list_all (is_variant table key) words ≡ true
    → list_any (λ word. is_word (variants_at key table) word d) words ≡ list_any (test_holds d) (map test.Variant (map (numbered.variant_number table key) words))
words_test table key [] d well there = refl
words_test table key (word ∷ words) d well there =
    ap (λ b. b || list_any (λ word. is_word (variants_at key table) word d) words) (word_test table key word d well (and_parts (is_variant table key word) _ there).0)
    ∙ ap (λ b. test_holds d (test.Variant (numbered.variant_number table key word)) || b) (words_test table key words d well (and_parts (is_variant table key word) _ there).1)

number_test : (op : Op) (n : ℤ) (d : Datum) → is_number op n d ≡ test_holds d (test.Number op n)
number_test op n (datum.Variant m) = refl
number_test op n (datum.Number x) = refl
number_test op n (datum.Text t) = refl

numbers_test : (ns : List ℤ) (d : Datum) → list_any (λ n. is_number Equal n d) ns ≡ list_any (test_holds d) (map (test.Number Equal) ns)
numbers_test [] d = refl
numbers_test (n ∷ ns) d = ap (λ b. b || list_any (λ n. is_number Equal n d) ns) (number_test Equal n d) ∙ ap (λ b. test_holds d (test.Number Equal n) || b) (numbers_test ns d)

entries_test : (ts : List NumberTest) (d : Datum) → list_any (λ (t : NumberTest). is_number t.op t.number d) ts ≡ list_any (test_holds d) (map entry_test ts)
entries_test [] d = refl
entries_test (t ∷ ts) d =
    ap (λ b. b || list_any (λ (t : NumberTest). is_number t.op t.number d) ts) (number_test t.op t.number d) ∙ ap (λ b. test_holds d (entry_test t) || b) (entries_test ts d)

text_test : (s : List ℕ) (d : Datum) → is_text s d ≡ test_holds d (test.Text s)
text_test s (datum.Variant m) = refl
text_test s (datum.Number x) = refl
text_test s (datum.Text t) = refl

-- A value meets some entry exactly where some test of `equal` is true of it.
meets_tests : (table : Table) (key : ℕ) (value : ValueForm) (d : Datum) → is_table table ≡ true → list_all (is_variant table key) (words_in value) ≡ true
    → meets (variants_at key table) d value ≡ list_any (test_holds d) (tests_of Equal (numbered.value_of table key value))
meets_tests table key (Number n) d well there = number_test Equal n d ∙ or_false (test_holds d (test.Number Equal n))
meets_tests table key (Variant word) d well there =
    word_test table key word d well (and_parts (is_variant table key word) true there).0 ∙ or_false (test_holds d (test.Variant (numbered.variant_number table key word)))
meets_tests table key (Metadata sub text) d well there = text_test text d ∙ or_false (test_holds d (test.Text text))
meets_tests table key (Str text) d well there = text_test text d ∙ or_false (test_holds d (test.Text text))
meets_tests table key (Numbers ns) d well there = numbers_test ns d
meets_tests table key (Variants words) d well there = words_test table key words d well there
meets_tests table key (NumberTests tests) d well there = entries_test tests d

-- An order operator fits a single number alone.
ordered_test : (table : Table) (key : ℕ) (op : Op) (value : ValueForm) (d : Datum) → is_equality op ≡ false → operator_fits op value ≡ true
    → ordered op d value ≡ list_any (test_holds d) (tests_of op (numbered.value_of table key value))
ordered_test table key Equal value d other fits = absurd (false≢true (sym other))
ordered_test table key NotEqual value d other fits = absurd (false≢true (sym other))
ordered_test table key Less (Number n) d other fits = number_test Less n d ∙ or_false (test_holds d (test.Number Less n))
ordered_test table key LessEqual (Number n) d other fits = number_test LessEqual n d ∙ or_false (test_holds d (test.Number LessEqual n))
ordered_test table key Greater (Number n) d other fits = number_test Greater n d ∙ or_false (test_holds d (test.Number Greater n))
ordered_test table key GreaterEqual (Number n) d other fits = number_test GreaterEqual n d ∙ or_false (test_holds d (test.Number GreaterEqual n))
ordered_test table key op (Variant word) d other fits = search (rules, sym other ∙ fits)
ordered_test table key op (Metadata sub text) d other fits = search (rules, sym other ∙ fits)
ordered_test table key op (Str text) d other fits = search (rules, sym other ∙ fits)
ordered_test table key op (Numbers ns) d other fits = search (rules, sym other ∙ fits)
ordered_test table key op (Variants words) d other fits = search (rules, sym other ∙ fits)
ordered_test table key op (NumberTests tests) d other fits = search (rules, sym other ∙ fits)

-- The tests of `not_equal` are those of `equal`.
same_tests : (table : Table) (key : ℕ) (value : ValueForm) → tests_of NotEqual (numbered.value_of table key value) ≡ tests_of Equal (numbered.value_of table key value)
same_tests table key (Number n) = refl
same_tests table key (Variant word) = refl
same_tests table key (Metadata sub text) = refl
same_tests table key (Str text) = refl
same_tests table key (Numbers ns) = refl
same_tests table key (Variants words) = refl
same_tests table key (NumberTests tests) = refl

abbrev made : Table → ℕ → Op → ValueForm → Atom
made table key op value = record { slot = at key (sub_of value); none_of = is_none_of op; tests = tests_of op (numbered.value_of table key value) }

compares_passes : (table : Table) (key : ℕ) (op : Op) (value : ValueForm) (d : Datum)
    → is_table table ≡ true → operator_fits op value ≡ true → list_all (is_variant table key) (words_in value) ≡ true
    → compares (variants_at key table) d op value ≡ passes (made table key op value) d
compares_passes table key Equal value d well fits there = meets_tests table key value d well there
compares_passes table key NotEqual value d well fits there =
    ap not (meets_tests table key value d well there ∙ ap (list_any (test_holds d)) (sym (same_tests table key value)))
compares_passes table key Less value d well fits there = ordered_test table key Less value d refl fits
compares_passes table key LessEqual value d well fits there = ordered_test table key LessEqual value d refl fits
compares_passes table key Greater value d well fits there = ordered_test table key Greater value d refl fits
compares_passes table key GreaterEqual value d well fits there = ordered_test table key GreaterEqual value d refl fits

-- at a slot, whatever stands there
holds_at : (c : Comparison) (domain : Option Domain) (d : Option Datum) (names : List (List ℕ)) (atom : Atom)
    → option_map_or (λ k. form_fits k c.value) (option_map kind_of domain) false ≡ true → operator_fits c.op c.value ≡ true → option_map_or names_of domain [] ≡ names
    → ((x : Datum) → compares names x c.op c.value ≡ passes atom x) → holds_of c domain d ≡ options.holds_of atom d
holds_at c None d names atom form operator named same = search (rules, form)
holds_at c (Some domain) None names atom form operator named same = refl
holds_at c (Some domain) (Some x) names atom form operator named same =
    ap (λ b. b && compares (names_of domain) x c.op c.value) (fits_both (kind_of domain) c.op c.value form operator)
    ∙ ap (λ ns. compares ns x c.op c.value) named ∙ same x

-- A comparison without a fault, by names, is its atom.
pub comparison_atom : (table : Table) (payment : Entries) (c : Comparison) → is_table table ≡ true → is_faultless table c ≡ true
    → comparison_holds table payment c ≡ options.holds_on (atom_of (numbered.comparison_of table c)) payment
comparison_atom table payment c well none =
    let is = faultless table c none in
    let key = numbered.key_number table c.lhs in
    ap (λ found. option_map_or (λ key. holds_of c (domain_at key table) (value_of (at key (sub_of c.value)) payment)) found false) is.key
    ∙ holds_at c (domain_at key table) (value_of (at key (sub_of c.value)) payment) (variants_at key table) (made table key c.op c.value)
    is.form is.operator refl (λ x. compares_passes table key c.op c.value x well is.operator is.words)
