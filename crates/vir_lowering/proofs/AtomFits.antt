-- The atom of a comparison without a fault fits the table.
use Rattle.std.proofs.Common.{◌≡◌, ℕ, List, [], ◌∷◌, length, map, nat_le, nat_lt, Bool, true, false, ◌&&◌, Option, Some, None, option_map, refl, ap, ◌∙◌}
use Rattle.std.specs.List.{list_all}
use Rattle.std.specs.Option.{option_map_or}
use Rattle.std.proofs.lemmas.Bool.{false≢true, and_from, and_parts}
use Rattle.std.proofs.lemmas.List.{length-map}
use Rattle.key_table.specs.declared.atom.Op.{Op}
use Rattle.key_table.specs.declared.atom.Test.TheVariants as test
use Rattle.key_table.specs.Tables.{Table, Domain, variants, bounds, text, metadata, kind_of, names_of, domain_at, variants_at, has_sub}
use Rattle.key_table.specs.Atoms.{test_fits, atom_fits}
use Rattle.euclid_ast.specs.declared.statement.ValueForm.{ValueForm}
use Rattle.euclid_ast.specs.declared.statement.ValueForm.TheVariants.{Number, Variant, Metadata, Str, Numbers, Variants, NumberTests}
use Rattle.euclid_ast.specs.declared.statement.Comparison.{Comparison}
use Rattle.euclid_ast.specs.Comparisons.{sub_of}
use Rattle.euclid_ast.specs.Limits.{is_short, is_few, is_value, is_comparison}
use Rattle.dir_typing.specs.Comparisons.{form_fits, words_in, is_variant}
use Rattle.dir_typing.specs.Numbered as numbered
use Rattle.vir_lowering.specs.Atoms.{tests_of, entry_test, atom_of}
use Rattle.vir_lowering.proofs.Faultless.{is_faultless, faultless}
use Rattle.vir_lowering.proofs.WordNumbers.{variant_within}

few_map : {X Y : Type 0} (f : X → Y) (xs : List X) → is_few xs ≡ true → is_few (map f xs) ≡ true
few_map f xs few = ap (λ n. nat_le n 4096) (length-map xs f) ∙ few

all_map : {X Y : Type 0} (p : Y → Bool) (f : X → Y) → ((x : X) → p (f x) ≡ true) → (xs : List X) → list_all p (map f xs) ≡ true
all_map p f each [] = refl
all_map p f each (x ∷ xs) = and_from _ _ (each x) (all_map p f each xs)

words_fit : (table : Table) (key : ℕ) (words : List (List ℕ)) → list_all (is_variant table key) words ≡ true
    → list_all (test_fits (variants (variants_at key table))) (map test.Variant (map (numbered.variant_number table key) words)) ≡ true
words_fit table key [] known = refl
words_fit table key (word ∷ words) known =
    let parts = and_parts (is_variant table key word) _ known in
    and_from _ _ (variant_within table key word parts.0) (words_fit table key words parts.1)

-- whether the slot and the tests of a value fit the domain of its key
abbrev fitting : Table → ℕ → Op → ValueForm → Domain → Bool
fitting table key op value domain =
    has_sub domain (sub_of value) && (is_few (tests_of op (numbered.value_of table key value)) && list_all (test_fits domain) (tests_of op (numbered.value_of table key value)))

value_fits : (table : Table) (key : ℕ) (op : Op) (value : ValueForm) (domain : Domain) → names_of domain ≡ variants_at key table → form_fits (kind_of domain) value ≡ true
    → list_all (is_variant table key) (words_in value) ≡ true → is_value value ≡ true → fitting table key op value domain ≡ true
value_fits table key op (Variant word) (variants names) named form known short =
    ap (λ ns. nat_lt (numbered.variant_number table key word) (length ns) && true) named ∙ and_from _ true (variant_within table key word (and_parts (is_variant table key word) true known).0) refl
value_fits table key op (Variants words) (variants names) named form known short =
    and_from _ _ (few_map test.Variant (map (numbered.variant_number table key) words) (few_map (numbered.variant_number table key) words (and_parts (is_few words) _ short).0))
    (ap (λ ns. list_all (test_fits (variants ns)) (map test.Variant (map (numbered.variant_number table key) words))) named ∙ words_fit table key words known)
value_fits table key op (Number n) (bounds least greatest) named form known short = refl
value_fits table key op (Numbers ns) (bounds least greatest) named form known short =
    and_from _ _ (few_map _ ns (and_parts (is_few ns) _ short).0) (all_map (test_fits (bounds least greatest)) _ (λ n. refl) ns)
value_fits table key op (NumberTests ts) (bounds least greatest) named form known short =
    and_from _ _ (few_map entry_test ts (and_parts (is_few ts) _ short).0) (all_map (test_fits (bounds least greatest)) entry_test (λ t. refl) ts)
value_fits table key op (Str t) text named form known short = and_from _ true short refl
value_fits table key op (Metadata sub t) metadata named form known short =
    let parts = and_parts (is_short sub) (is_short t) short in
    and_from _ _ parts.0 (and_from _ true parts.1 refl)
value_fits table key op _ _ named form known short = absurd (false≢true form)

fits_at : (table : Table) (key : ℕ) (op : Op) (value : ValueForm) (domain : Option Domain) → option_map_or names_of domain [] ≡ variants_at key table
    → option_map_or (λ k. form_fits k value) (option_map kind_of domain) false ≡ true → list_all (is_variant table key) (words_in value) ≡ true → is_value value ≡ true
    → option_map_or (fitting table key op value) domain false ≡ true
fits_at table key op value None named form known short = absurd (false≢true form)
fits_at table key op value (Some domain) named form known short = value_fits table key op value domain named form known short

abbrev pub fits : Table → Comparison → Bool
fits table c = atom_fits table (atom_of (numbered.comparison_of table c))

-- The atom of a comparison without a fault fits, within the limits.
pub comparison_fits : (table : Table) (c : Comparison) → is_faultless table c ≡ true → is_comparison c ≡ true → fits table c ≡ true
comparison_fits table c none short =
    let is = faultless table c none in
    let key = numbered.key_number table c.lhs in
    fits_at table key c.op c.value (domain_at key table) refl is.form is.words (and_parts (is_short c.lhs) (is_value c.value) short).1
