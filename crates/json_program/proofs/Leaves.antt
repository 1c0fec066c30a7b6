-- What is written for a comparison reads back.
use Rattle.std.proofs.Common.{◌≡◌, ℕ, ◌+◌, ◌≤◌, ℤ, pos, negsuc, List, [], ◌∷◌, map, length, Bool, true, leb, ◌&&◌, Ok, Err, refl, ap}
use Rattle.std.specs.List.{list_all, AllByRecursion}
use Rattle.std.proofs.lemmas.Bool.{cond-true, le-leb, leb-true, and_parts}
use Rattle.std.proofs.lemmas.List.{length-map}
use Rattle.std.specs.Prelude.{codes}
use Rattle.serde_json.specs.Data.{Data, string}
use Rattle.serde_json.specs.View.{items_of}
use Rattle.key_table.specs.declared.atom.Op.{Op}
use Rattle.key_table.specs.declared.atom.Op.TheVariants.{Equal, NotEqual, Less, LessEqual, Greater, GreaterEqual}
use Rattle.euclid_ast.specs.declared.statement.NumberTest.{NumberTest}
use Rattle.euclid_ast.specs.declared.statement.ValueForm.{ValueForm}
use Rattle.euclid_ast.specs.declared.statement.ValueForm.TheVariants.{Number, Variant, Metadata, Str, Numbers, Variants, NumberTests}
use Rattle.euclid_ast.specs.declared.statement.Comparison.{Comparison}
use Rattle.json_shape.specs.Paths.{fault, item_step, name_step}
use Rattle.json_shape.specs.Shapes.{listed, list_of, whole_of}
use Rattle.json_shape.specs.Fields.{items}
use Rattle.json_shape.specs.Each.{Reader, each}
use Rattle.json_program.specs.Texts.{text_of}
use Rattle.json_program.specs.Comparisons.{operator_of, test_of, value_of, fields_of}
use Rattle.key_table.specs.Integers.{is_signed}
use Rattle.euclid_ast.specs.Limits.{is_short, is_test, is_value, is_comparison}
use Rattle.json_program.proofs.Tests.{all_from}
use Rattle.json_program.specs.Written.{list_data, number_data, operator_text, test_data, value_data, comparison_data}

-- What was written of a value reads back, at every path.
abbrev pub ReadsBack : {X : Type 0} → Reader X → (X → Data) → X → Type 0
ReadsBack read write x = (path : List ℕ) → read path (write x) ≡ Ok x

listed-items_of : (ds : List Data) → listed (items_of ds) ≡ ds
listed-items_of [] = refl
listed-items_of (d ∷ ds) = ap (λ l. d ∷ l) (listed-items_of ds)

pub list_reads : (path : List ℕ) (most : ℕ) (ds : List Data) → length ds ≤ most → list_of path most (list_data ds) ≡ Ok ds
list_reads path most ds few = rw (listed-items_of ds) (cond-true (leb (length ds) most) (Ok ds) (Err (fault 5 path)) (le-leb _ _ few))

each_reads : {X : Type 0} (read : Reader X) (write : X → Data) (xs : List X) → AllByRecursion (ReadsBack read write) xs → (path : List ℕ) (i : ℕ) → each read path i (map write xs) ≡ Ok xs
unfolding each
each_reads read write [] all path i = refl
each_reads read write (x ∷ xs) all path i = rw (all.0 (item_step path i), each_reads read write xs all.1 path (i + 1))

-- a list of at most 4,096 items that each read back
pub items_read : {X : Type 0} (read : Reader X) (write : X → Data) (fits : X → Bool) → ((x : X) → fits x ≡ true → ReadsBack read write x) → (xs : List X) → (leb (length xs) 4096 && list_all fits xs) ≡ true
    → (path : List ℕ) → items 4096 read path (list_data (map write xs)) ≡ Ok xs
items_read read write fits one xs h path =
    let parts = and_parts (leb (length xs) 4096) (list_all fits xs) h in
    let few : length (map write xs) ≤ 4096 = rw (length-map) (leb-true _ _ parts.0) in
    rw (list_reads path 4096 (map write xs) few) (each_reads read write xs (all_from fits (ReadsBack read write) one xs parts.1) path 0)

pub text_reads : (t : List ℕ) → is_short t ≡ true → ReadsBack text_of string t
text_reads t short path = cond-true _ (Ok t) (Err (fault 5 path)) short

whole_reads : (z : ℤ) → is_signed z ≡ true → ReadsBack whole_of number_data z
whole_reads (pos n) fits path = rw fits
whole_reads (negsuc n) fits path = refl

operator_reads : (op : Op) → ReadsBack operator_of (λ o. string (operator_text o)) op
operator_reads Equal path = refl
operator_reads NotEqual path = refl
operator_reads Less path = refl
operator_reads LessEqual path = refl
operator_reads Greater path = refl
operator_reads GreaterEqual path = refl

test_reads : (t : NumberTest) → is_test t ≡ true → ReadsBack test_of test_data t
unfolding test_of
test_reads t fits path = rw (operator_reads t.op (name_step path (codes "comparisonType")), whole_reads t.number fits (name_step path (codes "number")))

value_reads : (v : ValueForm) → is_value v ≡ true → ReadsBack value_of value_data v
unfolding value_of
value_reads (Number z) fits path = rw (whole_reads z fits (name_step path (codes "value")))
value_reads (Variant name) fits path = rw (text_reads name fits (name_step path (codes "value")))
value_reads (Metadata key text) fits path =
    let parts = and_parts (is_short key) (is_short text) fits in
    let at = name_step path (codes "value") in
    rw (text_reads key parts.0 (name_step at (codes "key")), text_reads text parts.1 (name_step at (codes "value")))
value_reads (Str text) fits path = rw (text_reads text fits (name_step path (codes "value")))
value_reads (Numbers zs) fits path = rw (items_read whole_of number_data is_signed whole_reads zs fits (name_step path (codes "value")))
value_reads (Variants names) fits path = rw (items_read text_of string is_short text_reads names fits (name_step path (codes "value")))
value_reads (NumberTests tests) fits path = rw (items_read test_of test_data is_test test_reads tests fits (name_step path (codes "value")))

pub fields_read : (c : Comparison) → is_comparison c ≡ true → ReadsBack fields_of comparison_data c
unfolding fields_of
fields_read c fits path =
    let parts = and_parts (is_short c.lhs) (is_value c.value) fits in
    rw (text_reads c.lhs parts.0 (name_step path (codes "lhs")), operator_reads c.op (name_step path (codes "comparison")), value_reads c.value parts.1 (name_step path (codes "value")))
