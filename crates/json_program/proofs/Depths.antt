-- How deep the JSON of a program nests.
use Rattle.std.proofs.Common.{◌≡◌, ℕ, zero, suc, ◌+◌, ◌*◌, ◌≤◌, ℤ, pos, negsuc, List, [], ◌∷◌, Option, Some, None, Bool, true, leb, ◌&&◌, map, length, ap, sym, ◌∙◌, subst, arith}
use Rattle.std.specs.List.{list_all}
use Rattle.std.proofs.lemmas.Bool.{and_parts, false≢true}
use Rattle.serde_json.specs.Data.{Data, string, depth, items_depth}
use Rattle.serde_json.specs.View.{items_of}
use Rattle.serde_json.specs.Read as json
use Rattle.euclid_ast.specs.declared.selection.Account.{Account}
use Rattle.euclid_ast.specs.declared.selection.Share.{Share}
use Rattle.euclid_ast.specs.declared.selection.Selection.{Selection}
use Rattle.euclid_ast.specs.declared.selection.Selection.TheVariants as selection
use Rattle.euclid_ast.specs.declared.statement.NumberTest.{NumberTest}
use Rattle.euclid_ast.specs.declared.statement.ValueForm.{ValueForm}
use Rattle.euclid_ast.specs.declared.statement.ValueForm.TheVariants.{Number, Variant, Metadata, Str, Numbers, Variants, NumberTests}
use Rattle.euclid_ast.specs.declared.statement.Comparison.{Comparison}
use Rattle.euclid_ast.specs.declared.statement.Statement.{Statement}
use Rattle.euclid_ast.specs.declared.statement.Statement.TheViews.{roll-Statement}
use Rattle.euclid_ast.specs.declared.statement.Statement.TheFolds.{fold-roll-Statement, ind-Statement, map-Statement}
use Rattle.euclid_ast.specs.declared.program.Rule.{Rule}
use Rattle.euclid_ast.specs.declared.program.Program.{Program}
use Rattle.euclid_ast.specs.Limits.{is_short, is_selection, is_comparison}
use Rattle.json_program.specs.Parts.{is_statement, is_rule, is_program}
use Rattle.json_program.proofs.Parts.{layer, is_statement-roll, is_statement-zero}
use Rattle.json_program.specs.Written.{number_data, test_data, value_data, comparison_data, statement_step, statement_data, id_data, account_data, share_data, selection_data, rule_data, program_data}

list_depth : {X : Type 0} (write : X → Data) (fits : X → Bool) (n : ℕ) → ((x : X) → fits x ≡ true → depth (write x) ≤ n) → (xs : List X) → list_all fits xs ≡ true → items_depth (items_of (map write xs)) ≤ n
list_depth write fits n each [] h = omega arith
list_depth write fits n each (x ∷ xs) h =
    let parts = and_parts (fits x) (list_all fits xs) h in
    omega (arith, each x parts.0, list_depth write fits n each xs parts.1)

flat_list : {X : Type 0} (write : X → Data) (n : ℕ) → ((x : X) → depth (write x) ≤ n) → (xs : List X) → items_depth (items_of (map write xs)) ≤ n
flat_list write n each [] = omega arith
flat_list write n each (x ∷ xs) = omega (arith, each x, flat_list write n each xs)

number_depth : (z : ℤ) → depth (number_data z) ≤ 0
number_depth (pos n) = omega arith
number_depth (negsuc n) = omega arith

test_depth : (t : NumberTest) → depth (test_data t) ≤ 1
test_depth t = omega (arith, number_depth t.number)

value_depth : (v : ValueForm) → depth (value_data v) ≤ 3
value_depth (Number z) = omega (arith, number_depth z)
value_depth (Variant name) = omega arith
value_depth (Metadata key text) = omega arith
value_depth (Str text) = omega arith
value_depth (Numbers zs) = omega (arith, flat_list number_data 0 number_depth zs)
value_depth (Variants names) = omega (arith, flat_list string 0 (λ t. omega arith) names)
value_depth (NumberTests tests) = omega (arith, flat_list test_data 1 test_depth tests)

comparison_depth : (c : Comparison) → depth (comparison_data c) ≤ 4
comparison_depth c = omega (arith, value_depth c.value)

abbrev IsShallow : Statement → Type 0
IsShallow s = (levels : ℕ) → is_statement levels s ≡ true → depth (statement_data s) ≤ 2 * levels + 4

abbrev Kept : Type 0
Kept = (s : Statement) × IsShallow s

abbrev bare : List Kept → List Statement
bare ss = map (λ e. e.0) ss

kept_depth : (levels : ℕ) (ss : List Kept) → list_all (is_statement levels) (bare ss) ≡ true → items_depth (items_of (map statement_data (bare ss))) ≤ 2 * levels + 4
kept_depth levels [] h = omega arith
kept_depth levels (e ∷ ss) h =
    let parts = and_parts (is_statement levels e.0) (list_all (is_statement levels) (bare ss)) h in
    omega (arith, e.1 levels parts.0, kept_depth levels ss parts.1)

shallow_alone : (cs : List Comparison) → IsShallow (roll-Statement (layer cs None))
shallow_alone cs zero fits = absurd (false≢true (sym (is_statement-zero (roll-Statement (layer cs None))) ∙ fits))
shallow_alone cs (suc levels) fits =
    let e = ap depth (fold-roll-Statement Data statement_step (layer cs None)) in
    omega (arith, e, flat_list comparison_data 4 comparison_depth cs)

shallow_nested : (cs : List Comparison) (ss : List Kept) → IsShallow (roll-Statement (layer cs (Some (bare ss))))
shallow_nested cs ss zero fits = absurd (false≢true (sym (is_statement-zero (roll-Statement (layer cs (Some (bare ss))))) ∙ fits))
shallow_nested cs ss (suc levels) fits =
    let fit = sym (is_statement-roll levels cs (Some (bare ss))) ∙ fits in
    let parts = and_parts (list_all is_comparison cs) (list_all (is_statement levels) (bare ss)) fit in
    let e = ap depth (fold-roll-Statement Data statement_step (layer cs (Some (bare ss)))) in
    omega (arith, e, flat_list comparison_data 4 comparison_depth cs, kept_depth levels ss parts.1)

shallow_roll : (cs : List Comparison) (nested : Option (List Kept)) → IsShallow (roll-Statement (map-Statement Kept Statement (λ e. e.0) (record { condition = cs; nested = nested })))
shallow_roll cs None = shallow_alone cs
shallow_roll cs (Some ss) = shallow_nested cs ss

statement_depth : (s : Statement) → IsShallow s
statement_depth = ind-Statement IsShallow (λ x y is. subst (λ z. IsShallow (roll-Statement z)) is (shallow_roll y.condition y.nested))

id_depth : (id : Option (List ℕ)) → depth (id_data id) ≤ 0
id_depth None = omega arith
id_depth (Some id) = omega arith

account_depth : (a : Account) → depth (account_data a) ≤ 1
account_depth a = omega (arith, id_depth a.id)

share_depth : (s : Share) → depth (share_data s) ≤ 2
share_depth s = omega (arith, account_depth s.account)

selection_depth : (s : Selection) → depth (selection_data s) ≤ 4
selection_depth (selection.Priority accounts) = omega (arith, flat_list account_data 1 account_depth accounts)
selection_depth (selection.Volume shares) = omega (arith, flat_list share_data 2 share_depth shares)
selection_depth (selection.SurchargeFixed amount) = omega (arith, number_depth amount)
selection_depth (selection.SurchargeRate points) = omega arith
selection_depth (selection.Auth decision) = omega arith
selection_depth selection.Nothing = omega arith

rule_depth : (r : Rule) → is_rule 32 r ≡ true → depth (rule_data r) ≤ 72
rule_depth r fits =
    let one = and_parts (is_short r.name) (is_selection r.selection && list_all (is_statement 32) r.statements) fits in
    let two = and_parts (is_selection r.selection) (list_all (is_statement 32) r.statements) one.1 in
    omega (arith, selection_depth r.selection, list_depth statement_data (is_statement 32) 68 (λ s fit. statement_depth s 32 fit) r.statements two.1)

pub program_depth : (p : Program) → is_program 32 p ≡ true → depth (program_data p) ≤ json.max_depth
program_depth p fits =
    let one = and_parts (is_selection p.default_selection) (leb (length p.rules) 256 && list_all (is_rule 32) p.rules) fits in
    let two = and_parts (leb (length p.rules) 256) (list_all (is_rule 32) p.rules) one.1 in
    omega (arith, selection_depth p.default_selection, list_depth rule_data (is_rule 32) 72 rule_depth p.rules two.1)
