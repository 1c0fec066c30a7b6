-- A program's JSON has no number with a fraction.
use Rattle.std.proofs.Common.{◌≡◌, ℤ, pos, negsuc, List, [], ◌∷◌, Option, Some, None, false, map, refl, ap, ◌∙◌, subst}
use Rattle.serde_json.specs.Data.{Data, string}
use Rattle.serde_json.specs.View.{items_of}
use Rattle.serde_json.specs.Written.{has_float, items_have_float}
use Rattle.euclid_ast.specs.declared.selection.Account.{Account}
use Rattle.euclid_ast.specs.declared.selection.Share.{Share}
use Rattle.euclid_ast.specs.declared.selection.Selection.{Selection}
use Rattle.euclid_ast.specs.declared.selection.Selection.TheVariants as selection
use Rattle.euclid_ast.specs.declared.statement.NumberTest.{NumberTest}
use Rattle.euclid_ast.specs.declared.statement.ValueForm.{ValueForm}
use Rattle.euclid_ast.specs.declared.statement.ValueForm.TheVariants.{Number, Variant, Metadata, Str, Numbers, Variants, NumberTests}
use Rattle.euclid_ast.specs.declared.statement.Comparison.{Comparison}
use Rattle.euclid_ast.specs.declared.statement.Statement.{Statement}
use Rattle.euclid_ast.specs.declared.statement.Statement.TheViews.{roll-Statement}
use Rattle.euclid_ast.specs.declared.statement.Statement.TheFolds.{fold-roll-Statement, ind-Statement, map-Statement}
use Rattle.euclid_ast.specs.declared.program.Rule.{Rule}
use Rattle.euclid_ast.specs.declared.program.Program.{Program}
use Rattle.json_program.specs.Written.{number_data, test_data, value_data, comparison_data, statement_step, statement_data, id_data, account_data, share_data, selection_data, rule_data, program_data}

abbrev IsWhole : Data → Type 0
IsWhole d = has_float d ≡ false

list_whole : {X : Type 0} (write : X → Data) → ((x : X) → IsWhole (write x)) → (xs : List X) → items_have_float (items_of (map write xs)) ≡ false
list_whole write each [] = refl
list_whole write each (x ∷ xs) = rw (each x, list_whole write each xs)

number_whole : (z : ℤ) → IsWhole (number_data z)
number_whole (pos n) = refl
number_whole (negsuc n) = refl

test_whole : (t : NumberTest) → IsWhole (test_data t)
test_whole t = rw (number_whole t.number)

value_whole : (v : ValueForm) → IsWhole (value_data v)
value_whole (Number z) = rw (number_whole z)
value_whole (Variant name) = refl
value_whole (Metadata key text) = refl
value_whole (Str text) = refl
value_whole (Numbers zs) = rw (list_whole number_data number_whole zs)
value_whole (Variants names) = rw (list_whole string (λ t. refl) names)
value_whole (NumberTests tests) = rw (list_whole test_data test_whole tests)

comparison_whole : (c : Comparison) → IsWhole (comparison_data c)
comparison_whole c = rw (value_whole c.value)

abbrev StatementWhole : Statement → Type 0
StatementWhole s = IsWhole (statement_data s)

abbrev Kept : Type 0
Kept = (s : Statement) × StatementWhole s

kept_whole : (ss : List Kept) → items_have_float (items_of (map statement_data (map (λ e. e.0) ss))) ≡ false
kept_whole [] = refl
kept_whole (e ∷ ss) = rw (e.1, kept_whole ss)

whole_roll : (cs : List Comparison) (nested : Option (List Kept)) → StatementWhole (roll-Statement (map-Statement Kept Statement (λ e. e.0) (record { condition = cs; nested = nested })))
whole_roll cs None = ap has_float (fold-roll-Statement Data statement_step (record { condition = cs; nested = None })) ∙ rw (list_whole comparison_data comparison_whole cs) refl
whole_roll cs (Some ss) = ap has_float (fold-roll-Statement Data statement_step (record { condition = cs; nested = Some (map (λ e. e.0) ss) })) ∙ rw (list_whole comparison_data comparison_whole cs, kept_whole ss) refl

statement_whole : (s : Statement) → StatementWhole s
statement_whole = ind-Statement StatementWhole (λ x y is. subst (λ z. StatementWhole (roll-Statement z)) is (whole_roll y.condition y.nested))

id_whole : (id : Option (List _)) → IsWhole (id_data id)
id_whole None = refl
id_whole (Some id) = refl

account_whole : (a : Account) → IsWhole (account_data a)
account_whole a = rw (id_whole a.id)

share_whole : (s : Share) → IsWhole (share_data s)
share_whole s = rw (account_whole s.account)

fixed_whole : (z : ℤ) → IsWhole (selection_data (selection.SurchargeFixed z))
fixed_whole (pos n) = refl
fixed_whole (negsuc n) = refl

pub selection_whole : (s : Selection) → IsWhole (selection_data s)
selection_whole (selection.Priority accounts) = rw (list_whole account_data account_whole accounts)
selection_whole (selection.Volume shares) = rw (list_whole share_data share_whole shares)
selection_whole (selection.SurchargeFixed amount) = fixed_whole amount
selection_whole (selection.SurchargeRate points) = refl
selection_whole (selection.Auth decision) = refl
selection_whole selection.Nothing = refl

rule_whole : (r : Rule) → IsWhole (rule_data r)
rule_whole r = rw (selection_whole r.selection, list_whole statement_data statement_whole r.statements)

pub program_whole : (p : Program) → IsWhole (program_data p)
program_whole p = rw (selection_whole p.default_selection, list_whole rule_data rule_whole p.rules)
