-- Each comparison of a typed program is without a fault, and what that says of its key, its form, its operator and its words.
use Rattle.std.proofs.Common.{◌≡◌, ℕ, ◌+◌, List, [], ◌∷◌, ◌++◌, Bool, true, false, not, is_none, Option, Some, None, refl, sym, ◌∙◌, rules}
use Rattle.std.specs.List.{list_all, flat_map}
use Rattle.std.specs.Option.{option_map_or, unwrap_or}
use Rattle.std.proofs.lemmas.Bool.{true≢false, false≢true, and_from, and_parts}
use Rattle.std.proofs.lemmas.List.Folds.{list_all-append}
use Rattle.key_table.specs.Tables.{Table, find_key, kind_at}
use Rattle.euclid_ast.specs.declared.statement.Comparison.{Comparison}
use Rattle.euclid_ast.specs.declared.program.Rule.{Rule}
use Rattle.euclid_ast.specs.Limits.{comparisons_in, all_comparisons}
use Rattle.dir_typing.specs.declared.fault.Place.{Place}
use Rattle.dir_typing.specs.declared.selection.Family.{Family}
use Rattle.dir_typing.specs.Comparisons.{first_code, form_fits, operator_fits, words_in, is_variant, comparison_code}
use Rattle.dir_typing.specs.Selections.{outputs_of, first_family}
use Rattle.dir_typing.specs.Faults.{fault_at, numbered, comparison_faults, rule_faults, default_faults}
use Rattle.dir_typing.specs.Numbered.{key_number}
use Rattle.dir_typing.specs.Typed.{Typed, IsTyped}

pub all_parts : {X : Type 0} (p : X → Bool) (xs ys : List X) → list_all p (xs ++ ys) ≡ true → (list_all p xs ≡ true) × (list_all p ys ≡ true)
all_parts p xs ys all = and_parts (list_all p xs) (list_all p ys) (sym (list_all-append p xs ys) ∙ all)

pub all_both : {X : Type 0} (p : X → Bool) (xs ys : List X) → list_all p xs ≡ true → list_all p ys ≡ true → list_all p (xs ++ ys) ≡ true
all_both p xs ys first second = list_all-append p xs ys ∙ and_from _ _ first second

abbrev pub is_faultless : Table → Comparison → Bool
is_faultless table c = is_none (comparison_code table c)

no_faults : {X : Type 0} (xs ys : List X) → xs ++ ys ≡ [] → (xs ≡ []) × (ys ≡ [])
no_faults [] ys none = (refl, none)
no_faults (x ∷ xs) ys none = search (rules, none)

no_fault : (rule : Option ℕ) (place : Place) (code : Option ℕ) → fault_at rule place code ≡ [] → is_none code ≡ true
no_fault rule place None none = refl
no_fault rule place (Some code) none = search (rules, none)

comparisons_typed : (table : Table) (rule n : ℕ) (cs : List Comparison) → numbered (comparison_faults table rule) n cs ≡ [] → list_all (is_faultless table) cs ≡ true
unfolding numbered
comparisons_typed table rule n [] none = refl
comparisons_typed table rule n (c ∷ cs) none =
    let parts = no_faults (comparison_faults table rule n c) _ none in
    and_from _ _ (no_fault _ _ (comparison_code table c) parts.0) (comparisons_typed table rule (n + 1) cs parts.1)

rules_typed : (table : Table) (first : Option Family) (n : ℕ) (rs : List Rule) → numbered (rule_faults table first) n rs ≡ []
    → list_all (is_faultless table) (flat_map (λ (rule : Rule). comparisons_in rule.statements) rs) ≡ true
unfolding numbered
rules_typed table first n [] none = refl
rules_typed table first n (r ∷ rs) none =
    let parts = no_faults (rule_faults table first n r) _ none in
    all_both (is_faultless table) (comparisons_in r.statements) _ (comparisons_typed table n 0 (comparisons_in r.statements) (no_faults _ _ parts.0).1) (rules_typed table first (n + 1) rs parts.1)

pub all_typed : (p : Typed) → IsTyped p → list_all (is_faultless p.table) (all_comparisons p.source) ≡ true
all_typed p is =
    let first = first_family (outputs_of p.source) in
    rules_typed p.table first 0 p.source.rules (no_faults (default_faults first p.source.default_selection) _ is.well_typed).1

-- What has to hold for a comparison to have no fault.
pub record IsFaultless (table : Table) (c : Comparison) : Type 0 where
  pub key : find_key c.lhs table ≡ Some (key_number table c.lhs)
  pub form : option_map_or (λ k. form_fits k c.value) (kind_at (key_number table c.lhs) table) false ≡ true
  pub operator : operator_fits c.op c.value ≡ true
  pub words : list_all (is_variant table (key_number table c.lhs)) (words_in c.value) ≡ true

no_code : (a b c d : Bool) → is_none (first_code ((1, a) ∷ (2, not b) ∷ (3, not c) ∷ (4, not d) ∷ [])) ≡ true → (a ≡ false) × (b ≡ true) × (c ≡ true) × (d ≡ true)
no_code false true true true none = (refl, refl, refl, refl)
no_code true b c d none = absurd (false≢true none)
no_code false false c d none = absurd (false≢true none)
no_code false true false d none = absurd (false≢true none)
no_code false true true false none = absurd (false≢true none)

there : (o : Option ℕ) (n : ℕ) → is_none o ≡ false → o ≡ Some (unwrap_or o n)
there None n some = absurd (true≢false some)
there (Some m) n some = refl

pub faultless : (table : Table) (c : Comparison) → is_faultless table c ≡ true → IsFaultless table c
faultless table c none =
    let parts = no_code (is_none (find_key c.lhs table)) (option_map_or (λ k. form_fits k c.value) (kind_at (key_number table c.lhs) table) false) (operator_fits c.op c.value)
    (list_all (is_variant table (key_number table c.lhs)) (words_in c.value)) none in
    record { key = there (find_key c.lhs table) _ parts.0; form = parts.1; operator = parts.2; words = parts.3 }
