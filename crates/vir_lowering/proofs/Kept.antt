-- A typed program and its valued one decide alike.
use Rattle.std.proofs.Common.{◌≡◌, ℕ, ◌+◌, List, [], ◌∷◌, map, Bool, true, not, ◌&&◌, ◌||◌, cond, nat_lt, Option, Some, None, refl, ap, sym, ◌∙◌, subst}
use Rattle.std.specs.List.{list_any, list_all, flat_map, position_or_len}
use Rattle.std.proofs.lemmas.Bool.{and_parts}
use Rattle.std.proofs.lemmas.List.{length-map}
use Rattle.key_table.specs.Tables.{Table, is_table}
use Rattle.key_table.specs.Payments.{Entries}
use Rattle.key_table.specs.Options.{holds_on}
use Rattle.euclid_ast.specs.declared.statement.Comparison.{Comparison}
use Rattle.euclid_ast.specs.declared.statement.Statement.{Statement}
use Rattle.euclid_ast.specs.declared.statement.Statement.TheOpen.{Statement-F}
use Rattle.euclid_ast.specs.declared.statement.Statement.TheViews.{roll-Statement}
use Rattle.euclid_ast.specs.declared.statement.Statement.TheFolds.{fold-roll-Statement, ind-Statement, map-Statement}
use Rattle.euclid_ast.specs.declared.program.Rule.{Rule}
use Rattle.euclid_ast.specs.Comparisons.{comparison_holds}
use Rattle.euclid_ast.specs.Limits.{comparisons_step, comparisons_of, comparisons_in}
use Rattle.euclid_ast.specs.Meaning as source
use Rattle.dir_typing.specs.Numbered.{rule_of}
use Rattle.dir_typing.specs.Typed.{Typed, IsTyped}
use Rattle.vir_lowering.specs.declared.vir.VirStatement.TheFolds.{fold-roll-VirStatement}
use Rattle.vir_lowering.specs.Grouped.{grouped}
use Rattle.vir_lowering.specs.Valued.{valued_rule}
use Rattle.vir_lowering.specs.Decisions.{condition_holds, holds_step, statement_holds, rule_matches, IsKept}
use Rattle.vir_lowering.proofs.Parts.{valued, valued_all, valued_roll, atoms_of_comparisons}
use Rattle.vir_lowering.proofs.Faultless.{all_parts, is_faultless, all_typed}
use Rattle.vir_lowering.proofs.AtomHolds.{comparison_atom}
use Rattle.vir_lowering.proofs.GroupedAtoms.{grouped_all}

module _ (table : Table) (payment : Entries) (well : is_table table ≡ true) where
  abbrev are_faultless : List Comparison → Type 0
  are_faultless cs = list_all (is_faultless table) cs ≡ true

  atoms_agree : (cs : List Comparison) → are_faultless cs → condition_holds payment (atoms_of_comparisons table cs) ≡ list_all (comparison_holds table payment) cs
  atoms_agree [] none = refl
  atoms_agree (c ∷ cs) none =
      let parts = and_parts (is_faultless table c) _ none in
      ap (λ b. b && condition_holds payment (atoms_of_comparisons table cs)) (sym (comparison_atom table payment c well parts.0))
      ∙ ap (λ b. comparison_holds table payment c && b) (atoms_agree cs parts.1)

  -- A condition holds where its atoms do, by their slots.
  condition_agrees : (cs : List Comparison) → are_faultless cs → condition_holds payment (grouped (atoms_of_comparisons table cs)) ≡ list_all (comparison_holds table payment) cs
  condition_agrees cs none = grouped_all (λ atom. holds_on atom payment) (atoms_of_comparisons table cs) ∙ atoms_agree cs none

  abbrev Agrees : Statement → Type 0
  Agrees s = are_faultless (comparisons_of s) → statement_holds payment (valued table s) ≡ source.statement_holds table payment s

  abbrev Agreeing : Type 0
  Agreeing = (s : Statement) × Agrees s

  abbrev statements : List Agreeing → List Statement
  statements ss = map (λ e. e.0) ss

  nested_agree : (ss : List Agreeing) → are_faultless (flat_map (λ cs. cs) (map comparisons_of (statements ss)))
      → list_any (λ b. b) (map (statement_holds payment) (valued_all table (statements ss))) ≡ list_any (λ b. b) (map (source.statement_holds table payment) (statements ss))
  nested_agree [] none = refl
  nested_agree (e ∷ ss) none =
      let parts = all_parts (is_faultless table) (comparisons_of e.0) _ none in
      ap (λ b. b || list_any (λ b. b) (map (statement_holds payment) (valued_all table (statements ss)))) (e.1 parts.0)
      ∙ ap (λ b. source.statement_holds table payment e.0 || b) (nested_agree ss parts.1)

  roll_agrees : (condition : List Comparison) (nested : Option (List Agreeing)) → Agrees (roll-Statement (map-Statement Agreeing Statement (λ e. e.0) (record { condition = condition; nested = nested })))
  roll_agrees condition None none =
      let s : Statement-F Statement = record { condition = condition; nested = None } in
      let parts = all_parts (is_faultless table) condition _ (sym (ap (list_all (is_faultless table)) (fold-roll-Statement (List Comparison) comparisons_step s)) ∙ none) in
      ap (statement_holds payment) (valued_roll table condition None)
      ∙ fold-roll-VirStatement Bool (holds_step payment) (record { condition = grouped (atoms_of_comparisons table condition); nested = None })
      ∙ ap (λ b. b && true) (condition_agrees condition parts.0)
      ∙ sym (fold-roll-Statement Bool (source.holds_step (comparison_holds table payment)) s)
  roll_agrees condition (Some ss) none =
      let s : Statement-F Statement = record { condition = condition; nested = Some (statements ss) } in
      let parts = all_parts (is_faultless table) condition _ (sym (ap (list_all (is_faultless table)) (fold-roll-Statement (List Comparison) comparisons_step s)) ∙ none) in
      ap (statement_holds payment) (valued_roll table condition (Some (statements ss)))
      ∙ fold-roll-VirStatement Bool (holds_step payment) (record { condition = grouped (atoms_of_comparisons table condition); nested = Some (valued_all table (statements ss)) })
      ∙ ap (λ b. b && list_any (λ b. b) (map (statement_holds payment) (valued_all table (statements ss)))) (condition_agrees condition parts.0)
      ∙ ap (λ b. list_all (comparison_holds table payment) condition && b) (nested_agree ss parts.1)
      ∙ sym (fold-roll-Statement Bool (source.holds_step (comparison_holds table payment)) s)

  -- A statement without a fault holds where its valued one does.
  statement_agrees : (s : Statement) → Agrees s
  statement_agrees = ind-Statement Agrees (λ x y is. subst (λ z. Agrees (roll-Statement z)) is (roll_agrees y.condition y.nested))

  statements_agree : (ss : List Statement) → are_faultless (comparisons_in ss) → list_any (statement_holds payment) (valued_all table ss) ≡ list_any (source.statement_holds table payment) ss
  statements_agree [] none = refl
  statements_agree (s ∷ ss) none =
      let parts = all_parts (is_faultless table) (comparisons_of s) _ none in
      ap (λ b. b || list_any (statement_holds payment) (valued_all table ss)) (statement_agrees s parts.0)
      ∙ ap (λ b. source.statement_holds table payment s || b) (statements_agree ss parts.1)

  -- The first rule that matches is the same.
  rules_agree : (rs : List Rule) → are_faultless (flat_map (λ (rule : Rule). comparisons_in rule.statements) rs)
      → position_or_len (rule_matches payment) (map valued_rule (map (rule_of table) rs)) ≡ position_or_len (source.rule_matches table payment) rs
  rules_agree [] none = refl
  rules_agree (r ∷ rs) none =
      let parts = all_parts (is_faultless table) (comparisons_in r.statements) _ none in
      ap (λ b. cond (not b) (1 + position_or_len (rule_matches payment) (map valued_rule (map (rule_of table) rs))) 0) (statements_agree r.statements parts.0)
      ∙ ap (λ n. cond (not (source.rule_matches table payment r)) (1 + n) 0) (rules_agree rs parts.1)

place_kept : (n m l k : ℕ) → n ≡ m → l ≡ k → cond (nat_lt n l) (Some n) None ≡ cond (nat_lt m k) (Some m) None
place_kept n m l k place count = ap (λ i. cond (nat_lt i l) (Some i) None) place ∙ ap (λ j. cond (nat_lt m j) (Some m) None) count

pub kept : (p : Typed) → IsTyped p → IsKept p
kept p is payment =
    ap source.choice_of (place_kept _ _ _ _ (rules_agree p.table payment is.table p.source.rules (all_typed p is))
    (length-map (map (rule_of p.table) p.source.rules) valued_rule ∙ length-map p.source.rules (rule_of p.table)))
