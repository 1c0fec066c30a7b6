-- Each atom of a valued program fits its table.
use Rattle.std.proofs.Common.{◌≡◌, List, [], ◌∷◌, ◌++◌, map, Bool, true, ◌&&◌, Option, Some, None, refl, ap, sym, ◌∙◌, subst}
use Rattle.std.specs.List.{list_all, flat_map}
use Rattle.std.proofs.lemmas.Bool.{and_from, and_parts}
use Rattle.std.proofs.lemmas.List.Folds.{list_all-append}
use Rattle.key_table.specs.declared.atom.Atom.{Atom}
use Rattle.key_table.specs.Tables.{Table}
use Rattle.key_table.specs.Atoms.{atom_fits}
use Rattle.euclid_ast.specs.declared.statement.Comparison.{Comparison}
use Rattle.euclid_ast.specs.declared.statement.Statement.{Statement}
use Rattle.euclid_ast.specs.declared.statement.Statement.TheViews.{roll-Statement}
use Rattle.euclid_ast.specs.declared.statement.Statement.TheFolds.{fold-roll-Statement, ind-Statement, map-Statement}
use Rattle.euclid_ast.specs.declared.program.Rule.{Rule}
use Rattle.euclid_ast.specs.Limits.{is_comparison, comparisons_step, comparisons_of, comparisons_in}
use Rattle.dir_typing.specs.Numbered as numbered
use Rattle.dir_typing.specs.Typed.{Typed, IsTyped}
use Rattle.vir_lowering.specs.declared.vir.VirStatement.TheFolds.{fold-roll-VirStatement}
use Rattle.vir_lowering.specs.Atoms.{atom_of}
use Rattle.vir_lowering.specs.Grouped.{grouped}
use Rattle.vir_lowering.specs.Valued.{valued_rule}
use Rattle.vir_lowering.specs.Fits.{atoms_step, atoms_of, atoms_in, AllFit}
use Rattle.vir_lowering.proofs.AtomFits.{fits, comparison_fits}
use Rattle.vir_lowering.proofs.Faultless.{is_faultless, all_typed}
use Rattle.vir_lowering.proofs.GroupedAtoms.{grouped_all}
use Rattle.vir_lowering.proofs.Parts.{valued, valued_all, valued_roll, atoms_of_comparisons}

all_fit : (table : Table) (cs : List Comparison) → list_all (is_faultless table) cs ≡ true → list_all is_comparison cs ≡ true → list_all (fits table) cs ≡ true
all_fit table [] none short = refl
all_fit table (c ∷ cs) none short =
    let faults = and_parts (is_faultless table c) _ none in
    let limits = and_parts (is_comparison c) _ short in
    and_from _ _ (comparison_fits table c faults.0 limits.0) (all_fit table cs faults.1 limits.1)

-- What all atoms pass, all comparisons pass by their atoms.
module _ (table : Table) (p : Atom → Bool) where
  abbrev passes : Comparison → Bool
  passes c = p (atom_of (numbered.comparison_of table c))

  comparisons_pass : (cs : List Comparison) → list_all p (atoms_of_comparisons table cs) ≡ list_all passes cs
  comparisons_pass [] = refl
  comparisons_pass (c ∷ cs) = ap (λ b. passes c && b) (comparisons_pass cs)

  -- atoms of some comparisons, and the atoms of those behind them
  joined_pass : (atoms more : List Atom) (cs behind : List Comparison) → list_all p atoms ≡ list_all passes cs → list_all p more ≡ list_all passes behind
      → list_all p (atoms ++ more) ≡ list_all passes (cs ++ behind)
  joined_pass atoms more cs behind first second =
      list_all-append p atoms more ∙ ap (λ b. b && list_all p more) first ∙ ap (λ b. list_all passes cs && b) second ∙ sym (list_all-append passes cs behind)

  condition_passes : (cs behind : List Comparison) (atoms : List Atom) → list_all p atoms ≡ list_all passes behind
      → list_all p (grouped (atoms_of_comparisons table cs) ++ atoms) ≡ list_all passes (cs ++ behind)
  condition_passes cs behind atoms same = joined_pass (grouped (atoms_of_comparisons table cs)) atoms cs behind (grouped_all p (atoms_of_comparisons table cs) ∙ comparisons_pass cs) same

  abbrev Alike : Statement → Type 0
  Alike s = list_all p (atoms_of (valued table s)) ≡ list_all passes (comparisons_of s)

  abbrev AlikeStatement : Type 0
  AlikeStatement = (s : Statement) × Alike s

  abbrev statements : List AlikeStatement → List Statement
  statements ss = map (λ e. e.0) ss

  nested_pass : (ss : List AlikeStatement)
      → list_all p (flat_map (λ atoms. atoms) (map atoms_of (valued_all table (statements ss)))) ≡ list_all passes (flat_map (λ cs. cs) (map comparisons_of (statements ss)))
  nested_pass [] = refl
  nested_pass (e ∷ ss) = joined_pass (atoms_of (valued table e.0)) _ (comparisons_of e.0) _ e.1 (nested_pass ss)

  roll_passes : (condition : List Comparison) (nested : Option (List AlikeStatement)) → Alike (roll-Statement (map-Statement AlikeStatement Statement (λ e. e.0) (record { condition = condition; nested = nested })))
  roll_passes condition None =
      ap (λ s. list_all p (atoms_of s)) (valued_roll table condition None)
      ∙ ap (list_all p) (fold-roll-VirStatement (List Atom) atoms_step (record { condition = grouped (atoms_of_comparisons table condition); nested = None }))
      ∙ condition_passes condition [] [] refl
      ∙ sym (ap (list_all passes) (fold-roll-Statement (List Comparison) comparisons_step (record { condition = condition; nested = None })))
  roll_passes condition (Some ss) =
      ap (λ s. list_all p (atoms_of s)) (valued_roll table condition (Some (statements ss)))
      ∙ ap (list_all p) (fold-roll-VirStatement (List Atom) atoms_step (record { condition = grouped (atoms_of_comparisons table condition); nested = Some (valued_all table (statements ss)) }))
      ∙ condition_passes condition _ _ (nested_pass ss)
      ∙ sym (ap (list_all passes) (fold-roll-Statement (List Comparison) comparisons_step (record { condition = condition; nested = Some (statements ss) })))

  statement_passes : (s : Statement) → Alike s
  statement_passes = ind-Statement Alike (λ x y is. subst (λ z. Alike (roll-Statement z)) is (roll_passes y.condition y.nested))

  statements_pass : (ss : List Statement) → list_all p (flat_map atoms_of (valued_all table ss)) ≡ list_all passes (comparisons_in ss)
  statements_pass [] = refl
  statements_pass (s ∷ ss) = joined_pass (atoms_of (valued table s)) _ (comparisons_of s) _ (statement_passes s) (statements_pass ss)

  rules_pass : (rs : List Rule) → list_all p (atoms_in (map valued_rule (map (numbered.rule_of table) rs))) ≡ list_all passes (flat_map (λ (rule : Rule). comparisons_in rule.statements) rs)
  rules_pass [] = refl
  rules_pass (r ∷ rs) = joined_pass (flat_map atoms_of (valued_all table r.statements)) _ (comparisons_in r.statements) _ (statements_pass r.statements) (rules_pass rs)

pub all_atoms_fit : (p : Typed) → IsTyped p → AllFit p
all_atoms_fit p is = rules_pass p.table (atom_fits p.table) p.source.rules ∙ all_fit p.table _ (all_typed p is) is.within.values
