-- A tree of the grammar has no token that begins one too many exactly where its program is within the limits.
use Rattle.std.proofs.Common.{◌≡◌, ℕ, suc, true, leb, List, [], ◌∷◌, ◌++◌, map, length, codes, sum, refl, sym, ◌∙◌, subst, arith}
use Rattle.std.specs.List.{list_all}
use Rattle.std.proofs.lemmas.Bool.{and_parts, and_from}
use Rattle.std.proofs.lemmas.List.{length-map}
use Rattle.std.proofs.lemmas.List.Folds.{list_all-append}
use Rattle.euclid_lexer.specs.declared.token.Token.TheVariants as token
use Rattle.euclid_lexer.specs.declared.token.Sign.TheVariants.{Colon, CurlyOpen, CurlyClose}
use Rattle.euclid_ast.specs.declared.statement.Statement.{Statement}
use Rattle.euclid_ast.specs.declared.program.Rule.{Rule}
use Rattle.euclid_ast.specs.Limits.{levels_of, is_comparison, is_selection, is_short, IsWithinLimits}
use Rattle.euclid_ast.specs.Limits as limits
use Rattle.euclid_grammar.specs.declared.counts.Counts.{Counts}
use Rattle.euclid_grammar.specs.Marks.{BeginsRule, plain}
use Rattle.euclid_grammar.specs.Grammar.{RuleTree, ProgramTree, sign, trees_cells, selection_cells, name_token, rule_cells, rules_cells, statements_of, rule_of, shape}
use Rattle.euclid_grammar.specs.Fits.{start, in_range, are_trees, is_rule_tree}
use Rattle.euclid_grammar.specs.Faults.{IsProgram, IsWithinMarks}
use Rattle.euclid_grammar.specs.Laws.{LimitsLaw}
use Rattle.euclid_grammar.proofs.Measured.{counted, both, none_both, IsAllowed}
use Rattle.euclid_grammar.proofs.Commas.{HasRoom, room_is, room_from}
use Rattle.euclid_grammar.proofs.Totals.{statements_in, comparisons_in, rules-counts}
use Rattle.euclid_grammar.proofs.TreeLimits.{AreFit, trees_told, trees_fit}
use Rattle.euclid_grammar.proofs.Trees.{rules_counts, RuleFits, RulesFit, ProgramFits, program_measured}
use Rattle.euclid_grammar.proofs.Written.{AreWritten, first_written, rest_written, parts_written, begun_written, selection_fits, selection_few, name_fits}

-- ---- rules

-- These rules are within the limits, but for their number and how much stands in them.
record AreRulesFit (rs : List RuleTree) : Type 0 where
  levels : list_all (λ s. leb (levels_of s) 32) (statements_in rs) ≡ true
  values : list_all is_comparison (comparisons_in rs) ≡ true
  names : list_all (λ (rule : Rule). is_short rule.name) (map rule_of rs) ≡ true
  selections : list_all (λ (rule : Rule). is_selection rule.selection) (map rule_of rs) ≡ true

-- The same of a rule.
record IsRuleFit (r : RuleTree) : Type 0 where
  trees : AreFit 1 (statements_of r.trees)
  name : is_short (rule_of r).name ≡ true
  selection : is_selection r.selection ≡ true

rule_and : (r : RuleTree) (rs : List RuleTree) → IsRuleFit r → AreRulesFit rs → AreRulesFit (r ∷ rs)
rule_and r rs first others = record {
  levels = list_all-append (λ s. leb (levels_of s) 32) (statements_of r.trees) (statements_in rs) ∙ and_from _ _ first.trees.levels others.levels;
  values = list_all-append is_comparison (limits.comparisons_in (statements_of r.trees)) (comparisons_in rs) ∙ and_from _ _ first.trees.values others.values;
  names = and_from _ _ first.name others.names;
  selections = and_from _ _ first.selection others.selections;
}

rule_of_them : (r : RuleTree) (rs : List RuleTree) → AreRulesFit (r ∷ rs) → IsRuleFit r × AreRulesFit rs
rule_of_them r rs all =
    let statements = statements_of r.trees in
    let comparisons = limits.comparisons_in statements in
    let deep = λ (s : Statement). leb (levels_of s) 32 in
    let levels = and_parts (list_all deep statements) (list_all deep (statements_in rs)) (sym (list_all-append deep statements (statements_in rs)) ∙ all.levels) in
    let values = and_parts (list_all is_comparison comparisons) (list_all is_comparison (comparisons_in rs)) (sym (list_all-append is_comparison comparisons (comparisons_in rs)) ∙ all.values) in
    let names = and_parts (is_short (rule_of r).name) (list_all (λ (rule : Rule). is_short rule.name) (map rule_of rs)) all.names in
    let selections = and_parts (is_selection r.selection) (list_all (λ (rule : Rule). is_selection rule.selection) (map rule_of rs)) all.selections in
    (record { trees = record { levels = levels.0; values = values.0 }; name = names.0; selection = selections.0 }, record { levels = levels.1; values = values.1; names = names.1; selections = selections.1 })

rule_told : (i : ℕ) (r : RuleTree) → is_rule_tree r ≡ true → AreWritten (rule_cells i r) → RuleFits r → IsRuleFit r
rule_told i r is written fits =
    let block = trees_cells 1 r.trees ++ sign CurlyClose ∷ [] in
    let body = selection_cells r.selection ++ sign CurlyOpen ∷ block in
    let all = begun_written (BeginsRule i) (plain (name_token r.name) ∷ sign Colon ∷ body) written in
    let parts = parts_written (selection_cells r.selection) (sign CurlyOpen ∷ block) (rest_written (token.Sign Colon) body (rest_written (name_token r.name) (sign Colon ∷ body) all)) in
    let trees = parts_written (trees_cells 1 r.trees) (sign CurlyClose ∷ []) (rest_written (token.Sign CurlyOpen) block parts.1) in
    record {
      trees = trees_told r.trees 1 (omega arith) trees.0 fits.1;
      name = name_fits r.name (first_written (name_token r.name) (sign Colon ∷ body) all);
      selection = selection_fits r.selection parts.0 (and_parts (in_range r.selection) (are_trees r.trees) is).0 fits.0;
    }

rules_told : (i : ℕ) (rs : List RuleTree) → list_all is_rule_tree rs ≡ true → AreWritten (rules_cells i rs) → RulesFit i rs → AreRulesFit rs
rules_told i [] is written fits = record { levels = refl; values = refl; names = refl; selections = refl }
rules_told i (r ∷ rs) is written fits =
    let is_parts = and_parts (is_rule_tree r) (list_all is_rule_tree rs) is in
    let parts = parts_written (rule_cells i r) (rules_cells (suc i) rs) written in
    rule_and r rs (rule_told i r is_parts.0 parts.0 fits.0.1) (rules_told (suc i) rs is_parts.1 parts.1 fits.1)

rules_room : (i : ℕ) (rs : List RuleTree) → RulesFit i rs → HasRoom 256 i rs
rules_room i [] fits = tt
rules_room i (r ∷ rs) fits = (fits.0.0, rules_room (suc i) rs fits.1)

rules_fit : (i : ℕ) (rs : List RuleTree) → list_all is_rule_tree rs ≡ true → HasRoom 256 i rs → AreRulesFit rs → RulesFit i rs
rules_fit i [] is room all = tt
rules_fit i (r ∷ rs) is room all =
    let is_parts = and_parts (is_rule_tree r) (list_all is_rule_tree rs) is in
    let parts = rule_of_them r rs all in
    let trees = trees_fit r.trees 1 (and_parts (in_range r.selection) (are_trees r.trees) is_parts.0).1 parts.0.trees in
    ((room.0, (selection_few r.selection parts.0.selection, trees)), rules_fit (suc i) rs is_parts.1 room.1 parts.1)

-- ---- programs

-- how much stands in a program
abbrev amounts : ProgramTree → Counts
amounts t = counted (sum (map limits.statements_of (limits.all_statements (shape t)))) (length (limits.all_comparisons (shape t)))

allowed_is : (t : ProgramTree) → both start (rules_counts t.rules) ≡ amounts t
allowed_is t = none_both (rules_counts t.rules) ∙ rules-counts t.rules

within_limits : (t : ProgramTree) → IsProgram t → IsWithinMarks t → IsWithinLimits (shape t)
within_limits t is within =
    let started : IsAllowed start = record { statements = omega arith; comparisons = omega arith } in
    let told = (program_measured t is.fits).to start started within in
    let P : Counts → Type 0 = λ n. IsAllowed n in
    let allowed = subst P (allowed_is t) told.0 in
    let body = selection_cells t.default ++ rules_cells 0 t.rules in
    let written = parts_written (selection_cells t.default) (rules_cells 0 t.rules) (rest_written (token.Sign Colon) body (rest_written (token.Word (codes "default")) (sign Colon ∷ body) is.written)) in
    let fits = and_parts (in_range t.default) (list_all is_rule_tree t.rules) is.fits in
    let rules = rules_told 0 t.rules fits.1 written.1 told.1.1 in
    record {
      rules = (let e = length-map t.rules rule_of in let room = room_is 256 0 t.rules (omega arith) (rules_room 0 t.rules told.1.1) in omega (arith, e, room));
      statements = allowed.statements;
      comparisons = allowed.comparisons;
      levels = rules.levels;
      values = rules.values;
      names = rules.names;
      default = selection_fits t.default written.0 fits.0 told.1.0;
      selections = rules.selections;
    }

within_marks : (t : ProgramTree) → IsProgram t → IsWithinLimits (shape t) → IsWithinMarks t
within_marks t is limit =
    let P : Counts → Type 0 = λ n. IsAllowed n in
    let allowed = subst P (sym (allowed_is t)) (record { statements = limit.statements; comparisons = limit.comparisons }) in
    let rules : AreRulesFit t.rules = record { levels = limit.levels; values = limit.values; names = limit.names; selections = limit.selections } in
    let few = limit.rules in
    let room = room_from 256 0 t.rules (let e = length-map t.rules rule_of in omega (arith, e, few)) in
    let fits : ProgramFits t = (selection_few t.default limit.default, rules_fit 0 t.rules (and_parts (in_range t.default) (list_all is_rule_tree t.rules) is.fits).1 room rules) in
    (program_measured t is.fits).from start allowed fits

pub limits_agree : LimitsLaw
limits_agree t is = (within_limits t is, within_marks t is)
