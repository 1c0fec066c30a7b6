-- A tree is within the limits along the tree exactly where its program is.
use Rattle.std.proofs.Common.{◌≡◌, ℕ, suc, ◌-◌, ◌<◌, ◌≤◌, true, leb, ◌&&◌, List, [], ◌∷◌, ◌++◌, Option, refl, ap, sym, ◌∙◌, arith}
use Rattle.std.specs.List.{list_all}
use Rattle.std.proofs.lemmas.Bool.{and_parts, and_from, leb-true, le-leb, false≢true}
use Rattle.std.proofs.lemmas.List.Folds.{list_all-append}
use Rattle.euclid_lexer.specs.declared.token.Token.TheVariants as token
use Rattle.euclid_lexer.specs.declared.token.Sign.TheVariants.{CurlyOpen, CurlyClose}
use Rattle.euclid_ast.specs.declared.statement.Comparison.{Comparison}
use Rattle.euclid_ast.specs.declared.statement.Statement.{Statement}
use Rattle.euclid_ast.specs.Limits.{levels_of, comparisons_of, is_comparison, is_selection, is_short}
use Rattle.euclid_ast.specs.Limits as limits
use Rattle.euclid_grammar.specs.Marks.{BeginsStatement}
use Rattle.euclid_grammar.specs.Grammar.{Tree, Branch, Below, Leaf, Under, Trees, NoTree, MoreTrees, sign, condition_cells, tree_cells, below_cells, trees_cells, statement_of, nested_of, statements_of}
use Rattle.euclid_grammar.specs.Fits.{is_filled, has_items, has_tree, is_tree, is_below, are_trees}
use Rattle.euclid_grammar.proofs.Levels.{levels_below, levels-roll, levels_some, levels_fit, levels_each}
use Rattle.euclid_grammar.proofs.Totals.{comparisons_below, comparisons-roll}
use Rattle.euclid_grammar.proofs.Trees.{TreeFits, BelowFits, TreesFit}
use Rattle.euclid_grammar.proofs.Written.{AreWritten, rest_written, parts_written, begun_written, condition_fits, condition_few}

-- ---- statements

-- A statement of this level nests at most to level 32, and its comparisons are within the limits.
record IsFit (level : ℕ) (s : Statement) : Type 0 where
  levels : levels_of s ≤ 33 - level
  values : list_all is_comparison (comparisons_of s) ≡ true

-- The same of what is nested in a statement.
record BelowFit (level : ℕ) (nested : Option (List Statement)) : Type 0 where
  levels : levels_below nested ≤ 33 - level
  values : list_all is_comparison (comparisons_below nested) ≡ true

-- The same of statements.
pub record AreFit (level : ℕ) (ss : List Statement) : Type 0 where
  pub levels : list_all (λ s. leb (levels_of s) (33 - level)) ss ≡ true
  pub values : list_all is_comparison (limits.comparisons_in ss) ≡ true

rolled : (level : ℕ) (tests : List Comparison) (below : Below) → level < 33 → list_all is_comparison tests ≡ true → BelowFit (suc level) (nested_of below) → IsFit level (statement_of (Branch tests below))
rolled level tests below h values fit =
    let deep = fit.levels in
    record {
      levels = (let e = levels-roll tests (nested_of below) in omega (arith, e, deep, h));
      values = ap (list_all is_comparison) (comparisons-roll tests (nested_of below)) ∙ list_all-append is_comparison tests (comparisons_below (nested_of below)) ∙ and_from _ _ values fit.values;
    }

-- what a statement's parts are where it is within the limits
record AreParts (level : ℕ) (tests : List Comparison) (below : Below) : Type 0 where
  tests_fit : list_all is_comparison tests ≡ true
  below_fit : BelowFit (suc level) (nested_of below)

unrolled : (level : ℕ) (tests : List Comparison) (below : Below) → IsFit level (statement_of (Branch tests below)) → AreParts level tests below
unrolled level tests below fit =
    let deep = fit.levels in
    let nested = comparisons_below (nested_of below) in
    let values = and_parts (list_all is_comparison tests) (list_all is_comparison nested) (sym (list_all-append is_comparison tests nested) ∙ ap (list_all is_comparison) (sym (comparisons-roll tests (nested_of below))) ∙ fit.values) in
    record {
      tests_fit = values.0;
      below_fit = record { levels = (let e = levels-roll tests (nested_of below) in omega (arith, e, deep)); values = values.1 };
    }

first_and : (level : ℕ) (s : Statement) (ss : List Statement) → IsFit level s → AreFit level ss → AreFit level (s ∷ ss)
first_and level s ss first others = record {
  levels = and_from _ _ (le-leb (levels_of s) (33 - level) first.levels) others.levels;
  values = list_all-append is_comparison (comparisons_of s) (limits.comparisons_in ss) ∙ and_from _ _ first.values others.values;
}

first_of_them : (level : ℕ) (s : Statement) (ss : List Statement) → AreFit level (s ∷ ss) → IsFit level s × AreFit level ss
first_of_them level s ss all =
    let levels = and_parts (leb (levels_of s) (33 - level)) (list_all (λ s. leb (levels_of s) (33 - level)) ss) all.levels in
    let values = and_parts (list_all is_comparison (comparisons_of s)) (list_all is_comparison (limits.comparisons_in ss)) (sym (list_all-append is_comparison (comparisons_of s) (limits.comparisons_in ss)) ∙ all.values) in
    (record { levels = leb-true (levels_of s) (33 - level) levels.0; values = values.0 }, record { levels = levels.1; values = values.1 })

mutual
  tree_told : (t : Tree) (level : ℕ) → level < 33 → AreWritten (tree_cells level t) → TreeFits level t → IsFit level (statement_of t)
  tree_told (Branch tests below) level h written fits =
      let all = condition_cells tests ++ below_cells (suc level) below in
      let parts = parts_written (condition_cells tests) (below_cells (suc level) below) (begun_written BeginsStatement all written) in
      rolled level tests below h (condition_fits tests parts.0 fits.0) (below_told below (suc level) parts.1 fits.1)

  below_told : (b : Below) (level : ℕ) → AreWritten (below_cells level b) → BelowFits level b → BelowFit level (nested_of b)
  below_told Leaf level written fits = record { levels = omega arith; values = refl }
  below_told (Under trees) level written fits =
      let inner = trees_cells level trees ++ sign CurlyClose ∷ [] in
      let parts = parts_written (trees_cells level trees) (sign CurlyClose ∷ []) (rest_written (token.Sign CurlyOpen) inner written) in
      let all = trees_told trees level fits.0 parts.0 fits.1 in
      record { levels = levels_fit (33 - level) (statements_of trees) all.levels; values = all.values }

  pub trees_told : (ts : Trees) (level : ℕ) → level < 33 → AreWritten (trees_cells level ts) → TreesFit level ts → AreFit level (statements_of ts)
  trees_told NoTree level h written fits = record { levels = refl; values = refl }
  trees_told (MoreTrees first others) level h written fits =
      let parts = parts_written (tree_cells level first) (trees_cells level others) written in
      first_and level (statement_of first) (statements_of others) (tree_told first level h parts.0 fits.0) (trees_told others level h parts.1 fits.1)

-- where there are statements, there is a level for them
level_left : (ts : Trees) (level : ℕ) → has_tree ts ≡ true → AreFit level (statements_of ts) → level < 33
level_left NoTree level some all = absurd (false≢true some)
level_left (MoreTrees first others) level some all =
    let deep = (first_of_them level (statement_of first) (statements_of others) all).0.levels in
    let one = levels_some (statement_of first) in
    omega (arith, deep, one)

mutual
  tree_fits : (t : Tree) (level : ℕ) → is_tree t ≡ true → IsFit level (statement_of t) → TreeFits level t
  tree_fits (Branch tests below) level is fit =
      let parts = unrolled level tests below fit in
      (condition_few tests parts.tests_fit, below_fits below (suc level) (and_parts (is_filled tests && list_all (λ (c : Comparison). has_items c.value) tests) (is_below below) is).1 parts.below_fit)

  below_fits : (b : Below) (level : ℕ) → is_below b ≡ true → BelowFit level (nested_of b) → BelowFits level b
  below_fits Leaf level is fit = tt
  below_fits (Under trees) level is fit =
      let parts = and_parts (has_tree trees) (are_trees trees) is in
      let all : AreFit level (statements_of trees) = record { levels = levels_each (33 - level) (statements_of trees) fit.levels; values = fit.values } in
      (level_left trees level parts.0 all, trees_fit trees level parts.1 all)

  pub trees_fit : (ts : Trees) (level : ℕ) → are_trees ts ≡ true → AreFit level (statements_of ts) → TreesFit level ts
  trees_fit NoTree level is all = tt
  trees_fit (MoreTrees first others) level is all =
      let is_parts = and_parts (is_tree first) (are_trees others) is in
      let parts = first_of_them level (statement_of first) (statements_of others) all in
      (tree_fits first level is_parts.0 parts.0, trees_fit others level is_parts.1 parts.1)
