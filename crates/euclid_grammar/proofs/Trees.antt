-- When statements, rules and a program are within the limits, along the tree.
use Rattle.std.proofs.Common.{◌≡◌, ℕ, suc, ◌<◌, true, ◌&&◌, List, [], ◌∷◌, ◌++◌, length, codes, refl}
use Rattle.std.specs.List.{list_all}
use Rattle.std.proofs.lemmas.Bool.{and_parts, false≢true}
use Rattle.euclid_lexer.specs.declared.token.Token.TheVariants as token
use Rattle.euclid_lexer.specs.declared.token.Sign.TheVariants.{Colon, CurlyOpen, CurlyClose}
use Rattle.euclid_ast.specs.declared.statement.Comparison.{Comparison}
use Rattle.euclid_grammar.specs.declared.counts.Counts.{Counts}
use Rattle.euclid_grammar.specs.Marks.{BeginsRule, BeginsStatement, BeginsLevel, plain}
use Rattle.euclid_grammar.specs.Grammar.{Tree, Branch, Below, Leaf, Under, Trees, NoTree, MoreTrees, RuleTree, ProgramTree, sign, condition_cells, tree_cells, below_cells, trees_cells, selection_cells, name_token, rule_cells, rules_cells, cells}
use Rattle.euclid_grammar.specs.Fits.{is_filled, has_items, has_tree, in_range, is_tree, is_below, are_trees, is_rule_tree, is_program}
use Rattle.euclid_grammar.proofs.Measured.{counted, none, both, none_both, IsMeasured, measured_none, measured_as, measured_plain, measured_append, measured_closed, measured_beginning, measured_begun, statement_marked, level_marked, rule_marked}
use Rattle.euclid_grammar.proofs.Leaves.{selects_few, all_few, condition_measured, selection_measured}

-- ---- statements

abbrev mutual
  -- how many statements and comparisons stand in a tree
  pub tree_counts : Tree → Counts
  tree_counts (Branch tests below) = both (counted 1 0) (both (counted 0 (length tests)) (below_counts below))

  pub below_counts : Below → Counts
  below_counts Leaf = none
  below_counts (Under trees) = trees_counts trees

  pub trees_counts : Trees → Counts
  trees_counts NoTree = none
  trees_counts (MoreTrees first others) = both (tree_counts first) (trees_counts others)

abbrev mutual
  -- whether its lists have few items, and nothing is nested too deep
  pub TreeFits : ℕ → Tree → Type 0
  TreeFits level (Branch tests below) = (all_few tests ≡ true) × BelowFits (suc level) below

  pub BelowFits : ℕ → Below → Type 0
  BelowFits level Leaf = Unit {0}
  BelowFits level (Under trees) = (level < 33) × TreesFit level trees

  pub TreesFit : ℕ → Trees → Type 0
  TreesFit level NoTree = Unit {0}
  TreesFit level (MoreTrees first others) = TreeFits level first × TreesFit level others

branch_measured : (level : ℕ) (tests : List Comparison) (below : Below) → is_filled tests ≡ true → IsMeasured (below_cells (suc level) below) (below_counts below) (BelowFits (suc level) below)
    → IsMeasured (tree_cells level (Branch tests below)) (tree_counts (Branch tests below)) (TreeFits level (Branch tests below))
branch_measured level [] below filled m = absurd (false≢true filled)
branch_measured level (c ∷ cs) below filled m =
    let F = TreeFits level (Branch (c ∷ cs) below) in
    let qs = condition_cells (c ∷ cs) ++ below_cells (suc level) below in
    let adds = both (counted 0 (length (c ∷ cs))) (below_counts below) in
    let inner : IsMeasured qs adds F =
    measured_append (condition_cells (c ∷ cs)) (below_cells (suc level) below) (counted 0 (length (c ∷ cs))) (below_counts below) (condition_measured (c ∷ cs)) m in
    measured_as (tree_cells level (Branch (c ∷ cs) below)) (both (counted 1 0) adds) (both (counted 1 0) adds) (measured_beginning BeginsStatement qs (counted 1 0) adds tt statement_marked inner) refl
    (λ (p : Unit {0} × F). p.1) (λ (p : F). (tt, p))

mutual
  tree_measured : (t : Tree) (level : ℕ) → is_tree t ≡ true → IsMeasured (tree_cells level t) (tree_counts t) (TreeFits level t)
  tree_measured (Branch tests below) level h =
      let parts = and_parts (is_filled tests && list_all (λ (c : Comparison). has_items c.value) tests) (is_below below) h in
      branch_measured level tests below (and_parts (is_filled tests) (list_all (λ (c : Comparison). has_items c.value) tests) parts.0).0 (below_measured below (suc level) parts.1)

  below_measured : (b : Below) (level : ℕ) → is_below b ≡ true → IsMeasured (below_cells level b) (below_counts b) (BelowFits level b)
  below_measured Leaf level h = measured_none
  below_measured (Under trees) level h =
      let inner = trees_measured trees level (and_parts (has_tree trees) (are_trees trees) h).1 in
      measured_begun (BeginsLevel level) (sign CurlyOpen ∷ (trees_cells level trees ++ sign CurlyClose ∷ [])) (trees_counts trees) tt (level_marked level)
      (measured_plain (token.Sign CurlyOpen) (trees_cells level trees ++ sign CurlyClose ∷ []) (trees_counts trees) (measured_closed (trees_cells level trees) (token.Sign CurlyClose) (trees_counts trees) inner))

  pub trees_measured : (ts : Trees) (level : ℕ) → are_trees ts ≡ true → IsMeasured (trees_cells level ts) (trees_counts ts) (TreesFit level ts)
  trees_measured NoTree level h = measured_none
  trees_measured (MoreTrees first others) level h =
      let parts = and_parts (is_tree first) (are_trees others) h in
      measured_append (tree_cells level first) (trees_cells level others) (tree_counts first) (trees_counts others) (tree_measured first level parts.0) (trees_measured others level parts.1)

-- ---- rules

abbrev pub rules_counts : List RuleTree → Counts
rules_counts [] = none
rules_counts (r ∷ rs) = both (trees_counts r.trees) (rules_counts rs)

-- whether a rule's lists have few items, and nothing in it is nested too deep
abbrev pub RuleFits : RuleTree → Type 0
RuleFits r = (selects_few r.selection ≡ true) × TreesFit 1 r.trees

-- the same of each of these rules, of which the first is number i, and there are not too many
abbrev pub RulesFit : ℕ → List RuleTree → Type 0
RulesFit i [] = Unit {0}
RulesFit i (r ∷ rs) = ((i < 256) × RuleFits r) × RulesFit (suc i) rs

rule_measured : (i : ℕ) (r : RuleTree) → are_trees r.trees ≡ true → IsMeasured (rule_cells i r) (trees_counts r.trees) ((i < 256) × RuleFits r)
rule_measured i r h =
    let trees = trees_cells 1 r.trees ++ sign CurlyClose ∷ [] in
    let adds = trees_counts r.trees in
    let block : IsMeasured (sign CurlyOpen ∷ trees) adds (TreesFit 1 r.trees) =
    measured_plain (token.Sign CurlyOpen) trees adds (measured_closed (trees_cells 1 r.trees) (token.Sign CurlyClose) adds (trees_measured r.trees 1 h)) in
    let body = selection_cells r.selection ++ sign CurlyOpen ∷ trees in
    let inner : IsMeasured body (both none adds) (RuleFits r) = measured_append (selection_cells r.selection) (sign CurlyOpen ∷ trees) none adds (selection_measured r.selection) block in
    let told : IsMeasured body adds (RuleFits r) = measured_as body (both none adds) adds inner (none_both adds) (λ (p : RuleFits r). p) (λ (p : RuleFits r). p) in
    measured_begun (BeginsRule i) (plain (name_token r.name) ∷ sign Colon ∷ body) adds tt (rule_marked i)
    (measured_plain (name_token r.name) (sign Colon ∷ body) adds (measured_plain (token.Sign Colon) body adds told))

rules_measured : (i : ℕ) (rs : List RuleTree) → list_all is_rule_tree rs ≡ true → IsMeasured (rules_cells i rs) (rules_counts rs) (RulesFit i rs)
rules_measured i [] h = measured_none
rules_measured i (r ∷ rs) h =
    let parts = and_parts (is_rule_tree r) (list_all is_rule_tree rs) h in
    measured_append (rule_cells i r) (rules_cells (suc i) rs) (trees_counts r.trees) (rules_counts rs)
    (rule_measured i r (and_parts (in_range r.selection) (are_trees r.trees) parts.0).1) (rules_measured (suc i) rs parts.1)

-- ---- programs

-- whether a program's lists have few items, and nothing is nested too deep
abbrev pub ProgramFits : ProgramTree → Type 0
ProgramFits p = (selects_few p.default ≡ true) × RulesFit 0 p.rules

pub program_measured : (p : ProgramTree) → is_program p ≡ true → IsMeasured (cells p) (rules_counts p.rules) (ProgramFits p)
program_measured p h =
    let body = selection_cells p.default ++ rules_cells 0 p.rules in
    let adds = rules_counts p.rules in
    let inner : IsMeasured body (both none adds) (ProgramFits p) =
    measured_append (selection_cells p.default) (rules_cells 0 p.rules) none adds (selection_measured p.default) (rules_measured 0 p.rules (and_parts (in_range p.default) (list_all is_rule_tree p.rules) h).1) in
    let told : IsMeasured body adds (ProgramFits p) = measured_as body (both none adds) adds inner (none_both adds) (λ (f : ProgramFits p). f) (λ (f : ProgramFits p). f) in
    measured_plain (token.Word (codes "default")) (sign Colon ∷ body) adds (measured_plain (token.Sign Colon) body adds told)
