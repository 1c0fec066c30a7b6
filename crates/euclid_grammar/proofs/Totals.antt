-- How many statements and comparisons a tree has are those of its program.
use Rattle.std.proofs.Common.{◌≡◌, ℕ, ◌+◌, List, [], ◌∷◌, ◌++◌, map, length, Option, Some, None, refl, ap, ◌∙◌, arith, length-append}
use Rattle.std.specs.List.{flat_map, sum}
use Rattle.std.proofs.lemmas.List.{map-append}
use Rattle.std.proofs.lemmas.List.Sums.{sum_by-cons, sum_by-append}
use Rattle.euclid_ast.specs.declared.statement.Comparison.{Comparison}
use Rattle.euclid_ast.specs.declared.statement.Statement.{Statement, roll-Statement}
use Rattle.euclid_ast.specs.declared.statement.Statement.TheFolds.{fold-roll-Statement}
use Rattle.euclid_ast.specs.declared.program.Rule.{Rule}
use Rattle.euclid_ast.specs.Limits as limits
use Rattle.euclid_grammar.specs.declared.counts.Counts.{Counts}
use Rattle.euclid_grammar.specs.Grammar.{Tree, Branch, Below, Leaf, Under, Trees, NoTree, MoreTrees, RuleTree, statement_of, nested_of, statements_of, rule_of}
use Rattle.euclid_grammar.proofs.Measured.{counted, same_counts}
use Rattle.euclid_grammar.proofs.Trees.{tree_counts, below_counts, trees_counts, rules_counts}

joined-map : {X Y : Type 0} (f : X → List Y) (xs : List X) → flat_map (λ ys. ys) (map f xs) ≡ flat_map f xs
joined-map f [] = refl
joined-map f (x ∷ xs) = ap (λ ys. f x ++ ys) (joined-map f xs)

-- ---- what is nested in a statement

abbrev pub statements_below : Option (List Statement) → ℕ
statements_below None = 0
statements_below (Some ss) = sum (map limits.statements_of ss)

abbrev pub comparisons_below : Option (List Statement) → List Comparison
comparisons_below None = []
comparisons_below (Some ss) = limits.comparisons_in ss

pub statements-roll : (cs : List Comparison) (nested : Option (List Statement)) → limits.statements_of (roll-Statement (record { condition = cs; nested = nested })) ≡ statements_below nested + 1
statements-roll cs None = fold-roll-Statement ℕ limits.statements_step (record { condition = cs; nested = None })
statements-roll cs (Some ss) = fold-roll-Statement ℕ limits.statements_step (record { condition = cs; nested = Some ss })

pub comparisons-roll : (cs : List Comparison) (nested : Option (List Statement)) → limits.comparisons_of (roll-Statement (record { condition = cs; nested = nested })) ≡ cs ++ comparisons_below nested
comparisons-roll cs None = fold-roll-Statement (List Comparison) limits.comparisons_step (record { condition = cs; nested = None })
comparisons-roll cs (Some ss) =
    fold-roll-Statement (List Comparison) limits.comparisons_step (record { condition = cs; nested = Some ss }) ∙ ap (λ (ds : List Comparison). cs ++ ds) (joined-map limits.comparisons_of ss)

-- ---- trees

mutual
  tree-counts : (t : Tree) → tree_counts t ≡ counted (limits.statements_of (statement_of t)) (length (limits.comparisons_of (statement_of t)))
  tree-counts (Branch tests below) =
      let b = below-counts below in
      let s = statements-roll tests (nested_of below) in
      let k = ap length (comparisons-roll tests (nested_of below)) ∙ length-append tests (comparisons_below (nested_of below)) in
      same_counts _ _
      (omega (arith, ap (λ (n : Counts). n.statements) b, s))
      (omega (arith, ap (λ (n : Counts). n.comparisons) b, k))

  below-counts : (b : Below) → below_counts b ≡ counted (statements_below (nested_of b)) (length (comparisons_below (nested_of b)))
  below-counts Leaf = refl
  below-counts (Under trees) = trees-counts trees

  pub trees-counts : (ts : Trees) → trees_counts ts ≡ counted (sum (map limits.statements_of (statements_of ts))) (length (limits.comparisons_in (statements_of ts)))
  trees-counts NoTree = refl
  trees-counts (MoreTrees first others) =
      let f = tree-counts first in
      let o = trees-counts others in
      let s = sum_by-cons (λ n. n) (limits.statements_of (statement_of first)) (map limits.statements_of (statements_of others)) in
      let k = length-append (limits.comparisons_of (statement_of first)) (limits.comparisons_in (statements_of others)) in
      same_counts _ _
      (omega (arith, ap (λ (n : Counts). n.statements) f, ap (λ (n : Counts). n.statements) o, s))
      (omega (arith, ap (λ (n : Counts). n.comparisons) f, ap (λ (n : Counts). n.comparisons) o, k))

-- ---- rules

abbrev pub statements_in : List RuleTree → List Statement
statements_in rs = flat_map (λ (rule : Rule). rule.statements) (map rule_of rs)

abbrev pub comparisons_in : List RuleTree → List Comparison
comparisons_in rs = flat_map (λ (rule : Rule). limits.comparisons_in rule.statements) (map rule_of rs)

pub rules-counts : (rs : List RuleTree) → rules_counts rs ≡ counted (sum (map limits.statements_of (statements_in rs))) (length (comparisons_in rs))
rules-counts [] = refl
rules-counts (r ∷ rs) =
    let f = trees-counts r.trees in
    let o = rules-counts rs in
    let first = statements_of r.trees in
    let s = ap sum (map-append limits.statements_of first (statements_in rs)) ∙ sum_by-append (λ n. n) (map limits.statements_of first) (map limits.statements_of (statements_in rs)) in
    let k = length-append (limits.comparisons_in first) (comparisons_in rs) in
    same_counts _ _
    (omega (arith, ap (λ (n : Counts). n.statements) f, ap (λ (n : Counts). n.statements) o, s))
    (omega (arith, ap (λ (n : Counts). n.comparisons) f, ap (λ (n : Counts). n.comparisons) o, k))
