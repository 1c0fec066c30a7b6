-- A statement is that of its own tree, and a tree is that of its own statement.
use Rattle.std.specs.Prelude.{◌≡◌, List, [], ◌∷◌, map, Option, Some, None}
use Rattle.std.proofs.Common.{refl, ap, ◌∙◌, subst}
use Rattle.euclid_ast.specs.declared.statement.Comparison.{Comparison}
use Rattle.euclid_ast.specs.declared.statement.Statement.{Statement, roll-Statement}
use Rattle.euclid_ast.specs.declared.statement.Statement.TheFolds.{fold-roll-Statement, map-Statement, ind-Statement}
use Rattle.euclid_grammar.specs.Grammar.{Tree, Branch, Below, Leaf, Under, Trees, NoTree, MoreTrees, trees_of, tree_step, tree_of, statement_of, nested_of, statements_of}

-- what stands below the condition in the tree of a statement
abbrev pub trees_below : Option (List Statement) → Below
trees_below None = Leaf
trees_below (Some ss) = Under (trees_of (map tree_of ss))

-- The tree of a statement is the branch of its condition, with the trees of the nested statements below it.
pub tree-roll : (condition : List Comparison) (nested : Option (List Statement)) → tree_of (roll-Statement (record { condition = condition; nested = nested })) ≡ Branch condition (trees_below nested)
unfolding tree_of
tree-roll condition None = fold-roll-Statement Tree tree_step (record { condition = condition; nested = None })
tree-roll condition (Some ss) = fold-roll-Statement Tree tree_step (record { condition = condition; nested = Some ss })

-- ---- statements

abbrev IsOwn : Statement → Type 0
IsOwn s = statement_of (tree_of s) ≡ s

own_all : (ss : List ((s : Statement) × IsOwn s)) → statements_of (trees_of (map tree_of (map (λ e. e.0) ss))) ≡ map (λ e. e.0) ss
own_all [] = refl
own_all (e ∷ ss) =
    ap (λ (s : Statement). s ∷ statements_of (trees_of (map tree_of (map (λ (e : (s : Statement) × IsOwn s). e.0) ss)))) e.1
    ∙ ap (λ (rest : List Statement). e.0 ∷ rest) (own_all ss)

own_roll : (condition : List Comparison) (nested : Option (List ((s : Statement) × IsOwn s)))
    → IsOwn (roll-Statement (map-Statement ((s : Statement) × IsOwn s) Statement (λ e. e.0) (record { condition = condition; nested = nested })))
own_roll condition None = ap statement_of (tree-roll condition None)
own_roll condition (Some ss) =
    ap statement_of (tree-roll condition (Some (map (λ e. e.0) ss)))
    ∙ ap (λ (rest : List Statement). roll-Statement (record { condition = condition; nested = Some rest })) (own_all ss)

-- The statement of a statement's tree is that statement.
pub own : (s : Statement) → statement_of (tree_of s) ≡ s
own = ind-Statement IsOwn (λ x y is. subst (λ z. IsOwn (roll-Statement z)) is (own_roll y.condition y.nested))

-- So are those of a list.
pub owns : (ss : List Statement) → statements_of (trees_of (map tree_of ss)) ≡ ss
owns [] = refl
owns (s ∷ ss) = ap (λ (t : Statement). t ∷ statements_of (trees_of (map tree_of ss))) (own s) ∙ ap (λ (rest : List Statement). s ∷ rest) (owns ss)

-- What is nested is that of what stands below.
pub below-own : (nested : Option (List Statement)) → nested_of (trees_below nested) ≡ nested
below-own None = refl
below-own (Some ss) = ap (λ (rest : List Statement). Some rest) (owns ss)

-- ---- trees

mutual
  -- The tree of a tree's statement is that tree.
  pub tree-own : (t : Tree) → tree_of (statement_of t) ≡ t
  tree-own (Branch tests below) = tree-roll tests (nested_of below) ∙ ap (λ (b : Below). Branch tests b) (trees_below-own below)

  -- What stands below is that of what is nested.
  pub trees_below-own : (b : Below) → trees_below (nested_of b) ≡ b
  trees_below-own Leaf = refl
  trees_below-own (Under trees) = ap (λ (ts : Trees). Under ts) (trees-own trees)

  -- So are those of a list.
  pub trees-own : (ts : Trees) → trees_of (map tree_of (statements_of ts)) ≡ ts
  trees-own NoTree = refl
  trees-own (MoreTrees first others) =
      ap (λ (t : Tree). MoreTrees t (trees_of (map tree_of (statements_of others)))) (tree-own first) ∙ ap (λ (ts : Trees). MoreTrees first ts) (trees-own others)
