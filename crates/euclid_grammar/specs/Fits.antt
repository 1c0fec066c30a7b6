-- Which trees are programs of the grammar, and which of them are within the limits.
use Rattle.std.specs.Prelude.{◌+◌, pos, int_le, nat_le, List, [], ◌∷◌, length, Bool, true, false, ◌==◌, ◌&&◌, ◌||◌, not}
use Rattle.std.specs.List.{list_all}
use Rattle.euclid_ast.specs.declared.statement.ValueForm.{ValueForm}
use Rattle.euclid_ast.specs.declared.statement.ValueForm.TheVariants.{Number, Variant, Metadata, Str, Numbers, Variants, NumberTests}
use Rattle.euclid_ast.specs.declared.selection.Selection.{Selection}
use Rattle.euclid_ast.specs.declared.selection.Selection.TheVariants.{Priority, Volume, SurchargeFixed, SurchargeRate, Auth, Nothing}
use Rattle.euclid_grammar.specs.declared.counts.Counts.{Counts}
use Rattle.euclid_grammar.specs.Marks.{Mark, BeginsRule, BeginsStatement, BeginsComparison, BeginsItem, BeginsLevel}
use Rattle.euclid_grammar.specs.Grammar.{Tree, Branch, Below, Leaf, Under, Trees, NoTree, MoreTrees, RuleTree, ProgramTree}

-- ---- no list is empty that may not be, and a number is in its range

abbrev pub is_filled : {X : Type 0} → List X → Bool
is_filled xs = not (length xs == 0)

abbrev pub has_items : ValueForm → Bool
has_items (Number z) = true
has_items (Variant w) = true
has_items (Metadata key value) = true
has_items (Str s) = true
has_items (Numbers zs) = is_filled zs
has_items (Variants ws) = is_filled ws
has_items (NumberTests ts) = is_filled ts

abbrev pub has_tree : Trees → Bool
has_tree NoTree = false
has_tree (MoreTrees first others) = true

abbrev mutual
  pub is_tree : Tree → Bool
  is_tree (Branch tests below) = (is_filled tests && list_all (λ c. has_items c.value) tests) && is_below below

  pub is_below : Below → Bool
  is_below Leaf = true
  is_below (Under trees) = has_tree trees && are_trees trees

  pub are_trees : Trees → Bool
  are_trees NoTree = true
  are_trees (MoreTrees first others) = is_tree first && are_trees others

abbrev pub in_range : Selection → Bool
in_range (Priority accounts) = true
in_range (Volume shares) = list_all (λ s. nat_le s.split 255) shares
in_range (SurchargeFixed z) = int_le (pos 0) z
in_range (SurchargeRate n) = nat_le n 10000
in_range (Auth decision) = true
in_range Nothing = true

abbrev pub is_rule_tree : RuleTree → Bool
is_rule_tree r = in_range r.selection && are_trees r.trees

abbrev pub is_program : ProgramTree → Bool
is_program p = in_range p.default && list_all is_rule_tree p.rules

-- ---- no token begins one too many

-- nothing was begun
abbrev pub start : Counts
start = record { statements = 0; comparisons = 0 }

abbrev pub is_over : Counts → Mark → Bool
is_over counts (BeginsRule before) = nat_le 256 before
is_over counts BeginsStatement = nat_le 16384 counts.statements
is_over counts BeginsComparison = nat_le 16384 counts.comparisons
is_over counts (BeginsItem before) = nat_le 4096 before
is_over counts (BeginsLevel level) = nat_le 33 level

abbrev pub after_mark : Counts → Mark → Counts
after_mark counts BeginsStatement = record { statements = counts.statements + 1; comparisons = counts.comparisons }
after_mark counts BeginsComparison = record { statements = counts.statements; comparisons = counts.comparisons + 1 }
after_mark counts (BeginsRule before) = counts
after_mark counts (BeginsItem before) = counts
after_mark counts (BeginsLevel level) = counts

abbrev pub any_over : Counts → List Mark → Bool
any_over counts [] = false
any_over counts (m ∷ ms) = is_over counts m || any_over (after_mark counts m) ms

abbrev pub after_all : Counts → List Mark → Counts
after_all counts [] = counts
after_all counts (m ∷ ms) = after_all (after_mark counts m) ms
