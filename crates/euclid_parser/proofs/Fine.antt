-- What has a spelling by facts has one by tests, and the other way.
use Rattle.std.proofs.Common.{◌≡◌, Bool, true, ◌&&◌, List, [], ◌∷◌, refl, arith}
use Rattle.std.specs.List.{list_all}
use Rattle.std.proofs.lemmas.Bool.{and_from, and_parts}
use Rattle.euclid_ast.specs.declared.statement.ValueForm.{ValueForm}
use Rattle.euclid_ast.specs.declared.statement.ValueForm.TheVariants.{Number, Variant, Metadata, Str, Numbers, Variants, NumberTests}
use Rattle.euclid_ast.specs.declared.statement.Comparison.{Comparison}
use Rattle.euclid_ast.specs.declared.selection.Share.{Share}
use Rattle.euclid_ast.specs.declared.selection.Selection.{Selection}
use Rattle.euclid_ast.specs.declared.selection.Selection.TheVariants.{Priority, Volume, SurchargeFixed, SurchargeRate, Auth, Nothing}
use Rattle.euclid_grammar.specs.Fits.{is_filled}
use Rattle.euclid_grammar.specs.Marks.{tokens}
use Rattle.std.specs.Prelude.{nat_le}
use Rattle.euclid_grammar.specs.Grammar.{Tree, Branch, Below, Leaf, Under, Trees, NoTree, MoreTrees, RuleTree, ProgramTree, cells}
use Rattle.euclid_grammar.specs.Fits.{has_items, has_tree, is_tree, is_below, are_trees, in_range, is_rule_tree, is_program}
use Rattle.euclid_parser.specs.Reading.{is_name_token, program_tree_reader}
use Rattle.euclid_parser.proofs.Explained.{respelled}
use Rattle.euclid_parser.proofs.Readers.{IsReader}
use Rattle.euclid_parser.proofs.Many.{AllFine}
use Rattle.euclid_parser.proofs.ReadTokens.{Anything}
use Rattle.euclid_parser.proofs.Separated.{AllFilled}
use Rattle.euclid_parser.proofs.ReadValues.{IsValue, IsComparison}
use Rattle.euclid_parser.proofs.ReadSelections.{IsShare, IsSelection}
use Rattle.euclid_parser.proofs.ReadStatements.{HasTree, IsTree, IsBelow, AreTrees}
use Rattle.euclid_parser.proofs.ReadPrograms as facts

filled : {X : Type 0} (x : X) (xs : List X) → is_filled (x ∷ xs) ≡ true
filled x xs = grind arith

module _ {X : Type 0} (g : X → Type 0) (b : X → Bool) where
  all_to : ((x : X) → g x → b x ≡ true) → (xs : List X) → AllFine g xs → list_all b xs ≡ true
  all_to to [] fine = refl
  all_to to (x ∷ xs) fine = and_from _ _ (to x fine.0) (all_to to xs fine.1)

  all_from : ((x : X) → b x ≡ true → g x) → (xs : List X) → list_all b xs ≡ true → AllFine g xs
  all_from from [] h = tt
  all_from from (x ∷ xs) h = let parts = and_parts (b x) (list_all b xs) h in (from x parts.0, all_from from xs parts.1)

  filled_to : ((x : X) → g x → b x ≡ true) → (xs : List X) → AllFilled g xs → (is_filled xs && list_all b xs) ≡ true
  filled_to to [] fine = absurd fine
  filled_to to (x ∷ xs) fine = and_from _ _ (filled x xs) (and_from _ _ (to x fine.0) (all_to to xs fine.1))

  filled_from : ((x : X) → b x ≡ true → g x) → (xs : List X) → (is_filled xs && list_all b xs) ≡ true → AllFilled g xs
  filled_from from [] h = absurd cc
  filled_from from (x ∷ xs) h = let parts = and_parts (b x) (list_all b xs) (and_parts (is_filled (x ∷ xs)) (b x && list_all b xs) h).1 in (from x parts.0, all_from from xs parts.1)

some_to : {X : Type 0} (xs : List X) → AllFilled {X = X} Anything xs → is_filled xs ≡ true
some_to [] fine = absurd fine
some_to (x ∷ xs) fine = filled x xs

anything : {X : Type 0} (xs : List X) → AllFine {X = X} Anything xs
anything [] = tt
anything (x ∷ xs) = (tt, anything xs)

some_from : {X : Type 0} (xs : List X) → is_filled xs ≡ true → AllFilled {X = X} Anything xs
some_from [] h = absurd cc
some_from (x ∷ xs) h = (tt, anything xs)

value_to : (v : ValueForm) → IsValue v → has_items v ≡ true
value_to (Number z) fine = refl
value_to (Variant w) fine = refl
value_to (Metadata k v) fine = refl
value_to (Str s) fine = refl
value_to (Numbers zs) fine = some_to zs fine
value_to (Variants ws) fine = some_to ws fine
value_to (NumberTests ts) fine = some_to ts fine

value_from : (v : ValueForm) → has_items v ≡ true → IsValue v
value_from (Number z) h = tt
value_from (Variant w) h = tt
value_from (Metadata k v) h = tt
value_from (Str s) h = tt
value_from (Numbers zs) h = some_from zs h
value_from (Variants ws) h = some_from ws h
value_from (NumberTests ts) h = some_from ts h

abbrev full : Comparison → Bool
full c = has_items c.value

has_tree_to : (ts : Trees) → HasTree ts → has_tree ts ≡ true
has_tree_to NoTree fine = absurd fine
has_tree_to (MoreTrees first others) fine = refl

has_tree_from : (ts : Trees) → has_tree ts ≡ true → HasTree ts
has_tree_from NoTree h = absurd cc
has_tree_from (MoreTrees first others) h = tt

mutual
  tree_to : (t : Tree) → IsTree t → is_tree t ≡ true
  tree_to (Branch tests below) fine = and_from _ _ (filled_to IsComparison full (λ c. value_to c.value) tests fine.0) (below_to below fine.1)

  below_to : (b : Below) → IsBelow b → is_below b ≡ true
  below_to Leaf fine = refl
  below_to (Under ts) fine = and_from _ _ (has_tree_to ts fine.0) (trees_to ts fine.1)

  trees_to : (ts : Trees) → AreTrees ts → are_trees ts ≡ true
  trees_to NoTree fine = refl
  trees_to (MoreTrees first others) fine = and_from _ _ (tree_to first fine.0) (trees_to others fine.1)

mutual
  tree_from : (t : Tree) → is_tree t ≡ true → IsTree t
  tree_from (Branch tests below) h =
      let parts = and_parts (is_filled tests && list_all full tests) (is_below below) h in (filled_from IsComparison full (λ c. value_from c.value) tests parts.0, below_from below parts.1)

  below_from : (b : Below) → is_below b ≡ true → IsBelow b
  below_from Leaf h = tt
  below_from (Under ts) h = let parts = and_parts (has_tree ts) (are_trees ts) h in (has_tree_from ts parts.0, trees_from ts parts.1)

  trees_from : (ts : Trees) → are_trees ts ≡ true → AreTrees ts
  trees_from NoTree h = tt
  trees_from (MoreTrees first others) h = let parts = and_parts (is_tree first) (are_trees others) h in (tree_from first parts.0, trees_from others parts.1)

abbrev small : Share → Bool
small s = nat_le s.split 255

selection_to : (s : Selection) → IsSelection s → in_range s ≡ true
selection_to (Priority accounts) fine = refl
selection_to (Volume shares) fine = all_to IsShare small (λ s h. h) shares fine
selection_to (SurchargeFixed z) fine = fine
selection_to (SurchargeRate n) fine = fine
selection_to (Auth secure) fine = refl
selection_to Nothing fine = refl

selection_from : (s : Selection) → in_range s ≡ true → IsSelection s
selection_from (Priority accounts) h = tt
selection_from (Volume shares) h = all_from IsShare small (λ s h. h) shares h
selection_from (SurchargeFixed z) h = h
selection_from (SurchargeRate n) h = h
selection_from (Auth secure) h = tt
selection_from Nothing h = tt

rule_to : (r : RuleTree) → facts.IsRule r → is_rule_tree r ≡ true
rule_to r fine = and_from _ _ (selection_to r.selection fine.0) (trees_to r.trees fine.1)

rule_from : (r : RuleTree) → is_rule_tree r ≡ true → facts.IsRule r
rule_from r h = let parts = and_parts (in_range r.selection) (are_trees r.trees) h in (selection_from r.selection parts.0, trees_from r.trees parts.1)

-- by the test of the grammar
abbrev pub Fits : ProgramTree → Type 0
Fits p = is_program p ≡ true

program_to : (p : ProgramTree) → facts.IsFineProgram p → Fits p
program_to p fine = and_from _ _ (selection_to p.default fine.0) (all_to facts.IsRule is_rule_tree rule_to p.rules fine.1)

program_from : (p : ProgramTree) → Fits p → facts.IsFineProgram p
program_from p h =
    let parts = and_parts (in_range p.default) (list_all is_rule_tree p.rules) h in (selection_from p.default parts.0, all_from facts.IsRule is_rule_tree rule_from p.rules parts.1)

pub program_reads : IsReader cells Fits is_name_token program_tree_reader
program_reads = record {
  some = facts.program_reads.some;
  some_fine = program_to facts.program_reads.some facts.program_reads.some_fine;
  some_written = facts.program_reads.some_written;
  explains = λ c ts.
      respelled (λ (p : ProgramTree). tokens (cells p)) (λ (p : ProgramTree). tokens (cells p)) facts.IsFineProgram Fits (program_tree_reader c) ts (program_tree_reader c ts)
      (λ p fine. (program_to p fine, refl)) (facts.program_reads.explains c ts);
  walks = λ c p w fine e. facts.program_reads.walks c p w (program_from p fine) e;
}
