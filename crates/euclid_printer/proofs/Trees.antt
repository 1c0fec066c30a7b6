-- Within the limits, the tree of what the text form can say is a program of the grammar.
use Rattle.std.proofs.Common.{◌≡◌, List, [], ◌∷◌, ◌&&◌, pos, int_le, nat_le, true, map, Option, Some, None, refl, ap, sym, ◌∙◌, subst}
use Rattle.std.specs.List.{list_all}
use Rattle.std.proofs.lemmas.Bool.{and_from, and_parts}
use Rattle.key_table.specs.Integers.{is_signed}
use Rattle.key_table.specs.Names.{is_word}
use Rattle.euclid_lexer.specs.Pieces.{is_quotable}
use Rattle.euclid_ast.specs.declared.statement.ValueForm.{ValueForm}
use Rattle.euclid_ast.specs.declared.statement.ValueForm.TheVariants.{Number, Variant, Metadata, Str, Numbers, Variants, NumberTests}
use Rattle.euclid_ast.specs.declared.statement.Comparison.{Comparison}
use Rattle.euclid_ast.specs.declared.statement.Statement.{Statement, roll-Statement}
use Rattle.euclid_ast.specs.declared.statement.Statement.TheFolds.{map-Statement, ind-Statement}
use Rattle.euclid_ast.specs.declared.selection.Share.{Share}
use Rattle.euclid_ast.specs.declared.selection.Selection.{Selection}
use Rattle.euclid_ast.specs.declared.selection.Selection.TheVariants.{Priority, Volume, SurchargeFixed, SurchargeRate, Auth, Nothing}
use Rattle.euclid_ast.specs.declared.program.Rule.{Rule}
use Rattle.euclid_ast.specs.declared.program.Program.{Program}
use Rattle.euclid_ast.specs.Limits as limit
use Rattle.euclid_ast.specs.Limits.{IsWithinLimits, is_few}
use Rattle.euclid_grammar.specs.Fits.{is_filled, has_items, has_tree, is_tree, is_below, are_trees, in_range, is_rule_tree, is_program}
use Rattle.euclid_grammar.specs.Grammar.{trees_of, tree_of, rule_quoted, quoted}
use Rattle.euclid_grammar.specs.OwnTrees.{trees_below, tree-roll}
use Rattle.euclid_printer.specs.Expressible.{says_value, says_comparison, says_statement, says_selection, says_rule}
use Rattle.euclid_printer.proofs.Statements.{nested_said, says_statement-roll}
use Rattle.euclid_printer.proofs.Written.{IsSaid}

value_items : (v : ValueForm) → says_value v ≡ true → has_items v ≡ true
value_items (Number z) h = refl
value_items (Variant w) h = refl
value_items (Metadata key value) h = refl
value_items (Str s) h = refl
value_items (Numbers zs) h = h
value_items (Variants ws) h = (and_parts (is_filled ws) (list_all is_word ws) h).0
value_items (NumberTests ts) h = h

comparisons_items : (cs : List Comparison) → list_all says_comparison cs ≡ true → list_all (λ (c : Comparison). has_items c.value) cs ≡ true
comparisons_items [] h = refl
comparisons_items (c ∷ cs) h =
    let parts = and_parts (says_comparison c) (list_all says_comparison cs) h in
    and_from _ _ (value_items c.value (and_parts (is_word c.lhs) (says_value c.value) parts.0).1) (comparisons_items cs parts.1)

abbrev IsGood : Statement → Type 0
IsGood s = says_statement s ≡ true → is_tree (tree_of s) ≡ true

good_all : (ss : List ((s : Statement) × IsGood s)) → list_all says_statement (map (λ e. e.0) ss) ≡ true → are_trees (trees_of (map tree_of (map (λ e. e.0) ss))) ≡ true
good_all [] h = refl
good_all (e ∷ ss) h =
    let parts = and_parts (says_statement e.0) (list_all says_statement (map (λ (e : (s : Statement) × IsGood s). e.0) ss)) h in and_from _ _ (e.1 parts.0) (good_all ss parts.1)

abbrev alone : Option (List ((s : Statement) × IsGood s)) → Option (List Statement)
alone None = None
alone (Some ss) = Some (map (λ e. e.0) ss)

filled_trees : (ss : List Statement) → is_filled ss ≡ true → has_tree (trees_of (map tree_of ss)) ≡ true
filled_trees [] h = h
filled_trees (s ∷ ss) h = refl

below_good : (nested : Option (List ((s : Statement) × IsGood s))) → nested_said (alone nested) ≡ true → is_below (trees_below (alone nested)) ≡ true
below_good None h = refl
below_good (Some ss) h =
    let all = map (λ (e : (s : Statement) × IsGood s). e.0) ss in
    let parts = and_parts (is_filled all) (list_all says_statement all) h in
    and_from _ _ (filled_trees all parts.0) (good_all ss parts.1)

statement_good : (condition : List Comparison) (nested : Option (List ((s : Statement) × IsGood s))) → IsGood (roll-Statement (record { condition = condition; nested = alone nested }))
statement_good condition nested = λ h.
    let parts = and_parts (is_filled condition && list_all says_comparison condition) (nested_said (alone nested)) (sym (says_statement-roll condition (alone nested)) ∙ h) in
    let tests = and_parts (is_filled condition) (list_all says_comparison condition) parts.0 in
    ap is_tree (tree-roll condition (alone nested)) ∙ and_from _ _ (and_from _ _ tests.0 (comparisons_items condition tests.1)) (below_good nested parts.1)

good_roll : (condition : List Comparison) (nested : Option (List ((s : Statement) × IsGood s)))
    → IsGood (roll-Statement (map-Statement ((s : Statement) × IsGood s) Statement (λ e. e.0) (record { condition = condition; nested = nested })))
good_roll condition None = statement_good condition None
good_roll condition (Some ss) = statement_good condition (Some ss)

good : (s : Statement) → IsGood s
good = ind-Statement IsGood (λ x y is. subst (λ z. IsGood (roll-Statement z)) is (good_roll y.condition y.nested))

goods : (ss : List Statement) → list_all says_statement ss ≡ true → are_trees (trees_of (map tree_of ss)) ≡ true
goods [] h = refl
goods (s ∷ ss) h = let parts = and_parts (says_statement s) (list_all says_statement ss) h in and_from _ _ (good s parts.0) (goods ss parts.1)

-- ---- rules and programs

shares_ranged : (shares : List Share) → list_all limit.is_share shares ≡ true → list_all (λ (s : Share). nat_le s.split 255) shares ≡ true
shares_ranged [] h = refl
shares_ranged (s ∷ ss) h =
    let parts = and_parts (limit.is_share s) (list_all limit.is_share ss) h in
    and_from _ _ (and_parts (limit.is_account s.account) (nat_le s.split 255) parts.0).1 (shares_ranged ss parts.1)

selection_ranged : (s : Selection) → limit.is_selection s ≡ true → in_range s ≡ true
selection_ranged (Priority accounts) h = refl
selection_ranged (Volume shares) h = shares_ranged shares (and_parts (is_few shares) (list_all limit.is_share shares) h).1
selection_ranged (SurchargeFixed z) h = (and_parts (int_le (pos 0) z) (is_signed z) h).0
selection_ranged (SurchargeRate n) h = h
selection_ranged (Auth decision) h = refl
selection_ranged Nothing h = refl

rules_good : (rs : List Rule) → list_all says_rule rs ≡ true → list_all (λ (r : Rule). limit.is_selection r.selection) rs ≡ true → list_all is_rule_tree (map rule_quoted rs) ≡ true
rules_good [] s h = refl
rules_good (r ∷ rs) s h =
    let said = and_parts (says_rule r) (list_all says_rule rs) s in
    let amounts = and_parts (limit.is_selection r.selection) (list_all (λ (r : Rule). limit.is_selection r.selection) rs) h in
    let parts = and_parts (says_selection r.selection) (list_all says_statement r.statements) (and_parts (is_quotable r.name) _ said.0).1 in
    and_from _ _ (and_from _ _ (selection_ranged r.selection amounts.0) (goods r.statements parts.1)) (rules_good rs said.1 amounts.1)

pub program_good : (p : Program) → IsSaid p → IsWithinLimits p → is_program (quoted p) ≡ true
program_good p said within = and_from _ _ (selection_ranged p.default_selection within.default) (rules_good p.rules said.rules within.selections)
