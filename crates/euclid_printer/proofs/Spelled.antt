-- The printed layout has the tokens that the grammar spells.
use Rattle.std.proofs.Common.{◌≡◌, ℕ, suc, ◌+◌, List, [], ◌∷◌, ◌++◌, length, map, Option, Some, None, refl, ap, sym, ◌∙◌, subst}
use Rattle.std.specs.Prelude.{codes}
use Rattle.std.specs.List.{flat_map}
use Rattle.euclid_lexer.specs.declared.token.Token.{Token}
use Rattle.euclid_lexer.specs.declared.token.Token.TheVariants as token
use Rattle.euclid_lexer.specs.declared.token.Sign.TheVariants.{Colon, SquareOpen, SquareClose, CurlyOpen, CurlyClose, RoundOpen, RoundClose, Comma, Ampersand}
use Rattle.euclid_lexer.specs.Pieces.{Piece, Spelled, White, token_text, tokens_in, placed_in}
use Rattle.euclid_printer.proofs.Pieces.{tokens_in-append}
use Rattle.euclid_ast.specs.declared.statement.ValueForm.{ValueForm}
use Rattle.euclid_ast.specs.declared.statement.ValueForm.TheVariants.{Number, Variant, Metadata, Str, Numbers, Variants, NumberTests}
use Rattle.euclid_ast.specs.declared.statement.Comparison.{Comparison}
use Rattle.euclid_ast.specs.declared.statement.Statement.{Statement, roll-Statement}
use Rattle.euclid_ast.specs.declared.statement.Statement.TheFolds.{map-Statement, ind-Statement}
use Rattle.euclid_ast.specs.declared.selection.Account.{Account}
use Rattle.euclid_ast.specs.declared.selection.Share.{Share}
use Rattle.euclid_ast.specs.declared.selection.Selection.{Selection}
use Rattle.euclid_ast.specs.declared.selection.Selection.TheVariants.{Priority, Volume, SurchargeFixed, SurchargeRate, Auth, Nothing}
use Rattle.euclid_ast.specs.declared.program.Rule.{Rule}
use Rattle.euclid_ast.specs.declared.program.Program.{Program}
use Rattle.euclid_printer.specs.Values.{sign_piece, joined, comma, in_brackets, listed, number_item, variant_item, test_item, value_pieces, id_pieces, account_item, share_item, selection_pieces}
use Rattle.euclid_printer.specs.Layout.{comparison_pieces, condition_pieces, ampersand, statement_pieces, statements_pieces, rule_pieces, program_pieces}
use Rattle.euclid_printer.proofs.Statements.{nested_printed, statement_pieces-roll}
use Rattle.euclid_grammar.specs.Marks.{Mark, BeginsItem, Cell, tokens, beginning}
use Rattle.euclid_grammar.specs.Grammar.{Tree, sign, op_sign, behind_commas, with_commas, number_cells, word_cells, test_cells, value_cells, comparison_cells, behind_ampersands, condition_cells, tree_cells, below_cells, trees_cells, id_cells, account_cells, share_cells, selection_cells, rule_cells, rules_cells, spell, trees_of, tree_of, rule_quoted, quoted}
use Rattle.euclid_grammar.specs.OwnTrees.{trees_below, tree-roll}
use Rattle.euclid_grammar.specs.Texts.{tokens_alone}

tokens-append : (xs ys : List Cell) → tokens (xs ++ ys) ≡ tokens xs ++ tokens ys
tokens-append [] ys = refl
tokens-append (x ∷ xs) ys = ap (λ (u : List Token). x.token ∷ u) (tokens-append xs ys)

tokens-beginning : (m : Mark) (qs : List Cell) → tokens (beginning m qs) ≡ tokens qs
tokens-beginning m [] = refl
tokens-beginning m (q ∷ qs) = refl

-- two lists in parts, with the same tokens
both : (xs ys : List Cell) (ps qs : List Piece) → tokens xs ≡ tokens_in ps → tokens ys ≡ tokens_in qs → tokens (xs ++ ys) ≡ tokens_in (ps ++ qs)
both xs ys ps qs a b = tokens-append xs ys ∙ ap (λ (u : List Token). u ++ tokens ys) a ∙ ap (λ (u : List Token). tokens_in ps ++ u) b ∙ sym (tokens_in-append ps qs)

-- ---- lists with commas

behind_same : {X : Type 0} (item : X → List Cell) (piece : X → List Piece) → ((x : X) → tokens (item x) ≡ tokens_in (piece x)) → (i : ℕ) (xs : List X)
    → tokens (behind_commas item i xs) ≡ tokens_in (flat_map (λ x. comma ++ piece x) xs)
behind_same item piece each i [] = refl
behind_same item piece each i (x ∷ xs) =
    ap (λ (u : List Token). token.Sign Comma ∷ u)
    (both (beginning (BeginsItem i) (item x)) (behind_commas item (suc i) xs) (piece x) (flat_map (λ x. comma ++ piece x) xs) (tokens-beginning (BeginsItem i) (item x) ∙ each x) (behind_same item piece each (suc i) xs))

commas_same : {X : Type 0} (item : X → List Cell) (piece : X → List Piece) → ((x : X) → tokens (item x) ≡ tokens_in (piece x)) → (xs : List X) → tokens (with_commas item xs) ≡ tokens_in (joined comma piece xs)
commas_same item piece each [] = refl
commas_same item piece each (x ∷ xs) =
    both (beginning (BeginsItem 0) (item x)) (behind_commas item 1 xs) (piece x) (flat_map (λ x. comma ++ piece x) xs) (tokens-beginning (BeginsItem 0) (item x) ∙ each x) (behind_same item piece each 1 xs)

brackets_same : {X : Type 0} (item : X → List Cell) (piece : X → List Piece) → ((x : X) → tokens (item x) ≡ tokens_in (piece x)) → (xs : List X)
    → tokens (sign RoundOpen ∷ (with_commas item xs ++ sign RoundClose ∷ [])) ≡ tokens_in (in_brackets piece xs)
brackets_same item piece each xs =
    ap (λ (u : List Token). token.Sign RoundOpen ∷ u) (both (with_commas item xs) (sign RoundClose ∷ []) (joined comma piece xs) (sign_piece RoundClose ∷ []) (commas_same item piece each xs) refl)

listed_same : {X : Type 0} (item : X → List Cell) (piece : X → List Piece) → ((x : X) → tokens (item x) ≡ tokens_in (piece x)) → (xs : List X)
    → tokens (sign SquareOpen ∷ (with_commas item xs ++ sign SquareClose ∷ [])) ≡ tokens_in (listed piece xs)
listed_same item piece each xs =
    ap (λ (u : List Token). token.Sign SquareOpen ∷ u) (both (with_commas item xs) (sign SquareClose ∷ []) (joined comma piece xs) (sign_piece SquareClose ∷ []) (commas_same item piece each xs) refl)

-- ---- values and selections

value_same : (v : ValueForm) → tokens (value_cells v) ≡ tokens_in (value_pieces v)
value_same (Number z) = refl
value_same (Variant w) = refl
value_same (Metadata key value) = refl
value_same (Str s) = refl
value_same (Numbers zs) = brackets_same number_cells number_item (λ z. refl) zs
value_same (Variants ws) = brackets_same word_cells variant_item (λ w. refl) ws
value_same (NumberTests ts) = brackets_same test_cells test_item (λ t. refl) ts

comparison_same : (c : Comparison) → tokens (comparison_cells c) ≡ tokens_in (comparison_pieces c)
comparison_same c = ap (λ (u : List Token). token.Word c.lhs ∷ token.Sign (op_sign c.op) ∷ u) (value_same c.value)

behind_condition_same : (cs : List Comparison) → tokens (behind_ampersands cs) ≡ tokens_in (flat_map (λ (c : Comparison). ampersand ++ comparison_pieces c) cs)
behind_condition_same [] = refl
behind_condition_same (c ∷ cs) =
    ap (λ (u : List Token). token.Sign Ampersand ∷ u) (both (comparison_cells c) (behind_ampersands cs) (comparison_pieces c) (flat_map (λ (c : Comparison). ampersand ++ comparison_pieces c) cs) (comparison_same c) (behind_condition_same cs))

condition_same : (cs : List Comparison) → tokens (condition_cells cs) ≡ tokens_in (condition_pieces cs)
condition_same [] = refl
condition_same (c ∷ cs) = both (comparison_cells c) (behind_ampersands cs) (comparison_pieces c) (flat_map (λ (c : Comparison). ampersand ++ comparison_pieces c) cs) (comparison_same c) (behind_condition_same cs)

id_same : (id : Option (List ℕ)) → tokens (id_cells id) ≡ tokens_in (id_pieces id)
id_same None = refl
id_same (Some id) = refl

account_same : (a : Account) → tokens (account_cells a) ≡ tokens_in (account_item a)
account_same a = ap (λ (u : List Token). token.Str a.connector ∷ u) (id_same a.id)

share_same : (s : Share) → tokens (share_cells s) ≡ tokens_in (share_item s)
share_same s = both (account_cells s.account) _ (account_item s.account) _ (account_same s.account) refl

selection_same : (s : Selection) → tokens (selection_cells s) ≡ tokens_in (selection_pieces s)
selection_same (Priority accounts) = listed_same account_cells account_item account_same accounts
selection_same (Volume shares) = ap (λ (u : List Token). token.Word (codes "split") ∷ u) (listed_same share_cells share_item share_same shares)
selection_same (SurchargeFixed z) = refl
selection_same (SurchargeRate n) = refl
selection_same (Auth secure) = refl
selection_same Nothing = refl

-- ---- statements

abbrev IsSame : Statement → Type 0
IsSame s = (level other : ℕ) → tokens (tree_cells level (tree_of s)) ≡ tokens_in (statement_pieces s other)

same_all : (level other : ℕ) (ss : List ((s : Statement) × IsSame s)) → tokens (trees_cells level (trees_of (map tree_of (map (λ e. e.0) ss)))) ≡ tokens_in (statements_pieces other (map (λ e. e.0) ss))
same_all level other [] = refl
same_all level other (e ∷ ss) = both (tree_cells level (tree_of e.0)) _ (statement_pieces e.0 other) _ (e.1 level other) (same_all level other ss)

abbrev alone : Option (List ((s : Statement) × IsSame s)) → Option (List Statement)
alone None = None
alone (Some ss) = Some (map (λ e. e.0) ss)

below_same : (level other : ℕ) (nested : Option (List ((s : Statement) × IsSame s))) → tokens (below_cells level (trees_below (alone nested))) ≡ tokens_in (nested_printed other (alone nested))
below_same level other None = refl
below_same level other (Some ss) =
    ap (λ (u : List Token). token.Sign CurlyOpen ∷ u)
    (both (trees_cells level (trees_of (map tree_of (map (λ e. e.0) ss)))) (sign CurlyClose ∷ []) (statements_pieces (other + 1) (map (λ e. e.0) ss)) _ (same_all level (other + 1) ss) refl)

statement_same : (condition : List Comparison) (nested : Option (List ((s : Statement) × IsSame s))) → IsSame (roll-Statement (record { condition = condition; nested = alone nested }))
statement_same condition nested = λ level other.
    ap (λ (t : Tree). tokens (tree_cells level t)) (tree-roll condition (alone nested))
    ∙ tokens-beginning _ (condition_cells condition ++ below_cells (suc level) (trees_below (alone nested)))
    ∙ both (condition_cells condition) (below_cells (suc level) (trees_below (alone nested))) (condition_pieces condition) (nested_printed other (alone nested)) (condition_same condition) (below_same (suc level) other nested)
    ∙ sym (ap tokens_in (statement_pieces-roll condition (alone nested) other))

same_roll : (condition : List Comparison) (nested : Option (List ((s : Statement) × IsSame s)))
    → IsSame (roll-Statement (map-Statement ((s : Statement) × IsSame s) Statement (λ e. e.0) (record { condition = condition; nested = nested })))
same_roll condition None = statement_same condition None
same_roll condition (Some ss) = statement_same condition (Some ss)

tree_same : (s : Statement) → IsSame s
tree_same = ind-Statement IsSame (λ x y is. subst (λ z. IsSame (roll-Statement z)) is (same_roll y.condition y.nested))

trees_same : (level other : ℕ) (ss : List Statement) → tokens (trees_cells level (trees_of (map tree_of ss))) ≡ tokens_in (statements_pieces other ss)
trees_same level other [] = refl
trees_same level other (s ∷ ss) = both (tree_cells level (tree_of s)) _ (statement_pieces s other) _ (tree_same s level other) (trees_same level other ss)

-- ---- rules and programs

rule_same : (i : ℕ) (r : Rule) → tokens (rule_cells i (rule_quoted r)) ≡ tokens_in (rule_pieces r)
rule_same i r =
    ap (λ (u : List Token). token.Str r.name ∷ token.Sign Colon ∷ u)
    (both (selection_cells r.selection) _ (selection_pieces r.selection) _ (selection_same r.selection)
    (ap (λ (u : List Token). token.Sign CurlyOpen ∷ u) (both (trees_cells 1 (trees_of (map tree_of r.statements))) (sign CurlyClose ∷ []) (statements_pieces 1 r.statements) _ (trees_same 1 1 r.statements) refl)))

rules_same : (i : ℕ) (rs : List Rule) → tokens (rules_cells i (map rule_quoted rs)) ≡ tokens_in (flat_map rule_pieces rs)
rules_same i [] = refl
rules_same i (r ∷ rs) = both (rule_cells i (rule_quoted r)) _ (rule_pieces r) _ (rule_same i r) (rules_same (suc i) rs)

program_same : (p : Program) → spell (quoted p) ≡ tokens_in (program_pieces p)
program_same p =
    ap (λ (u : List Token). token.Word (codes "default") ∷ token.Sign Colon ∷ u) (both (selection_cells p.default_selection) _ (selection_pieces p.default_selection) _ (selection_same p.default_selection) (rules_same 0 p.rules))

placed-alone : (at : ℕ) (qs : List Piece) → tokens_alone (placed_in at qs) ≡ tokens_in qs
placed-alone at [] = refl
placed-alone at (Spelled t ∷ qs) = ap (λ (u : List Token). t ∷ u) (placed-alone (at + length (token_text t)) qs)
placed-alone at (White bytes ∷ qs) = placed-alone (at + length bytes) qs

-- The tokens of a printed program spell it, the names of its rules in quotes.
pub program_spells : (p : Program) → tokens_alone (placed_in 0 (program_pieces p)) ≡ spell (quoted p)
program_spells p = placed-alone 0 (program_pieces p) ∙ sym (program_same p)
