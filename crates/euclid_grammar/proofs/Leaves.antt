-- Values, comparisons, conditions and selections are within the limits where their lists have few items.
use Rattle.std.proofs.Common.{◌≡◌, ℕ, pos, true, Bool, List, [], ◌∷◌, ◌++◌, length, codes, Option, Some, None, refl, arith}
use Rattle.std.specs.List.{list_all}
use Rattle.std.proofs.lemmas.Bool.{and_parts, and_from}
use Rattle.euclid_lexer.specs.declared.token.Token.{Token}
use Rattle.euclid_lexer.specs.declared.token.Token.TheVariants as token
use Rattle.euclid_lexer.specs.declared.token.Sign.TheVariants.{Colon, SquareOpen, SquareClose, RoundOpen, RoundClose, Ampersand, AtSign, Percent}
use Rattle.euclid_ast.specs.declared.statement.ValueForm.{ValueForm}
use Rattle.euclid_ast.specs.declared.statement.ValueForm.TheVariants.{Number, Variant, Metadata, Str, Numbers, Variants, NumberTests}
use Rattle.euclid_ast.specs.declared.statement.Comparison.{Comparison}
use Rattle.euclid_ast.specs.declared.selection.Account.{Account}
use Rattle.euclid_ast.specs.declared.selection.Share.{Share}
use Rattle.euclid_ast.specs.declared.selection.Selection.{Selection}
use Rattle.euclid_ast.specs.declared.selection.Selection.TheVariants.{Priority, Volume, SurchargeFixed, SurchargeRate, Auth, Nothing}
use Rattle.euclid_ast.specs.Limits.{is_few}
use Rattle.euclid_grammar.specs.Marks.{BeginsComparison, Cell, plain}
use Rattle.euclid_grammar.specs.Grammar.{sign, str, word, number, op_sign, with_commas, number_cells, word_cells, test_cells, value_cells, comparison_cells, behind_ampersands, condition_cells, id_cells, account_cells, share_cells, secure_word, selection_cells}
use Rattle.euclid_grammar.proofs.Measured.{counted, none, both, same_counts, IsMeasured, measured_none, measured_as, measured_plain, measured_append, measured_closed, measured_beginning, comparison_marked}
use Rattle.euclid_grammar.proofs.Commas.{IsItem, list_measured}

-- whether the value has few items
abbrev pub has_few : ValueForm → Bool
has_few (Number z) = true
has_few (Variant w) = true
has_few (Metadata key value) = true
has_few (Str s) = true
has_few (Numbers zs) = is_few zs
has_few (Variants ws) = is_few ws
has_few (NumberTests ts) = is_few ts

-- whether the selection does
abbrev pub selects_few : Selection → Bool
selects_few (Priority accounts) = is_few accounts
selects_few (Volume shares) = is_few shares
selects_few (SurchargeFixed z) = true
selects_few (SurchargeRate n) = true
selects_few (Auth decision) = true
selects_few Nothing = true

-- a token alone
one_measured : (t : Token) → IsMeasured (plain t ∷ []) none (Unit {0})
one_measured t = measured_plain t [] none measured_none

-- cells that begin nothing, where nothing is asked
nothing_asked : (qs : List Cell) → IsMeasured qs none (Unit {0}) → IsMeasured qs none (true ≡ true)
nothing_asked qs m = measured_as qs none none m refl (λ _. refl) (λ _. tt)

-- ---- values

item_of : (t : Token) (qs : List Cell) → IsMeasured qs none (Unit {0}) → IsItem (plain t ∷ qs)
item_of t qs m = record { filled = tt; measured = measured_plain t qs none m }

bracketed : {X : Type 0} (item : X → List Cell) → ((x : X) → IsItem (item x)) → (xs : List X) → IsMeasured (sign RoundOpen ∷ (with_commas item xs ++ sign RoundClose ∷ [])) none (is_few xs ≡ true)
bracketed item each xs =
    measured_plain (token.Sign RoundOpen) (with_commas item xs ++ sign RoundClose ∷ []) none
    (measured_closed (with_commas item xs) (token.Sign RoundClose) none (list_measured item each xs))

value_measured : (v : ValueForm) → IsMeasured (value_cells v) none (has_few v ≡ true)
value_measured (Number z) = nothing_asked (number z ∷ []) (one_measured (token.Number z))
value_measured (Variant w) = nothing_asked (word w ∷ []) (one_measured (token.Word w))
value_measured (Metadata key value) =
    nothing_asked (str key ∷ sign Colon ∷ str value ∷ [])
    (measured_plain (token.Str key) (sign Colon ∷ str value ∷ []) none (measured_plain (token.Sign Colon) (str value ∷ []) none (one_measured (token.Str value))))
value_measured (Str s) = nothing_asked (str s ∷ []) (one_measured (token.Str s))
value_measured (Numbers zs) = bracketed number_cells (λ z. item_of (token.Number z) [] measured_none) zs
value_measured (Variants ws) = bracketed word_cells (λ w. item_of (token.Word w) [] measured_none) ws
value_measured (NumberTests ts) = bracketed test_cells (λ t. item_of (token.Sign (op_sign t.op)) (number t.number ∷ []) (one_measured (token.Number t.number))) ts

-- ---- comparisons

comparison_measured : (c : Comparison) → IsMeasured (comparison_cells c) (counted 0 1) (has_few c.value ≡ true)
comparison_measured c =
    let qs = word c.lhs ∷ sign (op_sign c.op) ∷ value_cells c.value in
    let inner : IsMeasured qs none (has_few c.value ≡ true) =
    measured_plain (token.Word c.lhs) (sign (op_sign c.op) ∷ value_cells c.value) none (measured_plain (token.Sign (op_sign c.op)) (value_cells c.value) none (value_measured c.value)) in
    measured_as (comparison_cells c) (both (counted 0 1) none) (counted 0 1) (measured_beginning BeginsComparison qs (counted 0 1) none tt comparison_marked inner) refl
    (λ (p : Unit {0} × (has_few c.value ≡ true)). p.1) (λ (p : has_few c.value ≡ true). (tt, p))

-- whether each comparison has few items
abbrev pub all_few : List Comparison → Bool
all_few cs = list_all (λ (c : Comparison). has_few c.value) cs

more_measured : (c : Comparison) (cs : List Comparison) (qs : List Cell) → IsMeasured qs (counted 0 (length cs)) (all_few cs ≡ true) → IsMeasured (comparison_cells c ++ qs) (counted 0 (length (c ∷ cs))) (all_few (c ∷ cs) ≡ true)
more_measured c cs qs m =
    measured_as (comparison_cells c ++ qs) (both (counted 0 1) (counted 0 (length cs))) (counted 0 (length (c ∷ cs))) (measured_append (comparison_cells c) qs (counted 0 1) (counted 0 (length cs)) (comparison_measured c) m)
    (same_counts _ _ refl (omega arith))
    (λ (p : (has_few c.value ≡ true) × (all_few cs ≡ true)). and_from (has_few c.value) (all_few cs) p.0 p.1) (and_parts (has_few c.value) (all_few cs))

behind_measured : (cs : List Comparison) → IsMeasured (behind_ampersands cs) (counted 0 (length cs)) (all_few cs ≡ true)
behind_measured [] = nothing_asked [] measured_none
behind_measured (c ∷ cs) =
    measured_plain (token.Sign Ampersand) (comparison_cells c ++ behind_ampersands cs) (counted 0 (length (c ∷ cs))) (more_measured c cs (behind_ampersands cs) (behind_measured cs))

pub condition_measured : (cs : List Comparison) → IsMeasured (condition_cells cs) (counted 0 (length cs)) (all_few cs ≡ true)
condition_measured [] = nothing_asked [] measured_none
condition_measured (c ∷ cs) = more_measured c cs (behind_ampersands cs) (behind_measured cs)

-- ---- selections

id_measured : (a : Account) → IsMeasured (id_cells a.id) none (Unit {0})
id_measured a = told a.id
  where
    told : (id : Option (List ℕ)) → IsMeasured (id_cells id) none (Unit {0})
    told None = measured_none
    told (Some id) = measured_plain (token.Sign AtSign) (str id ∷ []) none (one_measured (token.Str id))

account_item : (a : Account) → IsItem (account_cells a)
account_item a = item_of (token.Str a.connector) (id_cells a.id) (id_measured a)

share_item : (s : Share) → IsItem (share_cells s)
share_item s =
    let behind = sign Percent ∷ number (pos s.split) ∷ [] in
    let rest : IsMeasured behind none (Unit {0}) = measured_plain (token.Sign Percent) (number (pos s.split) ∷ []) none (one_measured (token.Number (pos s.split))) in
    let all : IsMeasured (id_cells s.account.id ++ behind) none (Unit {0} × Unit {0}) = measured_append (id_cells s.account.id) behind none none (id_measured s.account) rest in
    item_of (token.Str s.account.connector) (id_cells s.account.id ++ behind) (measured_as (id_cells s.account.id ++ behind) none none all refl (λ _. tt) (λ _. (tt, tt)))

listed : {X : Type 0} (item : X → List Cell) → ((x : X) → IsItem (item x)) → (xs : List X) → IsMeasured (sign SquareOpen ∷ (with_commas item xs ++ sign SquareClose ∷ [])) none (is_few xs ≡ true)
listed item each xs =
    measured_plain (token.Sign SquareOpen) (with_commas item xs ++ sign SquareClose ∷ []) none
    (measured_closed (with_commas item xs) (token.Sign SquareClose) none (list_measured item each xs))

pub selection_measured : (s : Selection) → IsMeasured (selection_cells s) none (selects_few s ≡ true)
selection_measured (Priority accounts) = listed account_cells account_item accounts
selection_measured (Volume shares) = measured_plain (token.Word (codes "split")) (sign SquareOpen ∷ (with_commas share_cells shares ++ sign SquareClose ∷ [])) none (listed share_cells share_item shares)
selection_measured (SurchargeFixed z) = nothing_asked (word (codes "surcharge") ∷ number z ∷ []) (measured_plain (token.Word (codes "surcharge")) (number z ∷ []) none (one_measured (token.Number z)))
selection_measured (SurchargeRate n) = nothing_asked (word (codes "rate") ∷ number (pos n) ∷ []) (measured_plain (token.Word (codes "rate")) (number (pos n) ∷ []) none (one_measured (token.Number (pos n))))
selection_measured (Auth decision) = nothing_asked (word (secure_word decision) ∷ []) (one_measured (token.Word (secure_word decision)))
selection_measured Nothing = nothing_asked (word (codes "none") ∷ []) (one_measured (token.Word (codes "none")))
