-- What is written in the grammar has short texts, and numbers of 64 bits.
use Rattle.std.proofs.Common.{◌≡◌, ℕ, suc, ℤ, pos, int_le, nat_le, Bool, true, List, [], ◌∷◌, ◌++◌, codes, Option, Some, None, refl, ap, sym, ◌∙◌}
use Rattle.std.specs.List.{list_all}
use Rattle.std.specs.Option.{option_map_or}
use Rattle.std.specs.Str.{is_utf8}
use Rattle.std.proofs.lemmas.Bool.{and_parts, and_from}
use Rattle.std.proofs.lemmas.List.Folds.{list_all-append}
use Rattle.key_table.specs.Integers.{is_signed}
use Rattle.key_table.specs.Names.{is_word}
use Rattle.euclid_lexer.specs.declared.token.Token.{Token}
use Rattle.euclid_lexer.specs.declared.token.Token.TheVariants as token
use Rattle.euclid_lexer.specs.declared.token.Sign.TheVariants.{Colon, SquareOpen, SquareClose, RoundOpen, RoundClose, Comma, Ampersand, AtSign, Percent}
use Rattle.euclid_lexer.specs.Pieces.{token_text, is_quotable, has_text, can_be_written}
use Rattle.euclid_ast.specs.declared.statement.NumberTest.{NumberTest}
use Rattle.euclid_ast.specs.declared.statement.ValueForm.{ValueForm}
use Rattle.euclid_ast.specs.declared.statement.ValueForm.TheVariants.{Number, Variant, Metadata, Str, Numbers, Variants, NumberTests}
use Rattle.euclid_ast.specs.declared.statement.Comparison.{Comparison}
use Rattle.euclid_ast.specs.declared.selection.Account.{Account}
use Rattle.euclid_ast.specs.declared.selection.Share.{Share}
use Rattle.euclid_ast.specs.declared.selection.Selection.{Selection}
use Rattle.euclid_ast.specs.declared.selection.Selection.TheVariants.{Priority, Volume, SurchargeFixed, SurchargeRate, Auth, Nothing}
use Rattle.euclid_ast.specs.Limits.{is_short, is_few, is_account, is_share, is_selection, is_test, is_value, is_comparison}
use Rattle.euclid_grammar.specs.Marks.{Mark, BeginsItem, Cell, plain, tokens, beginning}
use Rattle.euclid_grammar.specs.Fits.{in_range}
use Rattle.euclid_grammar.specs.Grammar.{Name, Bare, Quoted, sign, str, number, op_sign, behind_commas, with_commas, number_cells, word_cells, test_cells, value_cells, comparison_cells, behind_ampersands, condition_cells, id_cells, account_cells, share_cells, selection_cells, name_token, text_of_name}
use Rattle.euclid_grammar.proofs.Leaves.{has_few, selects_few, all_few}

-- Each of these tokens can be written.
abbrev pub AreWritten : List Cell → Type 0
AreWritten qs = list_all can_be_written (tokens qs) ≡ true

pub first_written : (t : Token) (qs : List Cell) → AreWritten (plain t ∷ qs) → can_be_written t ≡ true
first_written t qs h = (and_parts (can_be_written t) (list_all can_be_written (tokens qs)) h).0

pub rest_written : (t : Token) (qs : List Cell) → AreWritten (plain t ∷ qs) → AreWritten qs
rest_written t qs h = (and_parts (can_be_written t) (list_all can_be_written (tokens qs)) h).1

tokens-append : (xs ys : List Cell) → tokens (xs ++ ys) ≡ tokens xs ++ tokens ys
tokens-append [] ys = refl
tokens-append (x ∷ xs) ys = ap (λ (u : List Token). x.token ∷ u) (tokens-append xs ys)

pub parts_written : (xs ys : List Cell) → AreWritten (xs ++ ys) → AreWritten xs × AreWritten ys
parts_written xs ys h =
    and_parts (list_all can_be_written (tokens xs)) (list_all can_be_written (tokens ys))
    (sym (list_all-append can_be_written (tokens xs) (tokens ys)) ∙ ap (list_all can_be_written) (sym (tokens-append xs ys)) ∙ h)

pub begun_written : (m : Mark) (qs : List Cell) → AreWritten (beginning m qs) → AreWritten qs
begun_written m [] h = h
begun_written m (q ∷ qs) h = h

-- ---- tokens

word_short : (w : List ℕ) → can_be_written (token.Word w) ≡ true → is_short w ≡ true
word_short w h = (and_parts (is_word w) (is_short w) (and_parts (has_text (token.Word w)) (is_utf8 (token_text (token.Word w))) h).0).1

str_short : (s : List ℕ) → can_be_written (token.Str s) ≡ true → is_short s ≡ true
str_short s h = (and_parts (is_quotable s) (is_short s) (and_parts (has_text (token.Str s)) (is_utf8 (token_text (token.Str s))) h).0).1

number_signed : (z : ℤ) → can_be_written (token.Number z) ≡ true → is_signed z ≡ true
number_signed z h = (and_parts (has_text (token.Number z)) (is_utf8 (token_text (token.Number z))) h).0

-- ---- lists

module _ {X : Type 0} (item : X → List Cell) (fits : X → Bool) (each : (x : X) → AreWritten (item x) → fits x ≡ true) where
  behind_fit : (i : ℕ) (xs : List X) → AreWritten (behind_commas item i xs) → list_all fits xs ≡ true
  behind_fit i [] h = refl
  behind_fit i (x ∷ xs) h =
      let parts = parts_written (beginning (BeginsItem i) (item x)) (behind_commas item (suc i) xs) (rest_written (token.Sign Comma) (beginning (BeginsItem i) (item x) ++ behind_commas item (suc i) xs) h) in
      and_from (fits x) (list_all fits xs) (each x (begun_written (BeginsItem i) (item x) parts.0)) (behind_fit (suc i) xs parts.1)

  commas_fit : (xs : List X) → AreWritten (with_commas item xs) → list_all fits xs ≡ true
  commas_fit [] h = refl
  commas_fit (x ∷ xs) h =
      let parts = parts_written (beginning (BeginsItem 0) (item x)) (behind_commas item 1 xs) h in
      and_from (fits x) (list_all fits xs) (each x (begun_written (BeginsItem 0) (item x) parts.0)) (behind_fit 1 xs parts.1)

  -- between two brackets
  list_fits : (before behind : Token) (xs : List X) → AreWritten (plain before ∷ (with_commas item xs ++ plain behind ∷ [])) → list_all fits xs ≡ true
  list_fits before behind xs h = commas_fit xs (parts_written (with_commas item xs) (plain behind ∷ []) (rest_written before (with_commas item xs ++ plain behind ∷ []) h)).0

-- ---- values and comparisons

number_fits : (z : ℤ) → AreWritten (number_cells z) → is_signed z ≡ true
number_fits z h = number_signed z (first_written (token.Number z) [] h)

word_fits : (w : List ℕ) → AreWritten (word_cells w) → is_short w ≡ true
word_fits w h = word_short w (first_written (token.Word w) [] h)

str_fits : (s : List ℕ) (qs : List Cell) → AreWritten (str s ∷ qs) → is_short s ≡ true
str_fits s qs h = str_short s (first_written (token.Str s) qs h)

test_fits : (t : NumberTest) → AreWritten (test_cells t) → is_test t ≡ true
test_fits t h = number_fits t.number (rest_written (token.Sign (op_sign t.op)) (number t.number ∷ []) h)

value_fits : (v : ValueForm) → AreWritten (value_cells v) → has_few v ≡ true → is_value v ≡ true
value_fits (Number z) h few = number_fits z h
value_fits (Variant w) h few = word_fits w h
value_fits (Metadata key value) h few =
    and_from (is_short key) (is_short value) (str_fits key (sign Colon ∷ str value ∷ []) h)
    (str_fits value [] (rest_written (token.Sign Colon) (str value ∷ []) (rest_written (token.Str key) (sign Colon ∷ str value ∷ []) h)))
value_fits (Str s) h few = str_fits s [] h
value_fits (Numbers zs) h few = and_from (is_few zs) (list_all is_signed zs) few (list_fits number_cells is_signed number_fits (token.Sign RoundOpen) (token.Sign RoundClose) zs h)
value_fits (Variants ws) h few = and_from (is_few ws) (list_all is_short ws) few (list_fits word_cells is_short word_fits (token.Sign RoundOpen) (token.Sign RoundClose) ws h)
value_fits (NumberTests ts) h few = and_from (is_few ts) (list_all is_test ts) few (list_fits test_cells is_test test_fits (token.Sign RoundOpen) (token.Sign RoundClose) ts h)

comparison_fits : (c : Comparison) → AreWritten (comparison_cells c) → has_few c.value ≡ true → is_comparison c ≡ true
comparison_fits c h few =
    let behind = sign (op_sign c.op) ∷ value_cells c.value in
    and_from (is_short c.lhs) (is_value c.value) (word_short c.lhs (first_written (token.Word c.lhs) behind h))
    (value_fits c.value (rest_written (token.Sign (op_sign c.op)) (value_cells c.value) (rest_written (token.Word c.lhs) behind h)) few)

behind_fits : (cs : List Comparison) → AreWritten (behind_ampersands cs) → all_few cs ≡ true → list_all is_comparison cs ≡ true
behind_fits [] h few = refl
behind_fits (c ∷ cs) h few =
    let parts = parts_written (comparison_cells c) (behind_ampersands cs) (rest_written (token.Sign Ampersand) (comparison_cells c ++ behind_ampersands cs) h) in
    let fewer = and_parts (has_few c.value) (all_few cs) few in
    and_from (is_comparison c) (list_all is_comparison cs) (comparison_fits c parts.0 fewer.0) (behind_fits cs parts.1 fewer.1)

-- Comparisons that are written are within the limits where each has few items.
pub condition_fits : (cs : List Comparison) → AreWritten (condition_cells cs) → all_few cs ≡ true → list_all is_comparison cs ≡ true
condition_fits [] h few = refl
condition_fits (c ∷ cs) h few =
    let parts = parts_written (comparison_cells c) (behind_ampersands cs) h in
    let fewer = and_parts (has_few c.value) (all_few cs) few in
    and_from (is_comparison c) (list_all is_comparison cs) (comparison_fits c parts.0 fewer.0) (behind_fits cs parts.1 fewer.1)

value_few : (v : ValueForm) → is_value v ≡ true → has_few v ≡ true
value_few (Number z) h = refl
value_few (Variant w) h = refl
value_few (Metadata key value) h = refl
value_few (Str s) h = refl
value_few (Numbers zs) h = (and_parts (is_few zs) (list_all is_signed zs) h).0
value_few (Variants ws) h = (and_parts (is_few ws) (list_all is_short ws) h).0
value_few (NumberTests ts) h = (and_parts (is_few ts) (list_all is_test ts) h).0

-- Each comparison within the limits has few items.
pub condition_few : (cs : List Comparison) → list_all is_comparison cs ≡ true → all_few cs ≡ true
condition_few [] h = refl
condition_few (c ∷ cs) h =
    let parts = and_parts (is_comparison c) (list_all is_comparison cs) h in
    and_from (has_few c.value) (all_few cs) (value_few c.value (and_parts (is_short c.lhs) (is_value c.value) parts.0).1) (condition_few cs parts.1)

-- ---- selections

id_fits : (id : Option (List ℕ)) → AreWritten (id_cells id) → option_map_or is_short id true ≡ true
id_fits None h = refl
id_fits (Some id) h = str_fits id [] (rest_written (token.Sign AtSign) (str id ∷ []) h)

account_fits : (a : Account) → AreWritten (account_cells a) → is_account a ≡ true
account_fits a h = and_from (is_short a.connector) (option_map_or is_short a.id true) (str_fits a.connector (id_cells a.id) h) (id_fits a.id (rest_written (token.Str a.connector) (id_cells a.id) h))

share_fits : (s : Share) → AreWritten (share_cells s) → is_account s.account ≡ true
share_fits s h = account_fits s.account (parts_written (account_cells s.account) (sign Percent ∷ number (pos s.split) ∷ []) h).0

shares_fit : (ss : List Share) → list_all (λ (s : Share). is_account s.account) ss ≡ true → list_all (λ (s : Share). nat_le s.split 255) ss ≡ true → list_all is_share ss ≡ true
shares_fit [] h g = refl
shares_fit (s ∷ ss) h g =
    let accounts = and_parts (is_account s.account) (list_all (λ (s : Share). is_account s.account) ss) h in
    let splits = and_parts (nat_le s.split 255) (list_all (λ (s : Share). nat_le s.split 255) ss) g in
    and_from (is_share s) (list_all is_share ss) (and_from (is_account s.account) (nat_le s.split 255) accounts.0 splits.0) (shares_fit ss accounts.1 splits.1)

-- A selection that is written, in its range, is within the limits where it has few items.
pub selection_fits : (s : Selection) → AreWritten (selection_cells s) → in_range s ≡ true → selects_few s ≡ true → is_selection s ≡ true
selection_fits (Priority accounts) h ranged few =
    and_from (is_few accounts) (list_all is_account accounts) few (list_fits account_cells is_account account_fits (token.Sign SquareOpen) (token.Sign SquareClose) accounts h)
selection_fits (Volume shares) h ranged few =
    let list = rest_written (token.Word (codes "split")) (sign SquareOpen ∷ (with_commas share_cells shares ++ sign SquareClose ∷ [])) h in
    let accounts = list_fits share_cells (λ (s : Share). is_account s.account) share_fits (token.Sign SquareOpen) (token.Sign SquareClose) shares list in
    and_from (is_few shares) (list_all is_share shares) few (shares_fit shares accounts ranged)
selection_fits (SurchargeFixed z) h ranged few = and_from (int_le (pos 0) z) (is_signed z) ranged (number_fits z (rest_written (token.Word (codes "surcharge")) (number z ∷ []) h))
selection_fits (SurchargeRate n) h ranged few = ranged
selection_fits (Auth decision) h ranged few = refl
selection_fits Nothing h ranged few = refl

-- A selection within the limits has few items.
pub selection_few : (s : Selection) → is_selection s ≡ true → selects_few s ≡ true
selection_few (Priority accounts) h = (and_parts (is_few accounts) (list_all is_account accounts) h).0
selection_few (Volume shares) h = (and_parts (is_few shares) (list_all is_share shares) h).0
selection_few (SurchargeFixed z) h = refl
selection_few (SurchargeRate n) h = refl
selection_few (Auth decision) h = refl
selection_few Nothing h = refl

-- a rule's name
pub name_fits : (n : Name) → can_be_written (name_token n) ≡ true → is_short (text_of_name n) ≡ true
name_fits (Bare w) h = word_short w h
name_fits (Quoted s) h = str_short s h
