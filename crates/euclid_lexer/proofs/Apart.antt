-- A text of tokens that are apart has these tokens.
use Rattle.std.proofs.Common.{◌≡◌, ℕ, suc, ◌+◌, ◌<◌, ◌^◌, true, false, pos, negsuc, List, [], ◌∷◌, ◌++◌, length, get_or, drop, Ok, refl, ap, sym, ◌∙◌, arith}
use Rattle.std.specs.List.{list_all}
use Rattle.std.specs.Fmt.{decimal}
use Rattle.std.proofs.lemmas.Bool.{and_parts, ltb-true}
use Rattle.std.proofs.lemmas.Bool.Decides.{nat_tests}
use Rattle.std.proofs.lemmas.List.{append_assoc, append-nil, drop_at, length-append}
use Rattle.key_table.specs.Names.{is_letter, is_word}
use Rattle.euclid_lexer.specs.declared.token.Sign.{Sign}
use Rattle.euclid_lexer.specs.declared.token.Sign.TheVariants.{Colon}
use Rattle.euclid_lexer.specs.declared.token.Token.{Token}
use Rattle.euclid_lexer.specs.declared.token.Token.TheVariants.{Word, Str, Number}
use Rattle.euclid_lexer.specs.declared.token.Token.TheVariants as token
use Rattle.euclid_lexer.specs.declared.token.Placed.{Placed}
use Rattle.euclid_lexer.specs.Signs.{sign_text}
use Rattle.euclid_lexer.specs.Tokens.{is_white, is_digit, next_is, token_at, tokens_from}
use Rattle.euclid_lexer.specs.Pieces.{token_text, has_text, goes_on, Piece, Spelled, White, text_of, tokens_in, placed_in, AreApart, PiecesLaw}
use Rattle.euclid_lexer.proofs.Spelled.{token_read, is_written}
use Rattle.euclid_lexer.proofs.Steps.{with_front, with_front-none, with_front-append, tokens_white, tokens_token, tokens_end, tokens_of-utf8}

-- a text that does not begin with white space
pub record IsDark (text : List ℕ) : Type 0 where
  pub first : ℕ
  pub others : List ℕ
  pub parts : text ≡ first ∷ others
  pub dark : is_white first ≡ false

sign_dark : (s : Sign) → IsDark (sign_text s)
sign_dark Colon = record { first = 58; others = []; parts = refl; dark = refl }
sign_dark s = record { first = get_or (sign_text s) 0 0; others = drop 1 (sign_text s); parts = refl; dark = refl }

pub token_dark : (t : Token) → has_text t ≡ true → IsDark (token_text t)
token_dark (Word []) fine = cc
token_dark (Word (c ∷ cs)) fine =
    let letter : is_letter c ≡ true = (and_parts (is_letter c) _ (and_parts (is_word (c ∷ cs)) _ fine).0).0 in
    record { first = c; others = cs; parts = refl; dark = grind (arith, nat_tests) }
token_dark (Str s) fine = record { first = 34; others = s ++ 34 ∷ []; parts = refl; dark = refl }
token_dark (Number (pos n)) fine =
    let small : n < 2 ^ 63 = ltb-true n (2 ^ 63) fine in
    let w = is_written n (omega arith) in
    let digit : is_digit w.first ≡ true = (and_parts (is_digit w.first) _ w.digits).0 in
    record { first = w.first; others = w.others; parts = w.text; dark = grind (arith, nat_tests) }
token_dark (Number (negsuc n)) fine = record { first = 45; others = decimal (suc n); parts = refl; dark = refl }
token_dark (token.Sign s) fine = sign_dark s

-- white space is passed over
pub white_read : (at : ℕ) (white rest : List ℕ) → list_all is_white white ≡ true → tokens_from 0 at (white ++ rest) ≡ tokens_from 0 (at + length white) rest
white_read at [] rest all = ap (λ (k : ℕ). tokens_from 0 k rest) (omega arith)
white_read at (b ∷ bs) rest all =
    let parts = and_parts (is_white b) (list_all is_white bs) all in
    tokens_white at b (bs ++ rest) parts.0 ∙ white_read (at + 1) bs rest parts.1 ∙ ap (λ (k : ℕ). tokens_from 0 k rest) (omega arith)

-- a token at the front, with others behind
pub token_then : (at : ℕ) (t : Token) (rest : List ℕ) → has_text t ≡ true → next_is (goes_on t) rest ≡ false
    → tokens_from 0 at (token_text t ++ rest) ≡ with_front (record { at = at; token = t } ∷ []) (tokens_from 0 (at + length (token_text t)) rest)
token_then at t rest fine next =
    let d = token_dark t fine in
    let n = length (token_text t) in
    let cells : token_text t ++ rest ≡ d.first ∷ (d.others ++ rest) = ap (λ (xs : List ℕ). xs ++ rest) d.parts in
    let read : token_at at (d.first ∷ (d.others ++ rest)) ≡ Ok (t, n) = ap (token_at at) (sym cells) ∙ token_read at t rest fine next in
    let positive : 0 < n = omega (arith, ap length d.parts) in
    let left : drop n (d.first ∷ (d.others ++ rest)) ≡ rest = ap (drop n) (sym cells) ∙ drop_at (token_text t) rest n refl in
    ap (tokens_from 0 at) cells ∙ tokens_token at d.first (d.others ++ rest) t n d.dark read positive
    ∙ ap (λ (xs : List ℕ). with_front (record { at = at; token = t } ∷ []) (tokens_from 0 (at + n) xs)) left

pub pieces_then : (at : ℕ) (qs : List Piece) (rest : List ℕ) → AreApart qs rest → list_all has_text (tokens_in qs) ≡ true → tokens_from 0 at (text_of qs ++ rest) ≡ with_front (placed_in at qs) (tokens_from 0 (at + length (text_of qs)) rest)
pieces_then at [] rest apart fine = ap (λ (k : ℕ). tokens_from 0 k rest) (omega arith) ∙ sym (with_front-none _)
pieces_then at (Spelled t ∷ qs) rest apart fine =
    let parts = and_parts (has_text t) (list_all has_text (tokens_in qs)) fine in
    let n = length (token_text t) in
    ap (tokens_from 0 at) (append_assoc (token_text t) (text_of qs) rest)
    ∙ token_then at t (text_of qs ++ rest) parts.0 apart.0
    ∙ ap (with_front (record { at = at; token = t } ∷ [])) (pieces_then (at + n) qs rest apart.1 parts.1)
    ∙ sym (with_front-append (record { at = at; token = t } ∷ []) (placed_in (at + n) qs) _)
    ∙ ap (λ (k : ℕ). with_front (placed_in at (Spelled t ∷ qs)) (tokens_from 0 k rest)) (omega (arith, length-append (token_text t) (text_of qs)))
pieces_then at (White bytes ∷ qs) rest apart fine =
    ap (tokens_from 0 at) (append_assoc bytes (text_of qs) rest)
    ∙ white_read at bytes (text_of qs ++ rest) apart.0
    ∙ pieces_then (at + length bytes) qs rest apart.1 fine
    ∙ ap (λ (k : ℕ). with_front (placed_in at (White bytes ∷ qs)) (tokens_from 0 k rest)) (omega (arith, length-append bytes (text_of qs)))

pub pieces_read : PiecesLaw
pieces_read qs apart fine utf8 =
    tokens_of-utf8 (text_of qs) utf8
    ∙ ap (tokens_from 0 0) (sym (append-nil (text_of qs)))
    ∙ pieces_then 0 qs [] apart fine
    ∙ ap (with_front (placed_in 0 qs)) (tokens_end (0 + length (text_of qs)))
    ∙ ap (λ (xs : List Placed). Ok xs) (append-nil (placed_in 0 qs))
