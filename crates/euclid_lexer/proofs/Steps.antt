-- The tokens of a text, one step on.
use Rattle.std.proofs.Common.{◌≡◌, ℕ, zero, suc, pred, ◌+◌, ◌<◌, true, false, List, [], ◌∷◌, ◌++◌, drop, Result, Ok, Err, refl, ap, ◌∙◌, arith}
use Rattle.std.proofs.lemmas.List.{append_assoc}
use Rattle.std.specs.Str.{IsUtf8, is_utf8}
use Rattle.std.specs.Str.Lossy.{utf8_valid_len}
use Rattle.std.proofs.lemmas.Str.{is_utf8-from_IsUtf8, IsUtf8-from_is_utf8}
use Rattle.std.proofs.lemmas.Bool.{cond-true, cond-false, false_from_ne_true}
use Rattle.key_table.specs.Answers.{◌>>=◌}
use Rattle.euclid_lexer.specs.declared.error.LexError.{LexError}
use Rattle.euclid_lexer.specs.declared.token.Token.{Token}
use Rattle.euclid_lexer.specs.declared.token.Placed.{Placed}
use Rattle.euclid_lexer.specs.Tokens.{is_white, Found, fault, token_at, tokens_from, tokens_of}

-- tokens that stand before others
abbrev pub with_front : List Placed → Result (List Placed) LexError → Result (List Placed) LexError
with_front front (Ok others) = Ok (front ++ others)
with_front front (Err e) = Err e

pub with_front-none : (r : Result (List Placed) LexError) → with_front [] r ≡ r
with_front-none (Ok others) = refl
with_front-none (Err e) = refl

pub with_front-append : (xs ys : List Placed) (r : Result (List Placed) LexError) → with_front (xs ++ ys) r ≡ with_front xs (with_front ys r)
with_front-append xs ys (Ok others) = ap (λ (zs : List Placed). Ok zs) (append_assoc xs ys others)
with_front-append xs ys (Err e) = refl

-- what belongs to the token before is passed over
pub tokens_skip : (n at : ℕ) (bytes : List ℕ) → tokens_from n at bytes ≡ tokens_from 0 (at + n) (drop n bytes)
unfolding tokens_from
tokens_skip zero at [] = refl
tokens_skip (suc n) at [] = refl
tokens_skip zero at (b ∷ bs) = ap (λ (k : ℕ). tokens_from 0 k (b ∷ bs)) (omega arith)
tokens_skip (suc n) at (b ∷ bs) = tokens_skip n (at + 1) bs ∙ ap (λ (k : ℕ). tokens_from 0 k (drop n bs)) (omega arith)

pub tokens_white : (at b : ℕ) (bs : List ℕ) → is_white b ≡ true → tokens_from 0 at (b ∷ bs) ≡ tokens_from 0 (at + 1) bs
unfolding tokens_from
tokens_white at b bs e = cond-true (is_white b) _ _ e

abbrev placed : ℕ → Token → Placed
placed at t = record { at = at; token = t }

-- the tokens behind the one that was found
abbrev behind : ℕ → List ℕ → Found → Result (List Placed) LexError
behind at bs found = tokens_from (pred found.1) (at + 1) bs >>= λ others. Ok (record { at = at; token = found.0 } ∷ others)

front_of : (p : Placed) (r : Result (List Placed) LexError) → (r >>= λ others. Ok (p ∷ others)) ≡ with_front (p ∷ []) r
front_of p (Ok others) = refl
front_of p (Err e) = refl

-- a token, and then those behind it
pub tokens_token : (at b : ℕ) (bs : List ℕ) (t : Token) (n : ℕ) → is_white b ≡ false → token_at at (b ∷ bs) ≡ Ok (t, n) → 0 < n
    → tokens_from 0 at (b ∷ bs) ≡ with_front (placed at t ∷ []) (tokens_from 0 (at + n) (drop n (b ∷ bs)))
unfolding tokens_from
tokens_token at b bs t zero w e some = absurd (omega arith)
tokens_token at b bs t (suc k) w e some =
    cond-false (is_white b) _ _ w ∙ ap (λ (r : Result Found LexError). r >>= behind at bs) e
    ∙ front_of (placed at t) (tokens_from k (at + 1) bs)
    ∙ ap (with_front (placed at t ∷ [])) (tokens_skip k (at + 1) bs ∙ ap (λ (i : ℕ). tokens_from 0 i (drop k bs)) (omega arith))

-- a fault where a token is due
pub tokens_fault : (at b : ℕ) (bs : List ℕ) (e : LexError) → is_white b ≡ false → token_at at (b ∷ bs) ≡ Err e → tokens_from 0 at (b ∷ bs) ≡ Err e
unfolding tokens_from
tokens_fault at b bs e w is = cond-false (is_white b) _ _ w ∙ ap (λ (r : Result Found LexError). r >>= behind at bs) is

pub tokens_end : (at : ℕ) → tokens_from 0 at [] ≡ Ok []
unfolding tokens_from
tokens_end at = refl

pub tokens_of-utf8 : (bytes : List ℕ) → IsUtf8 bytes → tokens_of bytes ≡ tokens_from 0 0 bytes
tokens_of-utf8 bytes u = cond-true (is_utf8 bytes) _ _ (is_utf8-from_IsUtf8 bytes u)

pub tokens_of-other : (bytes : List ℕ) → ¬ (IsUtf8 bytes) → tokens_of bytes ≡ Err (fault (utf8_valid_len bytes) 4)
tokens_of-other bytes n = cond-false (is_utf8 bytes) _ _ (false_from_ne_true _ (λ t. n (IsUtf8-from_is_utf8 bytes t)))
