-- Pieces of a text in parts.
use Rattle.std.proofs.Common.{◌≡◌, ℕ, Bool, true, false, ◌||◌, ◌==◌, List, [], ◌∷◌, ◌++◌, refl, ap, sym, ◌∙◌}
use Rattle.std.specs.List.{list_all}
use Rattle.std.proofs.lemmas.Bool.{and_parts, and_from, or_parts}
use Rattle.std.proofs.lemmas.List.{append_assoc}
use Rattle.key_table.specs.Names.{is_letter, is_letter_or_digit}
use Rattle.euclid_lexer.specs.declared.token.Sign.TheVariants.{Less, Greater}
use Rattle.euclid_lexer.specs.declared.token.Token.{Token}
use Rattle.euclid_lexer.specs.declared.token.Token.TheVariants.{Word, Str, Number}
use Rattle.euclid_lexer.specs.declared.token.Token.TheVariants as token
use Rattle.euclid_lexer.specs.Tokens.{is_digit, next_is}
use Rattle.euclid_lexer.specs.Pieces.{has_text, goes_on, Piece, Spelled, White, piece_text, text_of, tokens_in, AreApart}

pub text_of-append : (xs ys : List Piece) → text_of (xs ++ ys) ≡ text_of xs ++ text_of ys
text_of-append [] ys = refl
text_of-append (x ∷ xs) ys = ap (λ (u : List ℕ). piece_text x ++ u) (text_of-append xs ys) ∙ sym (append_assoc (piece_text x) (text_of xs) (text_of ys))

pub tokens_in-append : (xs ys : List Piece) → tokens_in (xs ++ ys) ≡ tokens_in xs ++ tokens_in ys
tokens_in-append [] ys = refl
tokens_in-append (Spelled t ∷ xs) ys = ap (λ (u : List Token). t ∷ u) (tokens_in-append xs ys)
tokens_in-append (White bytes ∷ xs) ys = tokens_in-append xs ys

pub behind_both : (xs ys : List Piece) (rest : List ℕ) → text_of (xs ++ ys) ++ rest ≡ text_of xs ++ (text_of ys ++ rest)
behind_both xs ys rest = ap (λ (u : List ℕ). u ++ rest) (text_of-append xs ys) ∙ append_assoc (text_of xs) (text_of ys) rest

pub apart-append : (xs ys : List Piece) (rest : List ℕ) → AreApart xs (text_of ys ++ rest) → AreApart ys rest → AreApart (xs ++ ys) rest
apart-append [] ys rest a b = b
apart-append (Spelled t ∷ xs) ys rest a b = (ap (next_is (goes_on t)) (behind_both xs ys rest) ∙ a.0, apart-append xs ys rest a.1 b)
apart-append (White bytes ∷ xs) ys rest a b = (a.0, apart-append xs ys rest a.1 b)

pub texts-append : (xs ys : List Piece) → list_all has_text (tokens_in xs) ≡ true → list_all has_text (tokens_in ys) ≡ true → list_all has_text (tokens_in (xs ++ ys)) ≡ true
texts-append [] ys a b = b
texts-append (Spelled t ∷ xs) ys a b = let parts = and_parts (has_text t) (list_all has_text (tokens_in xs)) a in and_from _ _ parts.0 (texts-append xs ys parts.1 b)
texts-append (White bytes ∷ xs) ys a b = texts-append xs ys a b

-- a byte that goes on with no token
abbrev pub is_sticky : ℕ → Bool
is_sticky b = is_letter_or_digit b || b == 61

-- No token goes on with what begins so.
pub record Opens (rest : List ℕ) : Type 0 where
  pub opens : next_is is_sticky rest ≡ false

token_opens : (t : Token) (b : ℕ) → is_sticky b ≡ false → goes_on t b ≡ false
token_opens (Word w) b e = (or_parts (is_letter_or_digit b) (b == 61) e).0
token_opens (Str s) b e = refl
token_opens (Number z) b e = (or_parts (is_letter b) (is_digit b) (or_parts (is_letter_or_digit b) (b == 61) e).0).1
token_opens (token.Sign Less) b e = (or_parts (is_letter_or_digit b) (b == 61) e).1
token_opens (token.Sign Greater) b e = (or_parts (is_letter_or_digit b) (b == 61) e).1
token_opens (token.Sign _) b e = refl

pub opens_behind : (t : Token) (rest : List ℕ) → Opens rest → next_is (goes_on t) rest ≡ false
opens_behind t [] o = refl
opens_behind t (b ∷ rest) o = token_opens t b o.opens

-- one token, before what no token goes on with
pub apart_one : (t : Token) (rest : List ℕ) → Opens rest → AreApart (Spelled t ∷ []) rest
apart_one t rest o = (opens_behind t rest o, tt)
