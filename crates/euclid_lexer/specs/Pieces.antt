-- Texts that are put together from tokens and white space, and when they have just these tokens.
use Rattle.std.specs.Prelude.{◌≡◌, ℕ, ◌+◌, nat_le, List, [], ◌∷◌, ◌++◌, length, Bool, true, false, ◌&&◌, ◌==◌, Result, Ok, Err}
use Rattle.std.specs.Fmt.{signed_decimal}
use Rattle.std.specs.List.{list_all, flat_map}
use Rattle.std.specs.Str.{IsUtf8, is_utf8}
use Rattle.key_table.specs.Names.{is_letter_or_digit, is_name}
use Rattle.euclid_lexer.specs.declared.error.LexError.{LexError}
use Rattle.euclid_lexer.specs.declared.token.Sign.TheVariants.{Less, Greater}
use Rattle.euclid_lexer.specs.declared.token.Token.{Token}
use Rattle.euclid_lexer.specs.declared.token.Token.TheVariants as token
use Rattle.euclid_lexer.specs.declared.token.Placed.{Placed}
use Rattle.euclid_lexer.specs.Signs.{sign_text}
use Rattle.key_table.specs.Integers.{is_signed}
use Rattle.euclid_lexer.specs.Tokens.{is_white, is_digit, is_inner, next_is, tokens_of}

-- a token as it is written
abbrev pub token_text : Token → List ℕ
token_text (token.Word w) = w
token_text (token.Str s) = 34 ∷ (s ++ 34 ∷ [])
token_text (token.Number z) = signed_decimal z
token_text (token.Sign s) = sign_text s

-- whether a text can stand between quotes
abbrev pub is_quotable : List ℕ → Bool
is_quotable s = list_all is_inner s

-- whether a token can be written so
abbrev pub has_text : Token → Bool
has_text (token.Word w) = is_name w
has_text (token.Str s) = is_quotable s && nat_le (length s) 255
has_text (token.Number z) = is_signed z
has_text (token.Sign s) = true

-- whether some text is a token alone: it has its form, and is UTF-8
abbrev pub can_be_written : Token → Bool
can_be_written t = has_text t && is_utf8 (token_text t)

-- whether a byte right behind a token is taken for more of it
abbrev pub goes_on : Token → ℕ → Bool
goes_on (token.Word w) b = is_letter_or_digit b
goes_on (token.Str s) b = false
goes_on (token.Number z) b = is_digit b
goes_on (token.Sign Less) b = b == 61
goes_on (token.Sign Greater) b = b == 61
goes_on (token.Sign _) b = false

-- a part of a text
pub data Piece : Type 0 where
  Spelled : (token : Token) → Piece
  White : (bytes : List ℕ) → Piece

-- a part as it is written
abbrev pub piece_text : Piece → List ℕ
piece_text (Spelled t) = token_text t
piece_text (White bytes) = bytes

-- the whole text
abbrev pub text_of : List Piece → List ℕ
text_of qs = flat_map piece_text qs

-- the tokens alone
abbrev pub tokens_in : List Piece → List Token
tokens_in [] = []
tokens_in (Spelled t ∷ qs) = t ∷ tokens_in qs
tokens_in (White bytes ∷ qs) = tokens_in qs

-- the tokens with their places, the first piece standing at the given one
abbrev pub placed_in : ℕ → List Piece → List Placed
placed_in at [] = []
placed_in at (Spelled t ∷ qs) = record { at = at; token = t } ∷ placed_in (at + length (token_text t)) qs
placed_in at (White bytes ∷ qs) = placed_in (at + length bytes) qs

-- No byte right behind a token is taken for more of it, and what is no token is white space. The last of the pieces has the given bytes behind it.
abbrev pub AreApart : List Piece → List ℕ → Type 0
AreApart [] rest = Unit {0}
AreApart (Spelled t ∷ qs) rest = (next_is (goes_on t) (text_of qs ++ rest) ≡ false) × AreApart qs rest
AreApart (White bytes ∷ qs) rest = (list_all is_white bytes ≡ true) × AreApart qs rest

-- A text of such pieces has their tokens, and no others, where each of these can be written.
abbrev pub PiecesLaw : Type 0
PiecesLaw = (qs : List Piece) → AreApart qs [] → list_all has_text (tokens_in qs) ≡ true → IsUtf8 (text_of qs) → tokens_of (text_of qs) ≡ Ok (placed_in 0 qs)

-- each of the tokens can be written
abbrev pub AllCanBeWritten : Result (List Placed) LexError → Type 0
AllCanBeWritten (Ok ts) = list_all (λ p. can_be_written p.token) ts ≡ true
AllCanBeWritten (Err e) = Unit {0}

-- The tokens of a text can be written: a word is a word of at most 255 bytes, a string is UTF-8 and has no quote, no line feed and at most 255 bytes, and a number fits signed 64 bits.
abbrev pub WrittenLaw : Type 0
WrittenLaw = (bytes : List ℕ) → AllCanBeWritten (tokens_of bytes)
