-- The tokens of a text, or its first fault.
use Rattle.std.specs.Prelude.{ℕ, zero, suc, pred, ◌+◌, nat_le, List, [], ◌∷◌, length, take, drop, Bool, true, false, not, ◌&&◌, ◌||◌, ◌==◌, Option, Some, None, Result, Ok, Err, if◌then◌else◌}
use Rattle.std.specs.List.{prefix_len, find}
use Rattle.std.specs.Str.{is_utf8}
use Rattle.std.specs.Str.Lossy.{utf8_valid_len}
use Rattle.std.specs.Str.Parse.{signed_digits_value}
use Rattle.key_table.specs.Answers.{◌>>=◌}
use Rattle.key_table.specs.Integers.{is_signed}
use Rattle.key_table.specs.Names.{is_letter, is_letter_or_digit}
use Rattle.euclid_lexer.specs.declared.error.LexError.{LexError}
use Rattle.euclid_lexer.specs.declared.token.Sign.{Sign}
use Rattle.euclid_lexer.specs.declared.token.Token as code
use Rattle.euclid_lexer.specs.declared.token.Token.TheVariants.{Word, Str, Number}
use Rattle.euclid_lexer.specs.declared.token.Token.TheVariants as token
use Rattle.euclid_lexer.specs.declared.token.Placed.{Placed}
use Rattle.euclid_lexer.specs.Signs.{sign_text, signs}

-- a fault at a byte
abbrev pub fault : ℕ → ℕ → LexError
fault at code = record { at = at; code = code }

-- a token, and how many bytes it takes
abbrev pub Found : Type 0
Found = code.Token × ℕ

-- ---- bytes

-- white space: space, tab, carriage return and line feed
abbrev pub is_white : ℕ → Bool
is_white b = b == 32 || (b == 9 || (b == 13 || b == 10))

-- one of the ten digits
abbrev pub is_digit : ℕ → Bool
is_digit b = nat_le 48 b && nat_le b 57

-- what may stand within a string: any byte but a quote and a line feed
abbrev pub is_inner : ℕ → Bool
is_inner b = not (b == 34 || b == 10)

-- whether a byte comes, and is such a one
abbrev pub next_is : (ℕ → Bool) → List ℕ → Bool
next_is p [] = false
next_is p (b ∷ bs) = p b

-- whether the second text begins with the first
abbrev pub begins : List ℕ → List ℕ → Bool
begins [] bs = true
begins (c ∷ cs) [] = false
begins (c ∷ cs) (b ∷ bs) = b == c && begins cs bs

-- ---- the token at the front of the bytes that are left, each time the longest that fits

-- A word, which begins with a letter or `_`. It has at most 255 bytes.
abbrev pub word_at : ℕ → List ℕ → Result Found LexError
word_at at bytes = let n = prefix_len is_letter_or_digit bytes in
    if nat_le n 255 then Ok (Word (take n bytes), n) else Err (fault at 5)

-- A string: what stands behind its quote before the first quote or line feed, where that is a quote. It has at most 255 bytes.
abbrev pub string_at : ℕ → List ℕ → Result Found LexError
string_at at bytes = let n = prefix_len is_inner (drop 1 bytes) in
    if next_is (λ c. c == 34) (drop n (drop 1 bytes)) then (if nat_le n 255 then Ok (Str (take n (drop 1 bytes)), n + 2) else Err (fault at 5)) else Err (fault at 2)

-- a number begins with a digit, or with `-` and a digit
abbrev pub begins_number : List ℕ → Bool
begins_number bytes = next_is is_digit bytes || (next_is (λ b. b == 45) bytes && next_is is_digit (drop 1 bytes))

-- A number: its first byte and the digits behind that. It fits signed 64 bits.
abbrev pub number_at : ℕ → List ℕ → Result Found LexError
number_at at bytes = let n = 1 + prefix_len is_digit (drop 1 bytes) in let z = signed_digits_value 10 (take n bytes) in
    if is_signed z then Ok (Number z, n) else Err (fault at 3)

-- a sign and its length, where one stands there
abbrev pub sign_or_fault : ℕ → Option Sign → Result Found LexError
sign_or_fault at None = Err (fault at 1)
sign_or_fault at (Some s) = Ok (token.Sign s, length (sign_text s))

-- A sign: of those that stand there the longest, which is the first in the list.
abbrev pub sign_at : ℕ → List ℕ → Result Found LexError
sign_at at bytes = sign_or_fault at (find (λ s. begins (sign_text s) bytes) signs)

-- A word, a string, a number or a sign, by what the bytes begin with.
unfoldable pub token_at : ℕ → List ℕ → Result Found LexError
token_at at bytes =
    if next_is is_letter bytes then word_at at bytes
    else if next_is (λ b. b == 34) bytes then string_at at bytes
    else if begins_number bytes then number_at at bytes
    else sign_at at bytes

-- ---- the tokens from a place on, where the first so many bytes belong to a token before it

unfoldable pub tokens_from : ℕ → ℕ → List ℕ → Result (List Placed) LexError
tokens_from inside at [] = Ok []
tokens_from (suc inside) at (b ∷ bs) = tokens_from inside (at + 1) bs
tokens_from zero at (b ∷ bs) = if is_white b then tokens_from zero (at + 1) bs else (do
  found ← token_at at (b ∷ bs)
  others ← tokens_from (pred found.1) (at + 1) bs
  Ok (record { at = at; token = found.0 } ∷ others))

-- What is not UTF-8 has its fault where the longest front that is UTF-8 ends, before all others.
abbrev pub tokens_of : List ℕ → Result (List Placed) LexError
tokens_of bytes = if is_utf8 bytes then tokens_from 0 0 bytes else Err (fault (utf8_valid_len bytes) 4)
