-- The token that is read at a place is the longest that fits there.
use Rattle.std.specs.Prelude.{◌≡◌, ℕ, ◌<◌, ◌≤◌, List, [], ◌∷◌, length, take, drop, Bool, true, false, not, ◌&&◌, ◌||◌, ◌==◌, bytes_eq, Result, Ok, Err, if◌then◌else◌}
use Rattle.std.specs.Bool.{MatchBool}
use Rattle.std.specs.List.{list_all, list_any}
use Rattle.key_table.specs.Names.{is_word}
use Rattle.euclid_lexer.specs.declared.error.LexError.{LexError}
use Rattle.euclid_lexer.specs.Signs.{sign_text, signs}
use Rattle.euclid_lexer.specs.Tokens.{Found, is_digit, next_is, begins_number, token_at}

-- ---- the forms of whole texts, lengths and ranges aside

-- behind its quote a string has neither a quote nor a line feed, but a quote at its end
abbrev pub is_closed : List ℕ → Bool
is_closed [] = false
is_closed (b ∷ bs) = if b == 34 then length bs == 0 else (not (b == 10) && is_closed bs)

-- a quote, and then what closes a string
abbrev pub is_string : List ℕ → Bool
is_string text = next_is (λ b. b == 34) text && is_closed (drop 1 text)

-- an optional `-`, and one or more digits
abbrev pub is_number : List ℕ → Bool
is_number text = begins_number text && list_all is_digit (drop 1 text)

-- one of the signs
abbrev pub is_sign : List ℕ → Bool
is_sign text = list_any (λ s. bytes_eq (sign_text s) text) signs

-- whether a text has the form of a token
abbrev pub has_form : List ℕ → Bool
has_form text = is_word text || (is_string text || (is_number text || is_sign text))

-- ---- so many bytes at the front have the form, and no more have it
pub record IsLongest (bytes : List ℕ) (n : ℕ) : Type 0 where
  pub within : n ≤ length bytes
  pub fits : has_form (take n bytes) ≡ true
  pub longest : (m : ℕ) → n < m → m ≤ length bytes → has_form (take m bytes) ≡ false

-- What stands at the front: the longest text that has the form of a token; or one that is too large or too long, with code 3 or 5; or none, with code 1 or 2.
abbrev pub IsFront : List ℕ → Result Found LexError → Type 0
IsFront bytes (Ok found) = IsLongest bytes found.1
IsFront bytes (Err e) = MatchBool (e.code == 3 || e.code == 5) ((n : ℕ) × IsLongest bytes n) ((m : ℕ) → m ≤ length bytes → has_form (take m bytes) ≡ false)

-- At each place what is read is what stands there.
abbrev pub LongestLaw : Type 0
LongestLaw = (at : ℕ) (bytes : List ℕ) → IsFront bytes (token_at at bytes)
