-- Tokens that can be written.
use Rattle.std.proofs.Common.{◌≡◌, ℕ, zero, suc, true, List, [], ◌∷◌, ◌++◌, refl, arith}
use Rattle.std.specs.Prelude.{pos, nat_lt}
use Rattle.std.specs.List.{list_all}
use Rattle.std.specs.Str.{is_utf8, IsAscii}
use Rattle.std.proofs.lemmas.Bool.{and_from, and_parts, ltb-true}
use Rattle.std.proofs.lemmas.Fmt.{IsAscii-decimal}
use Rattle.std.proofs.lemmas.Str.{IsUtf8-from_ascii, is_utf8-from_IsUtf8}
use Rattle.key_table.specs.Names.{is_name}
use Rattle.euclid_lexer.specs.declared.token.Token.{Token}
use Rattle.euclid_lexer.specs.declared.token.Token.TheVariants as token
use Rattle.euclid_lexer.specs.declared.token.Sign.{Sign}
use Rattle.euclid_lexer.specs.declared.token.Sign.TheVariants.{Colon, SquareOpen, SquareClose, CurlyOpen, CurlyClose, RoundOpen, RoundClose, Comma, Ampersand, AtSign, Percent, Equal, NotEqual, Less, LessEqual, Greater, GreaterEqual}
use Rattle.euclid_lexer.specs.Pieces.{token_text, has_text, can_be_written}
use Rattle.euclid_lexer.specs.Signs.{sign_text}

-- each of the tokens can be written
abbrev pub AllWritten : List Token → Type 0
AllWritten ts = list_all can_be_written ts ≡ true

pub written_append : (a b : List Token) → AllWritten a → AllWritten b → AllWritten (a ++ b)
written_append [] b h k = k
written_append (t ∷ a) b h k =
    let parts = and_parts (can_be_written t) (list_all can_be_written a) h in and_from (can_be_written t) (list_all can_be_written (a ++ b)) parts.0 (written_append a b parts.1 k)

pub written_parts : (a b : List Token) → AllWritten (a ++ b) → AllWritten a × AllWritten b
written_parts [] b h = (refl, h)
written_parts (t ∷ a) b h =
    let parts = and_parts (can_be_written t) (list_all can_be_written (a ++ b)) h in
    let rest = written_parts a b parts.1 in
    (and_from (can_be_written t) (list_all can_be_written a) parts.0 rest.0, rest.1)

-- with another rest behind the first token
pub written_rest : (t : Token) (v w : List Token) → AllWritten (t ∷ v) → AllWritten w → AllWritten (t ∷ w)
written_rest t v w h k = and_from (can_be_written t) (list_all can_be_written w) (and_parts (can_be_written t) (list_all can_be_written v) h).0 k

pub written_next : (t : Token) (ts : List Token) → can_be_written t ≡ true → AllWritten ts → AllWritten (t ∷ ts)
written_next t ts h k = and_from (can_be_written t) (list_all can_be_written ts) h k

pub written_one : (t : Token) → can_be_written t ≡ true → AllWritten (t ∷ [])
written_one t h = written_next t [] h refl

-- ---- some tokens that can be written

ascii : (bs : List ℕ) → list_all (λ b. nat_lt b 128) bs ≡ true → IsAscii bs
ascii [] h i = omega arith
ascii (b ∷ bs) h zero = ltb-true b 128 (and_parts (nat_lt b 128) (list_all (λ b. nat_lt b 128) bs) h).0
ascii (b ∷ bs) h (suc i) = ascii bs (and_parts (nat_lt b 128) (list_all (λ b. nat_lt b 128) bs) h).1 i

ascii_written : (t : Token) → has_text t ≡ true → IsAscii (token_text t) → can_be_written t ≡ true
ascii_written t h small = and_from (has_text t) (is_utf8 (token_text t)) h (is_utf8-from_IsUtf8 (token_text t) (IsUtf8-from_ascii (token_text t) small))

pub word_written : (w : List ℕ) → is_name w ≡ true → list_all (λ b. nat_lt b 128) w ≡ true → can_be_written (token.Word w) ≡ true
word_written w h small = ascii_written (token.Word w) h (ascii w small)

pub empty_written : can_be_written (token.Str []) ≡ true
empty_written = ascii_written (token.Str []) refl (ascii (token_text (token.Str [])) refl)

pub zero_written : can_be_written (token.Number (pos 0)) ≡ true
zero_written = ascii_written (token.Number (pos 0)) refl (IsAscii-decimal 0 (omega arith))

pub sign_written : (s : Sign) → can_be_written (token.Sign s) ≡ true
sign_written s = ascii_written (token.Sign s) refl (sign_ascii s)
  where
    sign_ascii : (s : Sign) → IsAscii (sign_text s)
    sign_ascii Colon = ascii (sign_text Colon) refl
    sign_ascii SquareOpen = ascii (sign_text SquareOpen) refl
    sign_ascii SquareClose = ascii (sign_text SquareClose) refl
    sign_ascii CurlyOpen = ascii (sign_text CurlyOpen) refl
    sign_ascii CurlyClose = ascii (sign_text CurlyClose) refl
    sign_ascii RoundOpen = ascii (sign_text RoundOpen) refl
    sign_ascii RoundClose = ascii (sign_text RoundClose) refl
    sign_ascii Comma = ascii (sign_text Comma) refl
    sign_ascii Ampersand = ascii (sign_text Ampersand) refl
    sign_ascii AtSign = ascii (sign_text AtSign) refl
    sign_ascii Percent = ascii (sign_text Percent) refl
    sign_ascii Equal = ascii (sign_text Equal) refl
    sign_ascii NotEqual = ascii (sign_text NotEqual) refl
    sign_ascii Less = ascii (sign_text Less) refl
    sign_ascii LessEqual = ascii (sign_text LessEqual) refl
    sign_ascii Greater = ascii (sign_text Greater) refl
    sign_ascii GreaterEqual = ascii (sign_text GreaterEqual) refl
