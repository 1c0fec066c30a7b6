-- The tokens of a text can be written.
use Rattle.std.proofs.Common.{◌≡◌, ℕ, zero, suc, pred, ◌+◌, ◌-◌, ◌<◌, ◌≤◌, ◌^◌, Bool, true, if◌then◌else◌, ◌&&◌, ◌||◌, ◌==◌, ℤ, pos, negsuc, nat_le, nat_lt, List, [], ◌∷◌, ◌++◌, length, get_or, take, drop, Option, Some, None, Result, Ok, Err, refl, ap, sym, ◌∙◌, subst, arith}
use Rattle.std.specs.Fmt.{decimal, signed_decimal}
use Rattle.std.specs.List.{prefix_len, list_all, find}
use Rattle.std.specs.Str.{IsUtf8, is_utf8, IsAscii, IsCharBoundary}
use Rattle.std.specs.Str.Lossy.{utf8_valid_len}
use Rattle.std.specs.Str.Parse.{signed_digits_value}
use Rattle.std.proofs.lemmas.Bool.{cond-true, cond_both, and_from, and_parts, ltb-true}
use Rattle.std.proofs.lemmas.Bool.Decides.{nat_tests}
use Rattle.std.proofs.lemmas.List.{length-take-le, get_or-drop, length-drop}
use Rattle.std.proofs.lemmas.List.Sums.{prefix_len-le-length}
use Rattle.std.proofs.lemmas.Str.{IsUtf8-take, IsUtf8-drop, IsUtf8-between, IsUtf8-append, IsUtf8-from_ascii, is_utf8-from_IsUtf8, IsUtf8-from_is_utf8}
use Rattle.key_table.specs.Answers.{◌>>=◌}
use Rattle.key_table.specs.Integers.{is_signed}
use Rattle.key_table.specs.Names.{is_letter, is_letter_or_digit}
use Rattle.euclid_lexer.specs.declared.error.LexError.{LexError}
use Rattle.euclid_lexer.specs.declared.token.Sign.{Sign}
use Rattle.euclid_lexer.specs.declared.token.Sign.TheVariants.{Colon}
use Rattle.euclid_lexer.specs.declared.token.Token.{Token}
use Rattle.euclid_lexer.specs.declared.token.Token.TheVariants.{Word, Str, Number}
use Rattle.euclid_lexer.specs.declared.token.Token.TheVariants as token
use Rattle.euclid_lexer.specs.declared.token.Placed.{Placed}
use Rattle.euclid_lexer.specs.Cuts.{IsWhole}
use Rattle.euclid_lexer.specs.Signs.{sign_text, signs}
use Rattle.euclid_lexer.specs.Tokens.{is_white, is_digit, is_inner, next_is, begins, begins_number, Found, fault, word_at, string_at, number_at, sign_or_fault, sign_at, token_at, tokens_from}
use Rattle.euclid_lexer.specs.Pieces.{token_text, has_text, can_be_written, AllCanBeWritten, WrittenLaw}
use Rattle.euclid_lexer.proofs.Bytes.{next-true, white_ascii, digit_ascii}
use Rattle.euclid_lexer.proofs.Longest.{all_up_to}
use Rattle.euclid_lexer.proofs.Numerals.{first_ascii}
use Rattle.euclid_lexer.proofs.Spelled.{is_written}
use Rattle.euclid_lexer.proofs.Whole.{whole_word, whole_number, whole_string, whole_found, cut_first, cut_behind}

-- A token that is taken from the front of a text can be written, and the text may be cut behind it.
pub record IsTaken (bytes : List ℕ) (found : Found) : Type 0 where
  pub written : can_be_written found.0 ≡ true
  pub whole : IsWhole found.1 bytes

abbrev Takes : List ℕ → Result Found LexError → Type 0
Takes bytes (Ok found) = IsTaken bytes found
Takes bytes (Err e) = Unit {0}

-- ---- UTF-8

both : (t : Token) → has_text t ≡ true → IsUtf8 (token_text t) → can_be_written t ≡ true
both t h u = and_from _ _ h (is_utf8-from_IsUtf8 (token_text t) u)

before_ascii : (bs : List ℕ) (i : ℕ) → i < length bs → get_or bs i 0 < 128 → IsCharBoundary bs i
before_ascii bs i within ascii = (omega arith, λ there high. absurd (omega arith))

all_ascii : (p : ℕ → Bool) → ((b : ℕ) → p b ≡ true → b < 128) → (bs : List ℕ) → list_all p bs ≡ true → IsAscii bs
all_ascii p small [] h i = omega arith
all_ascii p small (b ∷ bs) h zero = small b (and_parts (p b) (list_all p bs) h).0
all_ascii p small (b ∷ bs) h (suc i) = all_ascii p small bs (and_parts (p b) (list_all p bs) h).1 i

decimal_ascii : (n : ℕ) → n < 2 ^ 64 → IsAscii (decimal n)
decimal_ascii n small = let w = is_written n small in subst IsAscii (sym w.text) (all_ascii is_digit digit_ascii (w.first ∷ w.others) w.digits)

minus_ascii : (ds : List ℕ) → IsAscii ds → IsAscii (45 ∷ ds)
minus_ascii ds h zero = omega arith
minus_ascii ds h (suc i) = h i

number_ascii : (z : ℤ) → is_signed z ≡ true → IsAscii (signed_decimal z)
number_ascii (pos n) h = let small : n < 2 ^ 63 = ltb-true n (2 ^ 63) h in decimal_ascii n (omega arith)
number_ascii (negsuc n) h = let small : n < 2 ^ 63 = ltb-true n (2 ^ 63) h in minus_ascii (decimal (suc n)) (decimal_ascii (suc n) (omega arith))

below_utf8 : (bs : List ℕ) → list_all (λ b. nat_lt b 128) bs ≡ true → IsUtf8 bs
below_utf8 bs h = IsUtf8-from_ascii bs (all_ascii (λ b. nat_lt b 128) (λ b e. ltb-true b 128 e) bs h)

sign_utf8 : (s : Sign) → IsUtf8 (sign_text s)
sign_utf8 Colon = below_utf8 (sign_text Colon) refl
sign_utf8 s = below_utf8 (sign_text s) refl

quote_utf8 : IsUtf8 (34 ∷ [])
quote_utf8 = below_utf8 (34 ∷ []) refl

quoted_utf8 : (s : List ℕ) → IsUtf8 s → IsUtf8 (34 ∷ (s ++ 34 ∷ []))
quoted_utf8 s u = IsUtf8-append (34 ∷ []) (s ++ 34 ∷ []) quote_utf8 (IsUtf8-append s (34 ∷ []) u quote_utf8)

-- ---- one token

-- a taken front is as long as it says
short : (bs : List ℕ) (n : ℕ) → n ≤ length bs → nat_le n 255 ≡ true → nat_le (length (take n bs)) 255 ≡ true
short bs n within e = ap (λ k. nat_le k 255) (length-take-le n bs within) ∙ e

word_taken : (at b : ℕ) (bs : List ℕ) → IsUtf8 (b ∷ bs) → is_letter b ≡ true → Takes (b ∷ bs) (word_at at (b ∷ bs))
word_taken at b bs u e =
    let also : is_letter_or_digit b ≡ true = ap (λ v. v || (nat_le 48 b && nat_le b 57)) e in
    let k = prefix_len is_letter_or_digit bs in
    let n : prefix_len is_letter_or_digit (b ∷ bs) ≡ suc k = cond-true (is_letter_or_digit b) (1 + k) 0 also ∙ omega arith in
    let P : ℕ → Type 0 = λ n. Takes (b ∷ bs) (if nat_le n 255 then Ok (Word (take n (b ∷ bs)), n) else Err (fault at 5)) in
    let within : suc k ≤ length (b ∷ bs) = omega (arith, prefix_len-le-length is_letter_or_digit bs) in
    let w : IsWhole (suc k) (b ∷ bs) = whole_word (b ∷ bs) (suc k) (sym n) u e in
    subst P (sym n) (cond_both (nat_le (suc k) 255) (Ok (Word (take (suc k) (b ∷ bs)), suc k)) (Err (fault at 5)) (Takes (b ∷ bs))
    (λ h. record {
      written = both (Word (take (suc k) (b ∷ bs))) (and_from _ _ (and_from _ _ e (all_up_to is_letter_or_digit bs k (omega arith))) (short (b ∷ bs) (suc k) within h))
          (IsUtf8-take (b ∷ bs) (suc k) u w.cut);
      whole = w;
    }) (λ _. tt))

-- what stands between the quotes
inner_utf8 : (bytes : List ℕ) (n : ℕ) → IsUtf8 bytes → next_is (λ b. b == 34) bytes ≡ true → next_is (λ c. c == 34) (drop n (drop 1 bytes)) ≡ true → IsUtf8 (take n (drop 1 bytes))
inner_utf8 [] n u first last = cc
inner_utf8 (b ∷ bs) n u first last =
    let f = next-true (λ c. c == 34) (drop n bs) last in
    let here : 1 + n < length (b ∷ bs) = grind (arith, length-drop {A = ℕ}, f.there) in
    let ascii : get_or (b ∷ bs) (1 + n) 0 < 128 = grind (arith, nat_tests, get_or-drop {A = ℕ}, f.passes) in
    let start = cut_first (λ b. b == 34) (b ∷ bs) u (λ b e. grind (arith, nat_tests)) first in
    let P : ℕ → Type 0 = λ k. IsUtf8 (take k bs) in
    let same : (1 + n) - 1 ≡ n = omega arith in
    subst P same (IsUtf8-between (b ∷ bs) 1 (1 + n) u (omega arith) start (before_ascii (b ∷ bs) (1 + n) here ascii))

string_taken : (at : ℕ) (bytes : List ℕ) → IsUtf8 bytes → next_is (λ b. b == 34) bytes ≡ true → Takes bytes (string_at at bytes)
string_taken at bytes u first =
    let bs = drop 1 bytes in
    let n = prefix_len is_inner bs in
    cond_both (next_is (λ c. c == 34) (drop n bs)) (if nat_le n 255 then Ok (Str (take n bs), n + 2) else Err (fault at 5)) (Err (fault at 2)) (Takes bytes)
    (λ e. cond_both (nat_le n 255) (Ok (Str (take n bs), n + 2)) (Err (fault at 5)) (Takes bytes)
    (λ h. record {
      written = both (Str (take n bs)) (and_from _ _ (all_up_to is_inner bs n (omega arith)) (short bs n (prefix_len-le-length is_inner bs) h))
          (quoted_utf8 (take n bs) (inner_utf8 bytes n u first e));
      whole = whole_string bytes n u e;
    }) (λ _. tt))
    (λ _. tt)

number_taken : (at : ℕ) (bytes : List ℕ) → IsUtf8 bytes → begins_number bytes ≡ true → Takes bytes (number_at at bytes)
number_taken at bytes u begins =
    let n = 1 + prefix_len is_digit (drop 1 bytes) in
    let z = signed_digits_value 10 (take n bytes) in
    let f = first_ascii bytes begins in
    cond_both (is_signed z) (Ok (Number z, n)) (Err (fault at 3)) (Takes bytes)
    (λ e. record {
      written = both (Number z) e (IsUtf8-from_ascii (signed_decimal z) (number_ascii z e));
      whole = whole_number bytes (prefix_len is_digit (drop 1 bytes)) refl u f.0 f.1;
    }) (λ _. tt)

sign_taken : (at : ℕ) (bytes : List ℕ) (o : Option Sign) → IsUtf8 bytes → find (λ s. begins (sign_text s) bytes) signs ≡ o → Takes bytes (sign_or_fault at o)
sign_taken at bytes None u e = tt
sign_taken at bytes (Some s) u e = record { written = both (token.Sign s) refl (sign_utf8 s); whole = whole_found bytes s u e }

token_taken : (at b : ℕ) (bs : List ℕ) → IsUtf8 (b ∷ bs) → Takes (b ∷ bs) (token_at at (b ∷ bs))
unfolding token_at
token_taken at b bs u =
    let bytes = b ∷ bs in
    let last = if begins_number bytes then number_at at bytes else sign_at at bytes in
    cond_both (is_letter b) (word_at at bytes) (if b == 34 then string_at at bytes else last) (Takes bytes) (word_taken at b bs u)
    (λ _. cond_both (b == 34) (string_at at bytes) last (Takes bytes) (string_taken at bytes u)
    (λ _. cond_both (begins_number bytes) (number_at at bytes) (sign_at at bytes) (Takes bytes) (number_taken at bytes u) (λ _. sign_taken at bytes (find (λ s. begins (sign_text s) bytes) signs) u refl)))

-- ---- all tokens

-- one more token before others
more_written : (p : Placed) (r : Result (List Placed) LexError) → can_be_written p.token ≡ true → AllCanBeWritten r → AllCanBeWritten (r >>= λ others. Ok (p ∷ others))
more_written p (Ok others) e all = and_from _ _ e all
more_written p (Err f) e all = tt

-- what is left behind a token, without its first byte
left_utf8 : (b n : ℕ) (bs : List ℕ) → IsUtf8 (b ∷ bs) → IsWhole n (b ∷ bs) → IsUtf8 (drop (pred n) bs)
left_utf8 b zero bs u w = absurd (omega (arith, w.some))
left_utf8 b (suc k) bs u w = IsUtf8-drop (b ∷ bs) (suc k) u w.cut

then_written : (at b : ℕ) (bs : List ℕ) (r : Result Found LexError) → IsUtf8 (b ∷ bs) → Takes (b ∷ bs) r → ((n : ℕ) → IsUtf8 (drop n bs) → AllCanBeWritten (tokens_from n (at + 1) bs))
    → AllCanBeWritten (r >>= λ found. tokens_from (pred found.1) (at + 1) bs >>= λ others. Ok (record { at = at; token = found.0 } ∷ others))
then_written at b bs (Ok found) u t all =
    more_written (record { at = at; token = found.0 }) (tokens_from (pred found.1) (at + 1) bs) t.written (all (pred found.1) (left_utf8 b found.1 bs u t.whole))
then_written at b bs (Err f) u t all = tt

from_written : (n at : ℕ) (bytes : List ℕ) → IsUtf8 (drop n bytes) → AllCanBeWritten (tokens_from n at bytes)
unfolding tokens_from
from_written zero at [] u = refl
from_written (suc n) at [] u = refl
from_written (suc n) at (b ∷ bs) u = from_written n (at + 1) bs u
from_written zero at (b ∷ bs) u =
    cond_both (is_white b) (tokens_from 0 (at + 1) bs) (token_at at (b ∷ bs) >>= λ found. tokens_from (pred found.1) (at + 1) bs >>= λ others. Ok (record { at = at; token = found.0 } ∷ others)) AllCanBeWritten
    (λ w. from_written 0 (at + 1) bs (IsUtf8-drop (b ∷ bs) 1 u (cut_behind (b ∷ bs) u (omega arith) (white_ascii b w))))
    (λ _. then_written at b bs (token_at at (b ∷ bs)) u (token_taken at b bs u) (λ k. from_written k (at + 1) bs))

pub all_written : WrittenLaw
all_written bytes =
    cond_both (is_utf8 bytes) (tokens_from 0 0 bytes) (Err (fault (utf8_valid_len bytes) 4)) AllCanBeWritten (λ e. from_written 0 0 bytes (IsUtf8-from_is_utf8 bytes e)) (λ _. tt)
