-- A token that is written is read at its place.
use Rattle.std.proofs.Common.{◌≡◌, ℕ, suc, ◌+◌, ◌<◌, ◌^◌, Bool, true, false, cond, if◌then◌else◌, neg_ℤ, ◌&&◌, ◌||◌, ◌==◌, ℤ, pos, negsuc, nat_le, List, [], ◌∷◌, ◌++◌, length, take, drop, Result, Ok, Err, Some, refl, ap, sym, ◌∙◌, subst, arith}
use Rattle.std.specs.List.{prefix_len, list_all}
use Rattle.std.specs.Fmt.{decimal, signed_decimal}
use Rattle.std.specs.Str.Parse.{AllDigits, IsNumeral, digits_value, signed_digits_value}
use Rattle.std.proofs.lemmas.Bool.{cond-true, cond-false, and_parts, and_from, or_left, ltb-true}
use Rattle.std.proofs.lemmas.Bool.Decides.{nat_tests}
use Rattle.std.proofs.lemmas.List.{append_assoc, take_at, drop_at, length-append}
use Rattle.std.proofs.lemmas.Fmt.{decimal_is_IsNumeral}
use Rattle.std.proofs.lemmas.Str.Parse.{digit_from_value}
use Rattle.key_table.specs.Names.{is_letter, is_letter_or_digit, is_word, is_name}
use Rattle.euclid_lexer.specs.declared.error.LexError.{LexError}
use Rattle.euclid_lexer.specs.declared.token.Sign.{Sign}
use Rattle.euclid_lexer.specs.declared.token.Sign.TheVariants.{Less, LessEqual, Greater, GreaterEqual}
use Rattle.euclid_lexer.specs.declared.token.Token.{Token}
use Rattle.euclid_lexer.specs.declared.token.Token.TheVariants.{Word, Str, Number}
use Rattle.euclid_lexer.specs.declared.token.Token.TheVariants as token
use Rattle.euclid_lexer.specs.Signs.{sign_text}
use Rattle.key_table.specs.Integers.{is_signed}
use Rattle.euclid_lexer.specs.Tokens.{is_digit, is_inner, next_is, begins_number, Found, fault, word_at, number_at, sign_or_fault, token_at}
use Rattle.euclid_lexer.specs.Pieces.{token_text, is_quotable, has_text, goes_on}
use Rattle.euclid_lexer.proofs.Numerals.{plain_value}

-- What passes reaches to where the next byte does not.
pub prefix_whole : (p : ℕ → Bool) (xs ys : List ℕ) → list_all p xs ≡ true → next_is p ys ≡ false → prefix_len p (xs ++ ys) ≡ length xs
prefix_whole p [] [] all next = refl
prefix_whole p [] (y ∷ ys) all next = cond-false (p y) _ _ next
prefix_whole p (x ∷ xs) ys all next =
    let parts = and_parts (p x) (list_all p xs) all in
    let more : prefix_len p (xs ++ ys) ≡ length xs = prefix_whole p xs ys parts.1 next in
    cond-true (p x) (1 + prefix_len p (xs ++ ys)) 0 parts.0 ∙ omega (arith, more)

-- ---- a word

pub word_read : (at : ℕ) (w r : List ℕ) → is_name w ≡ true → next_is is_letter_or_digit r ≡ false → token_at at (w ++ r) ≡ Ok (Word w, length w)
unfolding token_at
word_read at [] r name next = cc
word_read at (c ∷ cs) r name next =
    let parts = and_parts (is_word (c ∷ cs)) (nat_le (length (c ∷ cs)) 255) name in
    let first = and_parts (is_letter c) (list_all is_letter_or_digit cs) parts.0 in
    let also : is_letter_or_digit c ≡ true = ap (λ v. v || (nat_le 48 c && nat_le c 57)) first.0 in
    let n : prefix_len is_letter_or_digit ((c ∷ cs) ++ r) ≡ length (c ∷ cs) = prefix_whole is_letter_or_digit (c ∷ cs) r (and_from _ _ also first.1) next in
    let found : ℕ → Result Found LexError = λ k. if nat_le k 255 then Ok (Word (take k ((c ∷ cs) ++ r)), k) else Err (fault at 5) in
    cond-true (is_letter c) (word_at at ((c ∷ cs) ++ r)) _ first.0
    ∙ ap found n
    ∙ cond-true (nat_le (length (c ∷ cs)) 255) _ _ parts.1
    ∙ ap (λ (t : List ℕ). Ok (Word t, length (c ∷ cs))) (take_at (c ∷ cs) r (length (c ∷ cs)) refl)

-- ---- a string

pub string_read : (at : ℕ) (s r : List ℕ) → list_all is_inner s ≡ true → nat_le (length s) 255 ≡ true → token_at at (34 ∷ (s ++ 34 ∷ r)) ≡ Ok (Str s, length s + 2)
unfolding token_at
string_read at s r inner few =
    let n : prefix_len is_inner (s ++ 34 ∷ r) ≡ length s = prefix_whole is_inner s (34 ∷ r) inner refl in
    let found : ℕ → Result Found LexError = λ k. if next_is (λ c. c == 34) (drop k (s ++ 34 ∷ r)) then (if nat_le k 255 then Ok (Str (take k (s ++ 34 ∷ r)), k + 2) else Err (fault at 5)) else Err (fault at 2) in
    ap found n
    ∙ cond-true (next_is (λ c. c == 34) (drop (length s) (s ++ 34 ∷ r))) _ _ (ap (next_is (λ c. c == 34)) (drop_at s (34 ∷ r) (length s) refl))
    ∙ cond-true (nat_le (length s) 255) _ _ few
    ∙ ap (λ (t : List ℕ). Ok (Str t, length s + 2)) (take_at s (34 ∷ r) (length s) refl)

-- ---- a number

digits_all : (ds : List ℕ) → AllDigits 10 ds → list_all is_digit ds ≡ true
digits_all [] h = refl
digits_all (d ∷ ds) h = and_from _ _ (let f = digit_from_value d h.0 in grind (arith, nat_tests)) (digits_all ds h.1)

-- a number whose text and value are known
number_from : (at : ℕ) (text r : List ℕ) (z : ℤ) → 1 + prefix_len is_digit (drop 1 (text ++ r)) ≡ length text → signed_digits_value 10 text ≡ z → is_signed z ≡ true
    → number_at at (text ++ r) ≡ Ok (Number z, length text)
number_from at text r z n value fits =
    let of_value : ℤ → ℕ → Result Found LexError = λ z n. if is_signed z then Ok (Number z, n) else Err (fault at 3) in
    ap (λ (k : ℕ). of_value (signed_digits_value 10 (take k (text ++ r))) k) n
    ∙ ap (λ (t : List ℕ). of_value (signed_digits_value 10 t) (length text)) (take_at text r (length text) refl)
    ∙ ap (λ (v : ℤ). of_value v (length text)) value
    ∙ cond-true (is_signed z) _ _ fits

digits_read : (at d : ℕ) (ds r : List ℕ) → list_all is_digit (d ∷ ds) ≡ true → is_signed (pos (digits_value 10 (d ∷ ds))) ≡ true → next_is is_digit r ≡ false
    → token_at at ((d ∷ ds) ++ r) ≡ Ok (Number (pos (digits_value 10 (d ∷ ds))), length (d ∷ ds))
unfolding token_at
digits_read at d ds r all fits next =
    let parts = and_parts (is_digit d) (list_all is_digit ds) all in
    let digit : is_digit d ≡ true = parts.0 in
    let no_letter : is_letter d ≡ false = grind (arith, nat_tests) in
    let no_quote : (d == 34) ≡ false = grind (arith, nat_tests) in
    let n : 1 + prefix_len is_digit (ds ++ r) ≡ suc (length ds) = omega (arith, prefix_whole is_digit ds r parts.1 next) in
    cond-false (is_letter d) _ _ no_letter ∙ cond-false (d == 34) _ _ no_quote ∙ cond-true (begins_number (d ∷ (ds ++ r))) _ _ (or_left (is_digit d) _ digit)
    ∙ number_from at (d ∷ ds) r _ n (plain_value d ds digit) fits

minus_read : (at d : ℕ) (ds r : List ℕ) → list_all is_digit (d ∷ ds) ≡ true → is_signed (neg_ℤ (pos (digits_value 10 (d ∷ ds)))) ≡ true → next_is is_digit r ≡ false
    → token_at at (45 ∷ ((d ∷ ds) ++ r)) ≡ Ok (Number (neg_ℤ (pos (digits_value 10 (d ∷ ds)))), length (45 ∷ d ∷ ds))
unfolding token_at
minus_read at d ds r all fits next =
    let parts = and_parts (is_digit d) (list_all is_digit ds) all in
    let n : 1 + prefix_len is_digit ((d ∷ ds) ++ r) ≡ suc (suc (length ds)) = omega (arith, prefix_whole is_digit (d ∷ ds) r all next) in
    cond-true (is_digit d) _ _ parts.0 ∙ number_from at (45 ∷ d ∷ ds) r _ n refl fits

-- the digits of a number as they are written, in parts
pub record IsWritten (n : ℕ) : Type 0 where
  pub first : ℕ
  pub others : List ℕ
  pub text : decimal n ≡ first ∷ others
  pub digits : list_all is_digit (first ∷ others) ≡ true
  pub value : digits_value 10 (first ∷ others) ≡ n

in_parts : (n : ℕ) (ds : List ℕ) → decimal n ≡ ds → IsNumeral 10 ds → digits_value 10 ds ≡ n → IsWritten n
in_parts n [] is numeral value = absurd (omega (arith, numeral.0))
in_parts n (d ∷ ds) is numeral value = record { first = d; others = ds; text = is; digits = digits_all (d ∷ ds) numeral.1; value = value }

pub is_written : (n : ℕ) → n < 2 ^ 64 → IsWritten n
is_written n small = let h = decimal_is_IsNumeral n small in in_parts n (decimal n) refl h.0 h.1

pub number_read : (at : ℕ) (z : ℤ) (r : List ℕ) → is_signed z ≡ true → next_is is_digit r ≡ false → token_at at (signed_decimal z ++ r) ≡ Ok (Number z, length (signed_decimal z))
number_read at (pos n) r fits next =
    let small : n < 2 ^ 63 = ltb-true n (2 ^ 63) fits in
    let w = is_written n (omega arith) in
    let P : List ℕ → Type 0 = λ ds. token_at at (ds ++ r) ≡ Ok (Number (pos n), length ds) in
    let z : pos (digits_value 10 (w.first ∷ w.others)) ≡ pos n = ap pos w.value in
    subst P (sym w.text) (digits_read at w.first w.others r w.digits (ap is_signed z ∙ fits) next ∙ ap (λ (v : ℤ). Ok (Number v, length (w.first ∷ w.others))) z)
number_read at (negsuc n) r fits next =
    let small : n < 2 ^ 63 = ltb-true n (2 ^ 63) fits in
    let w = is_written (suc n) (omega arith) in
    let P : List ℕ → Type 0 = λ ds. token_at at (45 ∷ (ds ++ r)) ≡ Ok (Number (negsuc n), suc (length ds)) in
    let z : neg_ℤ (pos (digits_value 10 (w.first ∷ w.others))) ≡ negsuc n = ap (λ k. neg_ℤ (pos k)) w.value in
    subst P (sym w.text) (minus_read at w.first w.others r w.digits (ap is_signed z ∙ fits) next ∙ ap (λ (v : ℤ). Ok (Number v, length (45 ∷ w.first ∷ w.others))) z)

-- ---- a sign

less_read : (at : ℕ) (r : List ℕ) → next_is (λ b. b == 61) r ≡ false → token_at at (60 ∷ r) ≡ Ok (token.Sign Less, 1)
unfolding token_at
less_read at [] e = refl
less_read at (c ∷ cs) e = ap (λ (v : Bool). sign_or_fault at (cond (v && true) (Some LessEqual) (Some Less))) e

greater_read : (at : ℕ) (r : List ℕ) → next_is (λ b. b == 61) r ≡ false → token_at at (62 ∷ r) ≡ Ok (token.Sign Greater, 1)
unfolding token_at
greater_read at [] e = refl
greater_read at (c ∷ cs) e = ap (λ (v : Bool). sign_or_fault at (cond (v && true) (Some GreaterEqual) (Some Greater))) e

pub sign_read : (at : ℕ) (s : Sign) (r : List ℕ) → next_is (goes_on (token.Sign s)) r ≡ false → token_at at (sign_text s ++ r) ≡ Ok (token.Sign s, length (sign_text s))
unfolding token_at
sign_read at Less r e = less_read at r e
sign_read at Greater r e = greater_read at r e
sign_read at _ r e = refl

-- ---- any token

pub token_read : (at : ℕ) (t : Token) (r : List ℕ) → has_text t ≡ true → next_is (goes_on t) r ≡ false → token_at at (token_text t ++ r) ≡ Ok (t, length (token_text t))
token_read at (Word w) r fine next = word_read at w r fine next
token_read at (Str s) r fine next =
    let parts = and_parts (is_quotable s) (nat_le (length s) 255) fine in
    let text : (34 ∷ (s ++ 34 ∷ [])) ++ r ≡ 34 ∷ (s ++ 34 ∷ r) = ap (λ (ds : List ℕ). 34 ∷ ds) (append_assoc s (34 ∷ []) r) in
    ap (token_at at) text ∙ string_read at s r parts.0 parts.1 ∙ ap (λ (k : ℕ). Ok (Str s, k)) (omega (arith, length-append s (34 ∷ [])))
token_read at (Number z) r fine next = number_read at z r fine next
token_read at (token.Sign s) r fine next = sign_read at s r next
