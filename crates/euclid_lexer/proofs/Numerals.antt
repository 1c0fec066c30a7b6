-- The digits at the front of a text are a numeral.
use Rattle.std.proofs.Common.{◌≡◌, ℕ, suc, ◌+◌, ◌<◌, Bool, true, false, cond, ◌&&◌, ◌==◌, ℤ, pos, negsuc, ⊎_elim, List, [], ◌∷◌, length, get_or, take, drop, refl, ap, sym, ◌∙◌, subst, arith, rules}
use Rattle.std.specs.List.{prefix_len, take_while}
use Rattle.std.specs.Str.Parse.{AllDigits, IsNumeral, without_leading_sign, without_leading_plus, starts_with_minus, digits_value, signed_digits_value}
use Rattle.std.specs.Char.{digit_value}
use Rattle.std.specs.Int.{w64}
use Rattle.std.specs.Int.RustNames.{FitsSigned}
use Rattle.std.proofs.lemmas.Bool.{cond-true, cond-false, false_from_ne_true, or_cases, and_parts, eqb-true}
use Rattle.std.proofs.lemmas.Bool.Decides.{nat_tests}
use Rattle.std.proofs.lemmas.List.Sums.{take_while-cons}
use Rattle.key_table.specs.declared.stop.Stop.{Stop}
use Rattle.key_table.specs.declared.stop.Stop.TheVariants.{Fault}
use Rattle.key_table.specs.Answers.{Fails}
use Rattle.euclid_lexer.specs.declared.error.LexError.{LexError}
use Rattle.euclid_lexer.proofs.Bytes.{digit_ascii}
use Rattle.key_table.specs.Integers.{is_signed}
use Rattle.euclid_lexer.specs.Tokens.{is_digit, next_is, begins_number, fault, number_at}

pub digit_value_small : (b : ℕ) → is_digit b ≡ true → digit_value b < 10
digit_value_small b e = grind (arith, nat_tests)

pub front_digits : (bs : List ℕ) → AllDigits 10 (take_while is_digit bs)
front_digits [] = tt
front_digits (b ∷ bs) =
    let P : List ℕ → Type 0 = λ xs. AllDigits 10 xs in
    let cases : (v : Bool) → is_digit b ≡ v → AllDigits 10 (cond v (b ∷ take_while is_digit bs) []) =
    λ (v : Bool). elim v as (λ v. is_digit b ≡ v → AllDigits 10 (cond v (b ∷ take_while is_digit bs) [])) [
      | true ↦ λ e. (digit_value_small b e, front_digits bs)
      | false ↦ λ e. tt
    ] in
    subst P (sym (take_while-cons is_digit b bs)) (cases (is_digit b) refl)

next_some : (bs : List ℕ) → next_is is_digit bs ≡ true → 0 < length (take_while is_digit bs)
next_some [] e = cc
next_some (b ∷ bs) e = let P : List ℕ → Type 0 = λ xs. 0 < length xs in
    subst P (sym (take_while-cons is_digit b bs ∙ cond-true (is_digit b) (b ∷ take_while is_digit bs) [] e)) (omega arith)

-- a text that begins with a digit has no sign
pub plain_digits : (b : ℕ) (bs : List ℕ) → is_digit b ≡ true → without_leading_sign (b ∷ bs) ≡ b ∷ bs
plain_digits b bs d =
    let none : starts_with_minus (b ∷ bs) ≡ false = grind (arith, nat_tests) in
    let plus : (b == 43) ≡ false = grind (arith, nat_tests) in
    cond-false _ _ _ none ∙ ap (λ v. drop (cond v 1 0) (b ∷ bs)) plus

pub plain_value : (b : ℕ) (bs : List ℕ) → is_digit b ≡ true → signed_digits_value 10 (b ∷ bs) ≡ pos (digits_value 10 (b ∷ bs))
plain_value b bs d =
    let none : starts_with_minus (b ∷ bs) ≡ false = grind (arith, nat_tests) in
    cond-false (starts_with_minus (b ∷ bs)) _ _ none ∙ ap (λ (ds : List ℕ). pos (digits_value 10 ds)) (plain_digits b bs d)

-- a byte with the digits behind it, where it begins a number
numeral_from : (b : ℕ) (bs : List ℕ) → is_digit b ≡ true → IsNumeral 10 (without_leading_sign (b ∷ take_while is_digit bs))
numeral_from b bs d =
    let P : List ℕ → Type 0 = λ xs. IsNumeral 10 xs in
    subst P (sym (plain_digits b (take_while is_digit bs) d)) (omega arith, (digit_value_small b d, front_digits bs))

numeral_behind : (b : ℕ) (bs : List ℕ) → (b == 45 && next_is is_digit bs) ≡ true → IsNumeral 10 (without_leading_sign (b ∷ take_while is_digit bs))
numeral_behind b bs e =
    let ds = take_while is_digit bs in
    let parts = and_parts (b == 45) (next_is is_digit bs) e in
    let behind : without_leading_sign (b ∷ ds) ≡ ds = cond-true (b == 45) ds (without_leading_plus (b ∷ ds)) parts.0 in
    let P : List ℕ → Type 0 = λ xs. IsNumeral 10 xs in
    subst P (sym behind) (next_some bs parts.1, front_digits bs)

pub numeral_at : (bs : List ℕ) → begins_number bs ≡ true → IsNumeral 10 (without_leading_sign (take (1 + prefix_len is_digit (drop 1 bs)) bs))
numeral_at [] e = cc
numeral_at (b ∷ bs) e =
    let more : 1 + prefix_len is_digit bs ≡ suc (prefix_len is_digit bs) = omega arith in
    let P : ℕ → Type 0 = λ n. IsNumeral 10 (without_leading_sign (take n (b ∷ bs))) in
    subst P (sym more) (⊎_elim (numeral_from b bs) (numeral_behind b bs) (or_cases (is_digit b) _ e))

fits_i64 : (z : ℤ) → is_signed z ≡ true → FitsSigned w64 z
fits_i64 (pos n) e = search (arith, rules, nat_tests)
fits_i64 (negsuc n) e = search (arith, rules, nat_tests)

-- What begins a number and is not read is out of range.
pub not_read : (bs text : List ℕ) → begins_number bs ≡ true → text ≡ take (1 + prefix_len is_digit (drop 1 bs)) bs
    → ¬ (IsNumeral 10 (without_leading_sign text) × FitsSigned w64 (signed_digits_value 10 text)) → is_signed (signed_digits_value 10 text) ≡ false
not_read bs text begins is not =
    false_from_ne_true _ (λ e. not (subst (λ (t : List ℕ). IsNumeral 10 (without_leading_sign t)) (sym is) (numeral_at bs begins), fits_i64 _ e))

pub first_ascii : (bs : List ℕ) → begins_number bs ≡ true → (0 < length bs) × (get_or bs 0 0 < 128)
first_ascii [] e = cc
first_ascii (b ∷ bs) e = (omega arith, ⊎_elim (digit_ascii b) (λ h. omega (arith, eqb-true b 45 (and_parts (b == 45) _ h).0)) (or_cases (is_digit b) _ e))

pub number_fails : (at : ℕ) (bs text : List ℕ) (stop : Stop LexError) → begins_number bs ≡ true → text ≡ take (1 + prefix_len is_digit (drop 1 bs)) bs
    → ¬ (IsNumeral 10 (without_leading_sign text) × FitsSigned w64 (signed_digits_value 10 text)) → stop ≡ Fault (fault at 3) → Fails stop (number_at at bs)
number_fails at bs text stop begins is not stops =
    let P : Stop LexError → Type 0 = λ s. Fails s (number_at at bs) in
    let z = signed_digits_value 10 (take (1 + prefix_len is_digit (drop 1 bs)) bs) in
    let out : is_signed z ≡ false = subst (λ (t : List ℕ). is_signed (signed_digits_value 10 t) ≡ false) is (not_read bs text begins is not) in
    subst P (sym stops) (cond-false (is_signed z) _ _ out)
