-- Numbers that are parsed from a field are those that it spells.
use Rattle.std.proofs.Common.{◌≡◌, ◌≢◌, ℕ, suc, ◌<◌, ◌≤◌, ◌^◌, List, [], ◌∷◌, length, get_or, true, false, ◌&&◌, cond, eqb, ltb, leb, bytes_eq, Some, None, Result, Ok, Err, refl, ap, sym, subst, ◌∙◌, arith, inl, inr, IsUtf8}
use Rattle.std.specs.Prelude.{ℤ, pos, negsuc, codes, neg_ℤ, pred}
use Rattle.std.proofs.lemmas.Slice.Eq.{bytes_eq-Decides}
use Rattle.std.specs.Fmt.{decimal, signed_decimal}
use Rattle.std.specs.Int.{w64}
use Rattle.std.specs.Result.{result_ok}
use Rattle.std.specs.Str.Parse.{digits_value, signed_digits_value, ParsesUnsigned, ParsesSigned, AllDigits}
use Rattle.std.proofs.lemmas.Bool.{ne_eqb, or_left, le-leb, and_parts, or_cases, and_from, ltb-true, lt-ltb, leb-true, eqb-true, false_from_ne_true, true≢false}
use Rattle.std.proofs.lemmas.Fmt.{decimal_digit, decimal_is_IsNumeral, parse-decimal, parse-signed_decimal, decimal-digits_value, first_decimal, decimal_nonempty, IsAscii-decimal, IsAscii-signed}
use Rattle.std.proofs.lemmas.Str.{IsUtf8-from_ascii}
use Rattle.std.proofs.lemmas.Str.Parse.{digit_at, IsNumeralModel, numerals_by_value, tells_digits, parse_plain, parse_signed_plain, parse_signed_minus}
use Rattle.std.proofs.Math.Nat.{eq-zero-or-pos, suc-pred-eq_of_pos}
use Rattle.certificate_text.specs.Spelled.{spelled, number_of, signed_of}
use Rattle.key_table.specs.Integers.{is_signed}
use Rattle.certificate_text.specs.Forms.{is_led, without_minus}
use Rattle.certificate_text.proofs.Spellings.{spelled_none, spelled_again, signed_fits, fits_signed}

own : IsNumeralModel (AllDigits 10) (digits_value 10)
own = numerals_by_value (AllDigits 10) tells_digits

-- a numeral that is led by its first digit is the decimal text of its value
record IsLed (field : List ℕ) : Type 0 where
  filled : 0 < length field
  plain : get_or field 0 0 ≢ 43
  plus : get_or field 0 0 ≢ 45
  one : get_or field 0 0 ≡ 48 → length field ≡ 1

led : (field : List ℕ) → is_led field ≡ true → IsLed field
led [] h = absurd (true≢false (sym h))
led (b ∷ bytes) h =
    elim (or_cases (leb 49 b && leb b 57) (eqb b 48 && eqb (length bytes) 0) h) [
      | inl digit ↦ (
          let p = and_parts (leb 49 b) (leb b 57) digit in
          let low : 49 ≤ b = leb-true 49 b p.0 in
          record { filled = omega arith; plain = λ e. absurd (omega (arith, e)); plus = λ e. absurd (omega (arith, e)); one = λ e. absurd (omega (arith, e)) })
      | inr nil ↦ (
          let p = and_parts (eqb b 48) (eqb (length bytes) 0) nil in
          let is : b ≡ 48 = eqb-true b 48 p.0 in
          let none : length bytes ≡ 0 = eqb-true (length bytes) 0 p.1 in
          record { filled = omega arith; plain = λ e. absurd (omega (arith, e)); plus = λ e. absurd (omega (arith, e)); one = λ e. omega arith })
    ]

led_from : (ds : List ℕ) → 48 < get_or ds 0 0 → get_or ds 0 0 ≤ 57 → is_led ds ≡ true
led_from [] low high = absurd (omega arith)
led_from (b ∷ bytes) low high = or_left _ _ (and_from _ _ (le-leb 49 b (omega arith)) (le-leb b 57 high))

-- the decimal text of a number is led
pub decimal_led : (n : ℕ) → n < 2 ^ 64 → is_led (decimal n) ≡ true
decimal_led n small =
    elim (eq-zero-or-pos n) [
      | inl none ↦ subst (λ k. is_led (decimal k) ≡ true) (sym none) (ap is_led (decimal_digit 0 (omega arith)))
      | inr some ↦ led_from (decimal n) (first_decimal n some small) (digit_at (decimal n) 0 (decimal_is_IsNumeral n small).0.1 (decimal_nonempty n small)).1
    ]

pub number_unled : (field : List ℕ) → is_led field ≡ false → number_of field ≡ None
unfolding number_of
number_unled field h =
    spelled_none decimal (λ n. ltb n 4294967296) field (digits_value 10 field)
    (λ is fits. true≢false (sym (decimal_led (digits_value 10 field) (let small : digits_value 10 field < 4294967296 = ltb-true _ _ fits in omega arith)) ∙ ap is_led is ∙ h))

pub number_other : (field : List ℕ) → (IsUtf8 field → ⊥) → number_of field ≡ None
unfolding number_of
number_other field h =
    spelled_none decimal (λ n. ltb n 4294967296) field (digits_value 10 field)
    (λ is fits. let small : digits_value 10 field < 4294967296 = ltb-true _ _ fits in h (subst IsUtf8 is (IsUtf8-from_ascii (decimal (digits_value 10 field)) (IsAscii-decimal (digits_value 10 field) (omega arith)))))

pub number_parsed : {E : Type 0} (field : List ℕ) (r : Result ℕ E) → is_led field ≡ true → ParsesUnsigned 32 10 field r → result_ok r ≡ number_of field
unfolding number_of
number_parsed {E} field (Ok x) h p =
    let l = led field h in
    let q = parse_plain own {E = E} 32 field (Ok x) p l.plain in
    let value : decimal (digits_value 10 field) ≡ field = decimal-digits_value own field q.0.0 l.filled l.one (omega (arith, q.0.2)) in
    let again = spelled_again decimal (λ n. ltb n 4294967296) (digits_value 10 field) (lt-ltb (digits_value 10 field) 4294967296 q.0.2) in
    ap (λ n. Some n) q.1 ∙ sym again ∙ ap (λ f. spelled decimal (λ n. ltb n 4294967296) f (digits_value 10 field)) value
number_parsed {E} field (Err e) h p =
    sym (spelled_none decimal (λ n. ltb n 4294967296) field (digits_value 10 field)
    (λ is fits. let small : digits_value 10 field < 4294967296 = ltb-true _ _ fits in
    let same = parse-decimal 32 (digits_value 10 field) field (Err e) (omega arith) (omega arith) (sym is) p in absurd cc))

-- ---- signed numbers

led_first : (ds : List ℕ) → is_led ds ≡ true → without_minus ds ≡ ds
led_first [] h = refl
led_first (b ∷ bytes) h =
    let l = led (b ∷ bytes) h in
    let other : eqb b 45 ≡ false = ne_eqb b 45 l.plus in
    rw other refl

-- the form of the text of a signed number
record IsSignedForm (field : List ℕ) : Type 0 where
  digits : is_led (without_minus field) ≡ true
  filled : bytes_eq field (codes "-0") ≡ false

signed_form : (z : ℤ) → is_signed z ≡ true → IsSignedForm (signed_decimal z)
signed_form (pos n) h =
    let small : n < 9223372036854775808 = ltb-true _ _ h in
    let l = decimal_led n (omega arith) in
    record {
      digits = ap is_led (led_first (decimal n) l) ∙ l;
      filled = false_from_ne_true _ (λ e. let is = (bytes_eq-Decides (decimal n) (codes "-0")).0 e in let f = led (decimal n) l in f.plus (ap (λ ds. get_or ds 0 0) is));
    }
signed_form (negsuc n) h =
    let small : n < 9223372036854775808 = ltb-true _ _ h in
    let big : 48 < get_or (decimal (suc n)) 0 0 = first_decimal (suc n) (omega arith) (omega arith) in
    record {
      digits = decimal_led (suc n) (omega arith);
      filled = false_from_ne_true _ (λ e. let is = (bytes_eq-Decides (45 ∷ decimal (suc n)) (codes "-0")).0 e in let first : get_or (decimal (suc n)) 0 0 ≡ 48 = ap (λ ds. get_or ds 1 0) is in omega arith);
    }

pub signed_unled : (field : List ℕ) → is_led (without_minus field) ≡ false → signed_of field ≡ None
unfolding signed_of
signed_unled field h =
    spelled_none signed_decimal is_signed field (signed_digits_value 10 field)
    (λ is fits. true≢false (sym (signed_form (signed_digits_value 10 field) fits).digits ∙ ap (λ f. is_led (without_minus f)) is ∙ h))

pub signed_zero : (field : List ℕ) → bytes_eq field (codes "-0") ≡ true → signed_of field ≡ None
unfolding signed_of
signed_zero field h =
    spelled_none signed_decimal is_signed field (signed_digits_value 10 field)
    (λ is fits. true≢false (sym h ∙ ap (λ f. bytes_eq f (codes "-0")) (sym is) ∙ (signed_form (signed_digits_value 10 field) fits).filled))

pub signed_other : (field : List ℕ) → (IsUtf8 field → ⊥) → signed_of field ≡ None
unfolding signed_of
signed_other field h =
    spelled_none signed_decimal is_signed field (signed_digits_value 10 field)
    (λ is fits. let f = signed_fits (signed_digits_value 10 field) fits in h (subst IsUtf8 is (IsUtf8-from_ascii (signed_decimal (signed_digits_value 10 field)) (IsAscii-signed (signed_digits_value 10 field) f.sfits))))

-- what a signed numeral in its form is parsed to is spelled so
signed_text : (E : Type 0) (field : List ℕ) (x : ℤ) → is_led (without_minus field) ≡ true → bytes_eq field (codes "-0") ≡ false → ParsesSigned {E = E} w64 10 field (Ok x) → signed_decimal x ≡ field
signed_text E [] x h other p = absurd (true≢false (sym h))
signed_text E (b ∷ bytes) x h other p =
    elim (eqb b 45) as (λ t. eqb b 45 ≡ t → is_led (cond t bytes (b ∷ bytes)) ≡ true → signed_decimal x ≡ b ∷ bytes) [
      | true ↦ (λ minus h.
          let is : b ≡ 45 = eqb-true b 45 minus in
          let l = led bytes h in
          let q = parse_signed_minus own {E = E} w64 (b ∷ bytes) (Ok x) p is in
          let v = digits_value 10 bytes in
          let text : decimal v ≡ bytes = decimal-digits_value own bytes q.0.0 l.filled l.one (omega (arith, q.0.2)) in
          elim (eq-zero-or-pos v) [
            | inl none ↦ absurd (true≢false (sym ((bytes_eq-Decides (b ∷ bytes) (codes "-0")).1 (ap (λ y. y ∷ bytes) is ∙ ap (λ ds. 45 ∷ ds) (sym text ∙ ap decimal none ∙ decimal_digit 0 (omega arith)))) ∙ other))
            | inr some ↦
                let k = pred v in
                let next : v ≡ suc k = sym (suc-pred-eq_of_pos some) in
                ap signed_decimal (q.1 ∙ ap (λ n. neg_ℤ (pos n)) next) ∙ ap (λ n. 45 ∷ decimal n) (sym next) ∙ ap (λ ds. 45 ∷ ds) text ∙ ap (λ y. y ∷ bytes) (sym is)
          ])
      | false ↦ (λ plain h.
          let l = led (b ∷ bytes) h in
          let q = parse_signed_plain own {E = E} w64 (b ∷ bytes) (Ok x) p l.plain l.plus in
          ap signed_decimal q.1 ∙ decimal-digits_value own (b ∷ bytes) q.0.0 l.filled l.one (omega (arith, q.0.2)))
    ] refl h

pub signed_parsed : {E : Type 0} (field : List ℕ) (r : Result ℤ E) → is_led (without_minus field) ≡ true → bytes_eq field (codes "-0") ≡ false → ParsesSigned w64 10 field r → result_ok r ≡ signed_of field
unfolding signed_of
signed_parsed {E} field (Ok x) h other p =
    let value : x ≡ signed_digits_value 10 field = p.1 in
    let fits : is_signed x ≡ true = ap is_signed value ∙ fits_signed (signed_digits_value 10 field) p.0.1 in
    sym (spelled_again signed_decimal is_signed x fits) ∙ ap (λ f. spelled signed_decimal is_signed f x) (signed_text E field x h other p) ∙ ap (spelled signed_decimal is_signed field) value
signed_parsed {E} field (Err e) h other p =
    sym (spelled_none signed_decimal is_signed field (signed_digits_value 10 field)
    (λ is fits. let f = signed_fits (signed_digits_value 10 field) fits in
    let same = parse-signed_decimal w64 (signed_digits_value 10 field) field (Err e) f f.sfits (sym is) p in absurd cc))
