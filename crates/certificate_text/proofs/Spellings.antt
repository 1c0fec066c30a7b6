-- Each value has one spelling: numbers, hexadecimal, words.
use Rattle.std.proofs.Common.{◌≡◌, ℕ, zero, suc, ◌<◌, List, [], ◌∷◌, Bool, true, false, ◌&&◌, cond, ltb, bytes_eq, Some, None, Result, Ok, Err, refl, ap, sym, ◌∙◌, arith, inl, inr}
use Rattle.std.specs.Prelude.{ℤ, pos, negsuc, option_and_then}
use Rattle.std.specs.Ordering.{int_eq}
use Rattle.std.specs.Fmt.{decimal, signed_decimal}
use Rattle.std.specs.Int.{w64}
use Rattle.std.specs.Int.RustNames.{FitsSigned}
use Rattle.std.specs.List.{AllByRecursion}
use Rattle.std.specs.Str.Parse.{digits_value, signed_digits_value, IsNumeral, ParsesSigned, without_leading_sign}
use Rattle.std.proofs.lemmas.Bool.{and_parts, ltb-true, lt-ltb, cases_Bool, false_from_ne_true, true≢false}
use Rattle.std.proofs.lemmas.Bool.Decides.{Decides-int_eq}
use Rattle.std.proofs.lemmas.Fmt.{decimal_is_IsNumeral, parse-signed_decimal}
use Rattle.std.proofs.lemmas.Slice.Eq.{bytes_eq-Decides}
use Rattle.hex.specs.Hex.{encode_lower, decode_of, IsBytes}
use Rattle.hex.specs.declared.error.FromHexError.{FromHexError}
use Rattle.hex.proofs.HexLemmas.{decode_of-encode_lower}
use Rattle.certificate_text.specs.Spelled.{spelled, number_of, signed_of, if_ok, bytes_of}
use Rattle.key_table.specs.Integers.{is_signed}

-- ---- a value where its text is the field

pub cond_some : {A : Type 0} (b : Bool) (x y : A) → cond b (Some x) None ≡ Some y → (b ≡ true) × (x ≡ y)
cond_some true x y e = (refl, cc)
cond_some false x y e = absurd cc

pub spelled_only : {A : Type 0} (text : A → List ℕ) (fits : A → Bool) (field : List ℕ) (x y : A) → spelled text fits field x ≡ Some y → (text y ≡ field) × (fits y ≡ true)
spelled_only text fits field x y e =
    let g = cond_some (bytes_eq (text x) field && fits x) x y e in
    let both = and_parts (bytes_eq (text x) field) (fits x) g.0 in
    (ap text (sym g.1) ∙ (bytes_eq-Decides (text x) field).0 both.0, ap fits (sym g.1) ∙ both.1)

pub spelled_again : {A : Type 0} (text : A → List ℕ) (fits : A → Bool) (x : A) → fits x ≡ true → spelled text fits (text x) x ≡ Some x
spelled_again text fits x h =
    let same = (bytes_eq-Decides (text x) (text x)).1 refl in
    rw (same, h) refl

-- where the value is of no field, or does not fit
pub spelled_none : {A : Type 0} (text : A → List ℕ) (fits : A → Bool) (field : List ℕ) (x : A) → (text x ≡ field → fits x ≡ true → ⊥) → spelled text fits field x ≡ None
spelled_none text fits field x never =
    let off : (bytes_eq (text x) field && fits x) ≡ false = false_from_ne_true _ (λ h. let both = and_parts (bytes_eq (text x) field) (fits x) h in never ((bytes_eq-Decides (text x) field).0 both.0) both.1) in
    rw off refl

-- ---- numbers

pub number_only : (field : List ℕ) (n : ℕ) → number_of field ≡ Some n → (decimal n ≡ field) × (n < 4294967296)
unfolding number_of
number_only field n e =
    let s = spelled_only decimal (λ n. ltb n 4294967296) field (digits_value 10 field) n e in
    (s.0, ltb-true n 4294967296 s.1)

pub number_again : (n : ℕ) → n < 4294967296 → number_of (decimal n) ≡ Some n
unfolding number_of
number_again n small =
    let value : digits_value 10 (decimal n) ≡ n = (decimal_is_IsNumeral n (omega arith)).1 in
    ap (spelled decimal (λ n. ltb n 4294967296) (decimal n)) value ∙ spelled_again decimal (λ n. ltb n 4294967296) n (lt-ltb n 4294967296 small)

pub signed_fits : (z : ℤ) → is_signed z ≡ true → FitsSigned w64 z
signed_fits (pos n) h = record { sfits = ltb-true n 9223372036854775808 h }
signed_fits (negsuc n) h = record { sfits = ltb-true n 9223372036854775808 h }

pub fits_signed : (z : ℤ) → FitsSigned w64 z → is_signed z ≡ true
fits_signed (pos n) h = lt-ltb n 9223372036854775808 h.sfits
fits_signed (negsuc n) h = lt-ltb n 9223372036854775808 h.sfits

pub signed_only : (field : List ℕ) (z : ℤ) → signed_of field ≡ Some z → (signed_decimal z ≡ field) × (is_signed z ≡ true)
unfolding signed_of
signed_only field z e = spelled_only signed_decimal is_signed field (signed_digits_value 10 field) z e

-- Whatever is parsed as the text of z is z.
parsed : {E : Type 0} (z : ℤ) (r : Result ℤ E) → is_signed z ≡ true → ParsesSigned w64 10 (signed_decimal z) r → r ≡ Ok z
parsed z r h p = let f = signed_fits z h in parse-signed_decimal w64 z (signed_decimal z) r f f.sfits refl p

abbrev parsed_ok : ℤ → Result ℤ Bool
parsed_ok z = Ok z

abbrev parsed_err : Result ℤ Bool
parsed_err = Err true

signed_value : (z : ℤ) → is_signed z ≡ true → signed_digits_value 10 (signed_decimal z) ≡ z
signed_value z h =
    let v = signed_digits_value 10 (signed_decimal z) in
    let right : (v ≡ z → ⊥) → ⊥ = λ other.
    let never : IsNumeral 10 (without_leading_sign (signed_decimal z)) × FitsSigned w64 v → ⊥ = λ p. other (let e : parsed_ok v ≡ Ok z = parsed z (parsed_ok v) h (p, refl) in cc) in
    let e : parsed_err ≡ Ok z = parsed z parsed_err h never in
    absurd cc
    in
    elim (cases_Bool (int_eq v z)) [
      | inl same ↦ (Decides-int_eq v z).0 same
      | inr other ↦ absurd (right (λ e. absurd (true≢false (sym ((Decides-int_eq v z).1 e) ∙ other))))
    ]

pub signed_again : (z : ℤ) → is_signed z ≡ true → signed_of (signed_decimal z) ≡ Some z
unfolding signed_of
signed_again z h = ap (spelled signed_decimal is_signed (signed_decimal z)) (signed_value z h) ∙ spelled_again signed_decimal is_signed z h

-- ---- bytes in hexadecimal

bytes_from : (field bytes : List ℕ) (r : Result (List ℕ) FromHexError) → option_and_then (spelled encode_lower (λ bytes. true) field) (if_ok r) ≡ Some bytes → encode_lower bytes ≡ field
bytes_from field bytes (Ok b) e = (spelled_only encode_lower (λ bytes. true) field b bytes e).0
bytes_from field bytes (Err d) e = absurd cc

pub bytes_only : (field bytes : List ℕ) → bytes_of field ≡ Some bytes → encode_lower bytes ≡ field
unfolding bytes_of
bytes_only field bytes e = bytes_from field bytes (decode_of field) e

at_bytes : (bytes : List ℕ) → AllByRecursion (λ b. b < 256) bytes → IsBytes bytes
at_bytes [] each i = omega arith
at_bytes (b ∷ bytes) each zero = each.0
at_bytes (b ∷ bytes) each (suc i) = at_bytes bytes each.1 i

pub bytes_again : (bytes : List ℕ) → AllByRecursion (λ b. b < 256) bytes → bytes_of (encode_lower bytes) ≡ Some bytes
unfolding bytes_of
bytes_again bytes each =
    ap (λ r. option_and_then (spelled encode_lower (λ bytes. true) (encode_lower bytes)) (if_ok r)) (decode_of-encode_lower bytes (at_bytes bytes each))
    ∙ spelled_again encode_lower (λ bytes. true) bytes refl
