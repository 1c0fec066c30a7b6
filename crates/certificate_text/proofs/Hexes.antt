-- An even number of hexadecimal digits in lower case is the text of some bytes, and no other text is.
use Rattle.std.proofs.Common.{◌≡◌, ℕ, suc, ◌+◌, ◌-◌, ◌*◌, ◌/◌, ◌%◌, ◌<◌, ◌≤◌, inl, inr, List, [], ◌∷◌, length, slice_index, bytes_eq, true, false, ◌&&◌, cond, eqb, leb, ltb, Some, None, unwrap_or, Result, Ok, Err, refl, sym, ap, ◌∙◌, arith}
use Rattle.std.specs.Prelude.{option_and_then}
use Rattle.std.specs.List.{list_all}
use Rattle.std.proofs.lemmas.Bool.{and_parts, and_from, or_cases, leb-true, le-leb, lt-leb, lt-ltb, le-ltb, eqb-true, eq-eqb, true≢false, agree_below_at}
use Rattle.hex.specs.Hex.{IsBytes, decode_of, decode_pairs, hex_digit_value, encode_lower, encode_with, lower_digits}
use Rattle.hex.specs.declared.error.FromHexError.{FromHexError}
use Rattle.hex.proofs.HexLemmas.{length-encode_with, decode_of-even, decode_of-ok}
use Rattle.certificate_text.specs.Spelled.{spelled, bytes_of, if_ok}
use Rattle.certificate_text.specs.Forms.{is_hex, is_hex_digit}
use Rattle.certificate_text.specs.Views.{unhex}
use Rattle.certificate_text.proofs.Spellings.{cond_some, spelled_again, bytes_only}

-- the digit of a value
abbrev glyph : ℕ → ℕ
glyph v = cond (ltb v 10) (48 + v) (87 + v)

glyph_at : (v : ℕ) → v < 16 → slice_index lower_digits v ≡ glyph v
glyph_at v small = eqb-true _ _ (agree_below_at (λ v. eqb (slice_index lower_digits v) (glyph v)) (λ v. true) 16 v refl small)

digit_at : (v : ℕ) → v < 16 → is_hex_digit (slice_index lower_digits v) ≡ true
digit_at v small = agree_below_at (λ v. is_hex_digit (slice_index lower_digits v)) (λ v. true) 16 v refl small

record IsDigit (d : ℕ) : Type 0 where
  value : ℕ
  small : value < 16
  is : hex_digit_value d ≡ Some value
  glyph_is : slice_index lower_digits value ≡ d

digit : (d : ℕ) → is_hex_digit d ≡ true → IsDigit d
digit d h =
    elim (or_cases (leb 48 d && leb d 57) (leb 97 d && leb d 102) h) [
      | inl low ↦ (
          let p = and_parts (leb 48 d) (leb d 57) low in
          let a : 48 ≤ d = leb-true 48 d p.0 in
          let b : d ≤ 57 = leb-true d 57 p.1 in
          let n1 : leb 65 d ≡ false = lt-leb 65 d (omega arith) in
          let n2 : leb 97 d ≡ false = lt-leb 97 d (omega arith) in
          let ten : ltb (d - 48) 10 ≡ true = lt-ltb (d - 48) 10 (omega arith) in
          let back : 48 + (d - 48) ≡ d = omega arith in
          record { value = d - 48; small = omega arith; is = rw (n1, n2, p.0, p.1) refl; glyph_is = glyph_at (d - 48) (omega arith) ∙ ap (λ t. cond t (48 + (d - 48)) (87 + (d - 48))) ten ∙ back })
      | inr high ↦ (
          let p = and_parts (leb 97 d) (leb d 102) high in
          let a : 97 ≤ d = leb-true 97 d p.0 in
          let b : d ≤ 102 = leb-true d 102 p.1 in
          let n1 : leb d 70 ≡ false = lt-leb d 70 (omega arith) in
          let y1 : leb 65 d ≡ true = le-leb 65 d (omega arith) in
          let ten : ltb (d - 87) 10 ≡ false = le-ltb (d - 87) 10 (omega arith) in
          let back : 87 + (d - 87) ≡ d = omega arith in
          record { value = d - 87; small = omega arith; is = rw (y1, n1, p.0, p.1) refl; glyph_is = glyph_at (d - 87) (omega arith) ∙ ap (λ t. cond t (48 + (d - 87)) (87 + (d - 87))) ten ∙ back })
    ]

record Decodes (i : ℕ) (digits : List ℕ) : Type 0 where
  bytes : List ℕ
  is : decode_pairs i digits ≡ Ok bytes
  text : encode_with lower_digits bytes ≡ digits

decodes : (i : ℕ) (digits : List ℕ) → length digits % 2 ≡ 0 → list_all is_hex_digit digits ≡ true → Decodes i digits
unfolding decode_pairs encode_with
decodes i [] even all = record { bytes = []; is = refl; text = refl }
decodes i (d ∷ []) even all = absurd (omega arith)
decodes i (h ∷ l ∷ digits) even all =
    let p = and_parts (is_hex_digit h) (is_hex_digit l && list_all is_hex_digit digits) all in
    let q = and_parts (is_hex_digit l) (list_all is_hex_digit digits) p.1 in
    let a = digit h p.0 in
    let b = digit l q.0 in
    let c = decodes (i + 2) digits (omega arith) q.1 in
    let high : (a.value * 16 + b.value) / 16 ≡ a.value = omega (arith, b.small) in
    let low : (a.value * 16 + b.value) % 16 ≡ b.value = omega (arith, b.small) in
    record {
      bytes = (a.value * 16 + b.value) ∷ c.bytes;
      is = rw (a.is, b.is, c.is) refl;
      text = rw (high, low, a.glyph_is, b.glyph_is, c.text) refl;
    }

pub hex_known : (digits : List ℕ) → is_hex digits ≡ true → bytes_of digits ≡ Some (unhex digits)
unfolding bytes_of
hex_known digits h =
    let p = and_parts (eqb (length digits % 2) 0) (list_all is_hex_digit digits) h in
    let even : length digits % 2 ≡ 0 = eqb-true _ _ p.0 in
    let d = decodes 0 digits even p.1 in
    let is : bytes_of digits ≡ Some d.bytes =
    ap (λ r. option_and_then (spelled encode_lower (λ bytes. true) digits) (if_ok r)) (decode_of-even digits even ∙ d.is)
    ∙ ap (λ f. spelled encode_lower (λ bytes. true) f d.bytes) (sym d.text) ∙ spelled_again encode_lower (λ bytes. true) d.bytes refl
    in
    is ∙ sym (ap (λ o. Some (unwrap_or o [])) is)

encoded_digits : (bytes : List ℕ) → IsBytes bytes → list_all is_hex_digit (encode_with lower_digits bytes) ≡ true
unfolding encode_with
encoded_digits [] fits = refl
encoded_digits (b ∷ bytes) fits =
    let small : b < 256 = fits 0 in
    and_from _ _ (digit_at (b / 16) (omega arith)) (and_from _ _ (digit_at (b % 16) (omega arith)) (encoded_digits bytes (λ i. fits (suc i))))

pub encoded_hex : (bytes : List ℕ) → IsBytes bytes → is_hex (encode_lower bytes) ≡ true
encoded_hex bytes fits = and_from _ _ (eq-eqb _ _ (omega (arith, length-encode_with lower_digits bytes))) (encoded_digits bytes fits)

pub decoded : (field bytes : List ℕ) (r : Result (List ℕ) FromHexError) → option_and_then (spelled encode_lower (λ bytes. true) field) (if_ok r) ≡ Some bytes → r ≡ Ok bytes
decoded field bytes (Ok b) e = ap (λ x. Ok x) (cond_some (bytes_eq (encode_lower b) field && true) b bytes e).1
decoded field bytes (Err d) e = absurd cc

of_some : (digits : List ℕ) (bytes : List ℕ) → bytes_of digits ≡ Some bytes → is_hex digits ≡ true
unfolding bytes_of
of_some digits bytes e = sym (ap is_hex (bytes_only digits bytes e)) ∙ encoded_hex bytes (decode_of-ok digits bytes (decoded digits bytes (decode_of digits) e)).3

pub hex_other : (digits : List ℕ) → is_hex digits ≡ false → bytes_of digits ≡ None
hex_other digits h =
    elim (bytes_of digits) as (λ o. bytes_of digits ≡ o → o ≡ None) [
      | None ↦ (λ e. refl)
      | Some bytes ↦ (λ e. absurd (true≢false (sym (of_some digits bytes e) ∙ h)))
    ] refl
