-- The numerals that stand for items.
use Rattle.std.proofs.Common.{◌≡◌, ◌≢◌, ℕ, ◌^◌, ◌<◌, List, [], ◌∷◌, ◌++◌, length, get_or, true, false, not, ◌||◌, ◌⊎◌, inl, inr, Some, decimal, refl, sym, ap, ◌∙◌, arith, append-nil, ne_eqb, eq-eqb, lt-ltb}
use Rattle.std.proofs.Math.Bool.{or-true}
use Rattle.std.proofs.lemmas.Bool.{cases_eq}
use Rattle.std.proofs.lemmas.Float.Parse.{scan_numeral-text_of}
use Rattle.std.proofs.lemmas.Fmt.{decimal_is_IsNumeral, decimal_digit, first_decimal}
use Rattle.std.proofs.lemmas.Str.Parse.{digit_from_value}
use Rattle.std.specs.Prelude.{◌==◌}
use Rattle.std.specs.Float.Numeral.{Parts, scan_numeral, IsWellFormed}
use Rattle.std.specs.Str.Parse.{AllDigits, digits_value}
use Rattle.serde_json.specs.Find.{index_of}
use Rattle.serde_json.proofs.Paths.{Lacks}
use Rattle.json_shape.proofs.Escapes.{lacks_cons}

-- a numeral of digits alone
abbrev parts : List ℕ → Parts
parts digits = record { whole = digits; point = false; fraction = []; exponent_negative = false; exponent = []; len = length (digits ++ []) }

-- digits have no /
pub digits-lack : (ds : List ℕ) → AllDigits 10 ds → Lacks 47 ds
digits-lack [] all = λ i less. absurd (omega arith)
digits-lack (d ∷ ds) all = lacks_cons 47 d ds (let r = digit_from_value d all.0 in omega (arith, r.0)) (digits-lack ds all.1)

scan-digits : (ds : List ℕ) → AllDigits 10 ds → scan_numeral ds ≡ parts ds
scan-digits ds all =
    let formed : IsWellFormed (parts ds) = record { whole_digits = all; fraction_digits = tt; exponent_digits = tt; no_point = λ _. refl; no_exponent = λ _. refl; len_is = refl } in
    ap scan_numeral (sym (append-nil ds)) ∙ scan_numeral-text_of (parts ds) formed

index_of-digits : (ds : List ℕ) (n : ℕ) → 0 < length ds → AllDigits 10 ds → digits_value 10 ds ≡ n → n < 2 ^ 64 → (length ds ≡ 1) ⊎ (get_or ds 0 0 ≢ 48) → index_of ds ≡ Some n
unfolding index_of
index_of-digits ds n some all value fits plain =
    let shortest : ((length ds == 1) || not (get_or ds 0 0 == 48)) ≡ true = elim plain [ inl one ↦ rw (eq-eqb (length ds) 1 one) | inr no_zero ↦ rw (ne_eqb (get_or ds 0 0) 48 no_zero) (or-true (length ds == 1)) ] in
    rw (scan-digits ds all, append-nil, lt-ltb 0 (length ds) some, eq-eqb (length ds) (length ds) refl, value, lt-ltb n (2 ^ 64) fits, shortest)

pub index_of-decimal : (n : ℕ) → n < 2 ^ 64 → index_of (decimal n) ≡ Some n
index_of-decimal n fits =
    let e = decimal_is_IsNumeral n fits in
    let plain : (length (decimal n) ≡ 1) ⊎ (get_or (decimal n) 0 0 ≢ 48) = elim (cases_eq n 0) [ inl none ↦ inl (ap length (decimal_digit n (omega arith))) | inr some ↦ inr (let first = first_decimal n (omega arith) fits in λ zero. omega (arith, first)) ] in
    index_of-digits (decimal n) n e.0.0 e.0.1 e.1 fits plain
