-- Words that are numbers, by what `parse` answers.
use Rattle.std.proofs.Common.{◌≡◌, ◌≢◌, ℕ, zero, suc, lit<, ◌<◌, ◌≤◌, ◌^◌, List, [], ◌∷◌, length, get_or, true, false, ◌&&◌, leb, bytes_eq, Bool, Some, None, if◌then◌else◌, Result, Ok, Err, refl, ap, sym, ◌∙◌, subst, arith}
use Rattle.std.specs.Bool.{then_some}
use Rattle.std.specs.Fmt.{decimal}
use Rattle.std.specs.Str.Parse.{AllDigits, digits_value, ParsesUnsigned}
use Rattle.std.proofs.lemmas.Grind.{common_steps}
use Rattle.std.proofs.lemmas.Bool.{false≢true, false_from_ne_true, and_parts, and_from, le-leb, leb-true, lt-leb}
use Rattle.std.proofs.lemmas.Bool.Decides.{same_from_decides}
use Rattle.std.proofs.lemmas.Slice.Eq.{bytes_eq-Decides}
use Rattle.std.proofs.lemmas.Str.Parse.{IsNumeralModel, numerals_by_value, tells_digits, parse_plain}
use Rattle.std.proofs.lemmas.Fmt.{decimal-digits_value, parse-decimal, decimal_nonempty, first_decimal, decimal_digit}
use Rattle.euclidc_commands.specs.Words.{is_number, number_in}
use Rattle.euclidc_commands.specs.Unpadded.{is_unpadded}

own : IsNumeralModel (AllDigits 10) (digits_value 10)
own = numerals_by_value (AllDigits 10) tells_digits

-- a number's word is what is written for the number, which is small enough
number_says : (most : ℕ) (word : List ℕ) → is_number most word ≡ true → (word ≡ decimal (digits_value 10 word)) × (digits_value 10 word ≤ most)
number_says most word is =
    let p = and_parts (bytes_eq word (decimal (digits_value 10 word))) (leb (digits_value 10 word) most) is in
    ((bytes_eq-Decides word (decimal (digits_value 10 word))).0 p.0, leb-true _ _ p.1)

unpadded-first : (ds : List ℕ) → 0 < length ds → 48 < get_or ds 0 0 → is_unpadded ds ≡ true
unpadded-first [] some above = absurd (omega arith)
unpadded-first (d ∷ ds) some above = grind (arith, common_steps)

first-unpadded : (ds : List ℕ) → is_unpadded ds ≡ true → (get_or ds 0 0 ≢ 43) × (get_or ds 0 0 ≡ 48 → length ds ≡ 1)
first-unpadded [] is = absurd (false≢true is)
first-unpadded (d ∷ ds) is = ((λ e. grind (arith, common_steps)), (λ e. grind (arith, common_steps)))

unpadded-decimal : (n : ℕ) → n < 2 ^ 64 → is_unpadded (decimal n) ≡ true
unpadded-decimal zero small = rw (decimal_digit 0 (lit< tt))
unpadded-decimal (suc n) small = unpadded-first (decimal (suc n)) (decimal_nonempty (suc n) small) (first_decimal (suc n) (omega arith) small)

fits64 : (n most : ℕ) → n ≤ most → most < 2 ^ 32 → n < 2 ^ 64
fits64 n most le lt = omega arith

abbrev Parsed : List ℕ → Result ℕ ℕ → Type 0
Parsed word r = ParsesUnsigned {E = ℕ} 32 10 word r

number-said : (most : ℕ) (word : List ℕ) (n : ℕ) → Parsed word (Ok n) → (leb n most && is_unpadded word) ≡ true → is_number most word ≡ true
number-said most word n parsed both =
    let r : Result ℕ ℕ = Ok n in
    let p = and_parts (leb n most) (is_unpadded word) both in
    let first = first-unpadded word p.1 in
    let says = parse_plain own 32 word r parsed first.0 in
    let below : digits_value 10 word < 2 ^ 32 = says.0.2 in
    let low : digits_value 10 word < 2 ^ 64 = omega (arith, below) in
    let le : n ≤ most = leb-true _ _ p.0 in
    let same : n ≡ digits_value 10 word = says.1 in
    let within : digits_value 10 word ≤ most = omega (arith, le, same) in
    and_from _ _ ((bytes_eq-Decides word (decimal (digits_value 10 word))).1 (sym (decimal-digits_value own word says.0.0 says.0.1 first.1 low))) (le-leb _ _ within)

said-number : (most : ℕ) (word : List ℕ) (n : ℕ) → most < 2 ^ 32 → Parsed word (Ok n) → is_number most word ≡ true → (leb n most && is_unpadded word) ≡ true
said-number most word n small parsed is =
    let r : Result ℕ ℕ = Ok n in
    let p = number_says most word is in
    let le : digits_value 10 word ≤ most = p.1 in
    let below : digits_value 10 word < 2 ^ 32 = omega (arith, le, small) in
    let e : r ≡ Ok (digits_value 10 word) = parse-decimal 32 (digits_value 10 word) word r below (fits64 _ most le small) p.0 parsed in
    let same : n ≡ digits_value 10 word = cc e in
    let within : n ≤ most = omega (arith, same, le) in
    and_from _ _ (le-leb _ _ within) (subst (λ (w : List ℕ). is_unpadded w ≡ true) (sym p.0) (unpadded-decimal (digits_value 10 word) (fits64 _ most le small)))

pub number-ok : (most : ℕ) (word : List ℕ) (n : ℕ) → most < 2 ^ 32 → Parsed word (Ok n) → (leb n most && is_unpadded word) ≡ is_number most word
number-ok most word n small parsed =
    same_from_decides {P = is_number most word ≡ true} _ _ (number-said most word n parsed, said-number most word n small parsed) ((λ h. h), (λ h. h))

pub number-large : (most : ℕ) (word : List ℕ) (n : ℕ) → most < 2 ^ 32 → Parsed word (Ok n) → most < n → leb n most ≡ is_number most word
number-large most word n small parsed large = sym (rw (lt-leb _ _ large)) ∙ number-ok most word n small parsed

pub number-err : (most : ℕ) (word : List ℕ) → most < 2 ^ 32 → Parsed word (Err 0) → false ≡ is_number most word
number-err most word small parsed = sym (false_from_ne_true _ (λ is.
    let r : Result ℕ ℕ = Err 0 in
    let p = number_says most word is in
    let le : digits_value 10 word ≤ most = p.1 in
    let below : digits_value 10 word < 2 ^ 32 = omega (arith, le, small) in
    let e : r ≡ Ok (digits_value 10 word) = parse-decimal 32 (digits_value 10 word) word r below (fits64 _ most le small) p.0 parsed in
    cc e))

number-same : (most : ℕ) (word : List ℕ) (n : ℕ) → most < 2 ^ 32 → Parsed word (Ok n) → is_number most word ≡ true → n ≡ digits_value 10 word
number-same most word n small parsed is =
    let r : Result ℕ ℕ = Ok n in
    let p = number_says most word is in
    let le : digits_value 10 word ≤ most = p.1 in
    let below : digits_value 10 word < 2 ^ 32 = omega (arith, le, small) in
    let e : r ≡ Ok (digits_value 10 word) = parse-decimal 32 (digits_value 10 word) word r below (fits64 _ most le small) p.0 parsed in
    cc e

found-same : (b : Bool) (n d : ℕ) → (b ≡ true → n ≡ d) → then_some b n ≡ (if b then Some d else None)
found-same true n d same = ap Some (same refl)
found-same false n d same = refl

pub number-found : (most : ℕ) (word : List ℕ) (n : ℕ) → most < 2 ^ 32 → Parsed word (Ok n) → then_some (leb n most && is_unpadded word) n ≡ number_in most word
number-found most word n small parsed =
    subst (λ (b : Bool). then_some b n ≡ number_in most word) (sym (number-ok most word n small parsed)) (found-same (is_number most word) n (digits_value 10 word) (number-same most word n small parsed))

pub number-none : (most : ℕ) (word : List ℕ) → most < 2 ^ 32 → Parsed word (Err 0) → None ≡ number_in most word
number-none most word small parsed =
    subst (λ (b : Bool). None ≡ (if b then Some (digits_value 10 word) else None)) (number-err most word small parsed) refl
