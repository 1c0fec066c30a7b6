-- The longest text that has the form of a token.
use Rattle.std.proofs.Common.{◌≡◌, ℕ, zero, suc, ◌+◌, ◌<◌, ◌≤◌, Bool, true, false, cond, if◌then◌else◌, not, ◌&&◌, ◌||◌, ◌==◌, nat_le, List, [], ◌∷◌, length, get_or, Option, Some, None, bytes_eq, take, drop, Ok, Err, refl, ap, sym, ◌∙◌, subst, ⊎_elim, arith}
use Rattle.std.specs.List.{prefix_len, list_all, list_any, find}
use Rattle.std.proofs.lemmas.Bool.{both_ways, eq-eqb, eqb-false, eqb-true, ne_eqb, cond-true, cond-false, cond_both, and_left, or_left, or_from, or_parts, cases_Bool}
use Rattle.std.specs.Str.Parse.{signed_digits_value}
use Rattle.std.proofs.lemmas.Bool.Decides.{nat_tests}
use Rattle.std.proofs.lemmas.List.{length-take-le, length-drop}
use Rattle.euclid_lexer.proofs.Bytes.{next-true}
use Rattle.std.proofs.lemmas.List.Sums.{prefix_len-le-length}
use Rattle.key_table.specs.Names.{is_letter, is_letter_or_digit}
use Rattle.euclid_lexer.specs.declared.token.Sign.{Sign}
use Rattle.euclid_lexer.specs.declared.token.Sign.TheVariants.{Colon, NotEqual, Less, LessEqual, Greater, GreaterEqual}
use Rattle.euclid_lexer.specs.declared.token.Token.TheVariants.{Word, Str, Number}
use Rattle.euclid_lexer.specs.Signs.{sign_text, signs}
use Rattle.key_table.specs.Integers.{is_signed}
use Rattle.euclid_lexer.specs.Tokens.{is_digit, is_inner, next_is, begins, begins_number, fault, word_at, string_at, number_at, sign_or_fault, sign_at, token_at}
use Rattle.euclid_lexer.specs.Longest.{is_closed, is_string, is_number, is_sign, has_form, IsLongest, IsFront, LongestLaw}

-- what passes at the front passes as far as the first that does not
pub all_up_to : (p : ℕ → Bool) (xs : List ℕ) (m : ℕ) → m ≤ prefix_len p xs → list_all p (take m xs) ≡ true
all_up_to p [] zero h = refl
all_up_to p [] (suc m) h = refl
all_up_to p (x ∷ xs) zero h = refl
all_up_to p (x ∷ xs) (suc m) h =
    elim (p x) as (λ v. suc m ≤ cond v (1 + prefix_len p xs) 0 → (v && list_all p (take m xs)) ≡ true) [
      | true ↦ λ k. all_up_to p xs m (omega (arith, k))
      | false ↦ λ k. absurd (omega (arith, k))
    ] h

pub not_past : (p : ℕ → Bool) (xs : List ℕ) (m : ℕ) → prefix_len p xs < m → m ≤ length xs → list_all p (take m xs) ≡ false
not_past p [] m h within = absurd (omega arith)
not_past p (x ∷ xs) zero h within = absurd (omega arith)
not_past p (x ∷ xs) (suc m) h within =
    elim (p x) as (λ v. cond v (1 + prefix_len p xs) 0 < suc m → (v && list_all p (take m xs)) ≡ false) [
      | true ↦ λ k. not_past p xs m (omega (arith, k)) (omega arith)
      | false ↦ λ k. refl
    ] h

-- ---- a string ends at its first quote, and nowhere else

abbrev is_quote : ℕ → Bool
is_quote c = c == 34

-- a string with one more byte in front, which is a quote, a line feed or another
abbrev closed_with : Bool → Bool → List ℕ → Bool
closed_with q l bs = if q then length bs == 0 else (not l && is_closed bs)

abbrev reach : Bool → Bool → ℕ → ℕ
reach q l n = cond (not (q || l)) (1 + n) 0

there_step : (q l : Bool) (b n : ℕ) (bs : List ℕ) → (b == 34) ≡ q → (next_is is_quote (drop n bs) ≡ true → is_closed (take (suc n) bs) ≡ true)
    → next_is is_quote (drop (reach q l n) (b ∷ bs)) ≡ true → closed_with q l (take (reach q l n) bs) ≡ true
there_step true l b n bs e on next = refl
there_step false true b n bs e on next = absurd (both_ways (b == 34) e next)
there_step false false b n bs e on next =
    let more : 1 + n ≡ suc n = omega arith in
    ap (λ k. is_closed (take k bs)) more ∙ on (sym (ap (λ k. next_is is_quote (drop k (b ∷ bs))) more) ∙ next)

closed_there : (bs : List ℕ) → next_is is_quote (drop (prefix_len is_inner bs) bs) ≡ true → is_closed (take (suc (prefix_len is_inner bs)) bs) ≡ true
closed_there [] next = cc
closed_there (b ∷ bs) next = there_step (b == 34) (b == 10) b (prefix_len is_inner bs) bs refl (closed_there bs) next

else_step : (q l : Bool) (n m : ℕ) (bs : List ℕ) → (suc n < m → m ≤ length bs → is_closed (take m bs) ≡ false) → suc (reach q l n) < suc m → suc m ≤ suc (length bs) → closed_with q l (take m bs) ≡ false
else_step true l n m bs on h within = let len = length-take-le m bs (omega arith) in ne_eqb _ 0 (λ z. omega (arith, z, len))
else_step false true n m bs on h within = refl
else_step false false n m bs on h within = on (omega arith) (omega arith)

closed_nowhere_else : (bs : List ℕ) (m : ℕ) → suc (prefix_len is_inner bs) < m → m ≤ length bs → is_closed (take m bs) ≡ false
closed_nowhere_else [] m h within = absurd (omega arith)
closed_nowhere_else (b ∷ bs) zero h within = absurd (omega arith)
closed_nowhere_else (b ∷ bs) (suc m) h within = else_step (b == 34) (b == 10) (prefix_len is_inner bs) m bs (closed_nowhere_else bs m) h within

never_step : (q l : Bool) (b n m : ℕ) (bs : List ℕ) → (b == 34) ≡ q → (next_is is_quote (drop n bs) ≡ false → is_closed (take m bs) ≡ false)
    → next_is is_quote (drop (reach q l n) (b ∷ bs)) ≡ false → closed_with q l (take m bs) ≡ false
never_step true l b n m bs e on next = absurd (both_ways (b == 34) next e)
never_step false true b n m bs e on next = refl
never_step false false b n m bs e on next =
    let more : 1 + n ≡ suc n = omega arith in
    on (sym (ap (λ k. next_is is_quote (drop k (b ∷ bs))) more) ∙ next)

-- a string that is not closed
never_closed : (bs : List ℕ) (m : ℕ) → next_is is_quote (drop (prefix_len is_inner bs) bs) ≡ false → is_closed (take m bs) ≡ false
never_closed [] zero next = refl
never_closed [] (suc m) next = refl
never_closed (b ∷ bs) zero next = refl
never_closed (b ∷ bs) (suc m) next = never_step (b == 34) (b == 10) b (prefix_len is_inner bs) m bs refl (never_closed bs m) next

-- ---- what the first byte leaves open

or_nothing : (x y : Bool) → y ≡ false → (x || y) ≡ x
or_nothing true y e = refl
or_nothing false y e = e

-- whether some sign begins with this byte
abbrev begins_sign : ℕ → Bool
begins_sign b = list_any (λ s. get_or (sign_text s) 0 0 == b) signs

other_sign : (s : Sign) (b : ℕ) (bs : List ℕ) → (get_or (sign_text s) 0 0 == b) ≡ false → bytes_eq (sign_text s) (b ∷ bs) ≡ false
other_sign Colon b bs e = and_left (58 == b) _ e
other_sign s b bs e = and_left (get_or (sign_text s) 0 0 == b) _ e

no_sign : (ss : List Sign) (b : ℕ) (bs : List ℕ) → list_any (λ s. get_or (sign_text s) 0 0 == b) ss ≡ false → list_any (λ s. bytes_eq (sign_text s) (b ∷ bs)) ss ≡ false
no_sign [] b bs e = refl
no_sign (s ∷ ss) b bs e =
    let parts = or_parts (get_or (sign_text s) 0 0 == b) (list_any (λ s. get_or (sign_text s) 0 0 == b) ss) e in
    or_from _ _ (other_sign s b bs parts.0) (no_sign ss b bs parts.1)

letter_no_sign : (b : ℕ) → is_letter b ≡ true → begins_sign b ≡ false
letter_no_sign b e = grind (arith, nat_tests)

digit_no_sign : (b : ℕ) → is_digit b ≡ true → begins_sign b ≡ false
digit_no_sign b e = grind (arith, nat_tests)

letter_form : (b : ℕ) (bs : List ℕ) → is_letter b ≡ true → has_form (b ∷ bs) ≡ list_all is_letter_or_digit bs
letter_form b bs e =
    let quote : (b == 34) ≡ false = grind (arith, nat_tests) in
    let digit : is_digit b ≡ false = grind (arith, nat_tests) in
    let minus : (b == 45) ≡ false = grind (arith, nat_tests) in
    let rest = is_string (b ∷ bs) || (is_number (b ∷ bs) || is_sign (b ∷ bs)) in
    ap (λ v. (v && list_all is_letter_or_digit bs) || rest) e
    ∙ or_nothing (list_all is_letter_or_digit bs) rest
    (or_from _ _ (and_left (b == 34) _ quote) (or_from _ _ (and_left (begins_number (b ∷ bs)) _ (or_from _ _ digit (and_left (b == 45) _ minus))) (no_sign signs b bs (letter_no_sign b e))))

quote_form : (bs : List ℕ) → has_form (34 ∷ bs) ≡ is_closed bs
quote_form bs = or_nothing (is_closed bs) false refl

digit_form : (b : ℕ) (bs : List ℕ) → is_digit b ≡ true → has_form (b ∷ bs) ≡ list_all is_digit bs
digit_form b bs e =
    let letter : is_letter b ≡ false = grind (arith, nat_tests) in
    let quote : (b == 34) ≡ false = grind (arith, nat_tests) in
    let sign = is_sign (b ∷ bs) in
    ap (λ v. v || (is_string (b ∷ bs) || (is_number (b ∷ bs) || sign))) (and_left (is_letter b) _ letter)
    ∙ ap (λ v. v || (is_number (b ∷ bs) || sign)) (and_left (b == 34) _ quote)
    ∙ ap (λ v. (v && list_all is_digit bs) || sign) (or_left (is_digit b) _ e)
    ∙ or_nothing (list_all is_digit bs) sign (no_sign signs b bs (digit_no_sign b e))

minus_form : (bs : List ℕ) → has_form (45 ∷ bs) ≡ (next_is is_digit bs && list_all is_digit bs)
minus_form bs = or_nothing _ false refl

-- any other byte begins a sign or nothing
sign_form : (b : ℕ) (bs : List ℕ) → is_letter b ≡ false → (b == 34) ≡ false → is_digit b ≡ false → (b == 45) ≡ false → has_form (b ∷ bs) ≡ is_sign (b ∷ bs)
sign_form b bs l q d m =
    let sign = is_sign (b ∷ bs) in
    ap (λ v. v || (is_string (b ∷ bs) || (is_number (b ∷ bs) || sign))) (and_left (is_letter b) _ l)
    ∙ ap (λ v. v || (is_number (b ∷ bs) || sign)) (and_left (b == 34) _ q)
    ∙ ap (λ v. v || sign) (and_left (begins_number (b ∷ bs)) _ (or_from _ _ d (and_left (b == 45) _ m)))

-- ---- the longest of each kind

-- a text whose first byte is known, and of which nothing but a passing run is a token
longest_run : (p : ℕ → Bool) (b : ℕ) (bs : List ℕ) → ((cs : List ℕ) → has_form (b ∷ cs) ≡ list_all p cs) → IsLongest (b ∷ bs) (suc (prefix_len p bs))
longest_run p b bs form =
    let n = prefix_len p bs in
    record {
      within = omega (arith, prefix_len-le-length p bs);
      fits = form (take n bs) ∙ all_up_to p bs n (omega arith);
      longest = λ m more within. longer m more within;
    }
  where
    longer : (m : ℕ) → suc (prefix_len p bs) < m → m ≤ length (b ∷ bs) → has_form (take m (b ∷ bs)) ≡ false
    longer zero more within = absurd (omega arith)
    longer (suc m) more within = form (take m bs) ∙ not_past p bs m (omega arith) (omega arith)

longest_minus : (d : ℕ) (ds : List ℕ) → is_digit d ≡ true → IsLongest (45 ∷ d ∷ ds) (suc (suc (prefix_len is_digit ds)))
longest_minus d ds e =
    let n = prefix_len is_digit ds in
    record {
      within = omega (arith, prefix_len-le-length is_digit ds);
      fits = minus_form (d ∷ take n ds) ∙ ap (λ v. v && (v && list_all is_digit (take n ds))) e ∙ all_up_to is_digit ds n (omega arith);
      longest = λ m more within. longer m more within;
    }
  where
    longer : (m : ℕ) → suc (suc (prefix_len is_digit ds)) < m → m ≤ length (45 ∷ d ∷ ds) → has_form (take m (45 ∷ d ∷ ds)) ≡ false
    longer zero more within = absurd (omega arith)
    longer (suc zero) more within = absurd (omega arith)
    longer (suc (suc m)) more within = minus_form (d ∷ take m ds) ∙ ap (λ v. v && (v && list_all is_digit (take m ds))) e ∙ not_past is_digit ds m (omega arith) (omega arith)

longest_string : (bs : List ℕ) → next_is is_quote (drop (prefix_len is_inner bs) bs) ≡ true → IsLongest (34 ∷ bs) (prefix_len is_inner bs + 2)
longest_string bs next =
    let n = prefix_len is_inner bs in
    let reached = next-true is_quote (drop n bs) next in
    let two : n + 2 ≡ suc (suc n) = omega arith in
    record {
      within = omega (arith, reached.there, length-drop n bs);
      fits = ap (λ k. has_form (take k (34 ∷ bs))) two ∙ quote_form (take (suc n) bs) ∙ closed_there bs next;
      longest = λ m more within. longer m more within;
    }
  where
    longer : (m : ℕ) → prefix_len is_inner bs + 2 < m → m ≤ length (34 ∷ bs) → has_form (take m (34 ∷ bs)) ≡ false
    longer zero more within = absurd (omega arith)
    longer (suc m) more within = quote_form (take m bs) ∙ closed_nowhere_else bs m (omega arith) (omega arith)

no_string : (bs : List ℕ) (m : ℕ) → next_is is_quote (drop (prefix_len is_inner bs) bs) ≡ false → has_form (take m (34 ∷ bs)) ≡ false
no_string bs zero next = refl
no_string bs (suc m) next = quote_form (take m bs) ∙ never_closed bs m next

-- ---- signs

flip : (b c : ℕ) → (c == b) ≡ false → (b == c) ≡ false
flip b c e = ne_eqb b c (λ same. eqb-false c b e (sym same))

-- a byte that is a sign, with which nothing goes on
single : (c : ℕ) (bs : List ℕ) → has_form (c ∷ []) ≡ true → ((d : ℕ) (ds : List ℕ) → next_is (λ x. x == d) bs ≡ true → has_form (c ∷ d ∷ ds) ≡ false) → IsLongest (c ∷ bs) 1
single c bs one none = record { within = omega arith; fits = one; longest = λ m more within. longer bs none m more within }
  where
    longer : (bs : List ℕ) → ((d : ℕ) (ds : List ℕ) → next_is (λ x. x == d) bs ≡ true → has_form (c ∷ d ∷ ds) ≡ false) → (m : ℕ) → 1 < m → m ≤ length (c ∷ bs) → has_form (take m (c ∷ bs)) ≡ false
    longer bs none zero more within = absurd (omega arith)
    longer bs none (suc zero) more within = absurd (omega arith)
    longer [] none (suc (suc m)) more within = absurd (omega arith)
    longer (d ∷ ds) none (suc (suc m)) more within = none d (take m ds) (eq-eqb d d refl)

double : (c : ℕ) (bs : List ℕ) → has_form (c ∷ 61 ∷ []) ≡ true → ((d : ℕ) (ds : List ℕ) → has_form (c ∷ 61 ∷ d ∷ ds) ≡ false) → IsLongest (c ∷ 61 ∷ bs) 2
double c bs two none = record { within = omega arith; fits = two; longest = λ m more within. longer bs m more within }
  where
    longer : (bs : List ℕ) (m : ℕ) → 2 < m → m ≤ length (c ∷ 61 ∷ bs) → has_form (take m (c ∷ 61 ∷ bs)) ≡ false
    longer bs zero more within = absurd (omega arith)
    longer bs (suc zero) more within = absurd (omega arith)
    longer bs (suc (suc zero)) more within = absurd (omega arith)
    longer [] (suc (suc (suc m))) more within = absurd (omega arith)
    longer (d ∷ ds) (suc (suc (suc m))) more within = none d (take m ds)

abbrev SignFront : ℕ → List ℕ → ℕ → Type 0
SignFront at bs c = IsFront (c ∷ bs) (sign_at at (c ∷ bs))

slash : (at : ℕ) (bs : List ℕ) → SignFront at bs 47
slash at [] = λ m within. none m
  where
    none : (m : ℕ) → has_form (take m (47 ∷ [])) ≡ false
    none zero = refl
    none (suc zero) = refl
    none (suc (suc m)) = refl
slash at (c ∷ cs) =
    let F : Bool → Type 0 = λ v. IsFront (47 ∷ c ∷ cs) (sign_or_fault at (cond (v && true) (Some NotEqual) None)) in
    let P : ℕ → Type 0 = λ x. IsLongest (47 ∷ x ∷ cs) 2 in
    ⊎_elim (λ e. subst F (sym e) (subst P (sym (eqb-true c 61 e)) (double 47 cs refl (λ d ds. refl)))) (λ e. subst F (sym e) (λ m within. none e m)) (cases_Bool (c == 61))
  where
    none : (c == 61) ≡ false → (m : ℕ) → has_form (take m (47 ∷ c ∷ cs)) ≡ false
    none e zero = refl
    none e (suc zero) = refl
    none e (suc (suc m)) = or_from _ _ (and_left (61 == c) _ (flip 61 c e)) refl

less : (at : ℕ) (bs : List ℕ) → SignFront at bs 60
less at [] = single 60 [] refl (λ d ds e. cc)
less at (c ∷ cs) =
    let F : Bool → Type 0 = λ v. IsFront (60 ∷ c ∷ cs) (sign_or_fault at (cond (v && true) (Some LessEqual) (Some Less))) in
    let P : ℕ → Type 0 = λ x. IsLongest (60 ∷ x ∷ cs) 2 in
    ⊎_elim (λ e. subst F (sym e) (subst P (sym (eqb-true c 61 e)) (double 60 cs refl (λ d ds. refl))))
    (λ e. subst F (sym e) (single 60 (c ∷ cs) refl (λ d ds h. or_from _ _ (and_left (61 == d) _ (flip 61 d (subst (λ x. (x == 61) ≡ false) (eqb-true c d h) e))) refl))) (cases_Bool (c == 61))

greater : (at : ℕ) (bs : List ℕ) → SignFront at bs 62
greater at [] = single 62 [] refl (λ d ds e. cc)
greater at (c ∷ cs) =
    let F : Bool → Type 0 = λ v. IsFront (62 ∷ c ∷ cs) (sign_or_fault at (cond (v && true) (Some GreaterEqual) (Some Greater))) in
    let P : ℕ → Type 0 = λ x. IsLongest (62 ∷ x ∷ cs) 2 in
    ⊎_elim (λ e. subst F (sym e) (subst P (sym (eqb-true c 61 e)) (double 62 cs refl (λ d ds. refl))))
    (λ e. subst F (sym e) (single 62 (c ∷ cs) refl (λ d ds h. or_from _ _ (and_left (61 == d) _ (flip 61 d (subst (λ x. (x == 61) ≡ false) (eqb-true c d h) e))) refl))) (cases_Bool (c == 61))

-- a byte that begins no sign
other_begins : (s : Sign) (b : ℕ) (bs : List ℕ) → (get_or (sign_text s) 0 0 == b) ≡ false → begins (sign_text s) (b ∷ bs) ≡ false
other_begins Colon b bs e = and_left (b == 58) _ (flip b 58 e)
other_begins s b bs e = and_left (b == get_or (sign_text s) 0 0) _ (flip b (get_or (sign_text s) 0 0) e)

find_none : (ss : List Sign) (b : ℕ) (bs : List ℕ) → list_any (λ s. get_or (sign_text s) 0 0 == b) ss ≡ false → find (λ s. begins (sign_text s) (b ∷ bs)) ss ≡ None
find_none [] b bs e = refl
find_none (s ∷ ss) b bs e =
    let parts = or_parts (get_or (sign_text s) 0 0 == b) (list_any (λ s. get_or (sign_text s) 0 0 == b) ss) e in
    cond-false (begins (sign_text s) (b ∷ bs)) _ _ (other_begins s b bs parts.0) ∙ find_none ss b bs parts.1

none_front : (at b : ℕ) (bs : List ℕ) → begins_sign b ≡ false → ((m : ℕ) → has_form (take m (b ∷ bs)) ≡ false) → SignFront at bs b
none_front at b bs e none = subst (λ (o : Option Sign). IsFront (b ∷ bs) (sign_or_fault at o)) (sym (find_none signs b bs e)) (λ m within. none m)

no_form : (b : ℕ) (bs : List ℕ) → is_letter b ≡ false → (b == 34) ≡ false → is_digit b ≡ false → (b == 45) ≡ false → begins_sign b ≡ false → (m : ℕ) → has_form (take m (b ∷ bs)) ≡ false
no_form b bs l q d n e zero = refl
no_form b bs l q d n e (suc m) = sign_form b (take m bs) l q d n ∙ no_sign signs b (take m bs) e

pick : (b c : ℕ) (P : ℕ → Type 0) → P c → ((c == b) ≡ false → P b) → P b
pick b c P here there = ⊎_elim (λ (e : (c == b) ≡ true). subst P (eqb-true c b e) here) there (cases_Bool (c == b))

sign_front : (at b : ℕ) (bs : List ℕ) → is_letter b ≡ false → (b == 34) ≡ false → is_digit b ≡ false → (b == 45) ≡ false → SignFront at bs b
sign_front at b bs l q d n =
    pick b 58 (SignFront at bs) (single 58 bs refl (λ d ds e. refl)) (λ n58.
    pick b 91 (SignFront at bs) (single 91 bs refl (λ d ds e. refl)) (λ n91.
    pick b 93 (SignFront at bs) (single 93 bs refl (λ d ds e. refl)) (λ n93.
    pick b 123 (SignFront at bs) (single 123 bs refl (λ d ds e. refl)) (λ n123.
    pick b 125 (SignFront at bs) (single 125 bs refl (λ d ds e. refl)) (λ n125.
    pick b 40 (SignFront at bs) (single 40 bs refl (λ d ds e. refl)) (λ n40.
    pick b 41 (SignFront at bs) (single 41 bs refl (λ d ds e. refl)) (λ n41.
    pick b 44 (SignFront at bs) (single 44 bs refl (λ d ds e. refl)) (λ n44.
    pick b 38 (SignFront at bs) (single 38 bs refl (λ d ds e. refl)) (λ n38.
    pick b 64 (SignFront at bs) (single 64 bs refl (λ d ds e. refl)) (λ n64.
    pick b 37 (SignFront at bs) (single 37 bs refl (λ d ds e. refl)) (λ n37.
    pick b 61 (SignFront at bs) (single 61 bs refl (λ d ds e. refl)) (λ n61.
    pick b 47 (SignFront at bs) (slash at bs) (λ n47.
    pick b 60 (SignFront at bs) (less at bs) (λ n60.
    pick b 62 (SignFront at bs) (greater at bs) (λ n62.
    let e : begins_sign b ≡ false = (or_from _ _ n58 (or_from _ _ n91 (or_from _ _ n93 (or_from _ _ n123 (or_from _ _ n125 (or_from _ _ n40 (or_from _ _ n41 (or_from _ _ n44 (or_from _ _ n38 (or_from _ _ n64 (or_from _ _ n37 (or_from _ _ n61 (or_from _ _ n47 (or_from _ _ n60 (or_from _ _ n60 (or_from _ _ n62 (or_from _ _ n62 refl))))))))))))))))) in
    none_front at b bs e (no_form b bs l q d n e)
    )))))))))))))))

-- ---- all of it

next_take : (p : ℕ → Bool) (bs : List ℕ) (m : ℕ) → next_is p bs ≡ false → next_is p (take m bs) ≡ false
next_take p [] zero e = refl
next_take p [] (suc m) e = refl
next_take p (b ∷ bs) zero e = refl
next_take p (b ∷ bs) (suc m) e = e

-- a `-` with no digit behind it
minus_front : (at : ℕ) (bs : List ℕ) → next_is is_digit bs ≡ false → SignFront at bs 45
minus_front at bs e = none_front at 45 bs refl none
  where
    none : (m : ℕ) → has_form (take m (45 ∷ bs)) ≡ false
    none zero = refl
    none (suc m) = minus_form (take m bs) ∙ and_left (next_is is_digit (take m bs)) _ (next_take is_digit bs m e)

word_front : (at b : ℕ) (bs : List ℕ) → is_letter b ≡ true → IsFront (b ∷ bs) (word_at at (b ∷ bs))
word_front at b bs e =
    let also : is_letter_or_digit b ≡ true = ap (λ v. v || (nat_le 48 b && nat_le b 57)) e in
    let k = prefix_len is_letter_or_digit bs in
    let n : prefix_len is_letter_or_digit (b ∷ bs) ≡ suc k = cond-true (is_letter_or_digit b) (1 + k) 0 also ∙ omega arith in
    let P : ℕ → Type 0 = λ n. IsFront (b ∷ bs) (if nat_le n 255 then Ok (Word (take n (b ∷ bs)), n) else Err (fault at 5)) in
    let long = longest_run is_letter_or_digit b bs (λ cs. letter_form b cs e) in
    subst P (sym n) (cond_both (nat_le (suc k) 255) (Ok (Word (take (suc k) (b ∷ bs)), suc k)) (Err (fault at 5)) (IsFront (b ∷ bs)) (λ _. long) (λ _. (suc k, long)))

string_front : (at : ℕ) (bs : List ℕ) → IsFront (34 ∷ bs) (string_at at (34 ∷ bs))
string_front at bs =
    let n = prefix_len is_inner bs in
    cond_both (next_is is_quote (drop n bs)) (if nat_le n 255 then Ok (Str (take n bs), n + 2) else Err (fault at 5)) (Err (fault at 2)) (IsFront (34 ∷ bs))
    (λ e. cond_both (nat_le n 255) (Ok (Str (take n bs), n + 2)) (Err (fault at 5)) (IsFront (34 ∷ bs)) (λ _. longest_string bs e) (λ _. (n + 2, longest_string bs e)))
    (λ e. λ m within. no_string bs m e)

number_front : (at : ℕ) (bytes : List ℕ) → IsLongest bytes (1 + prefix_len is_digit (drop 1 bytes)) → IsFront bytes (number_at at bytes)
number_front at bytes long =
    let n = 1 + prefix_len is_digit (drop 1 bytes) in
    let z = signed_digits_value 10 (take n bytes) in
    cond_both (is_signed z) (Ok (Number z, n)) (Err (fault at 3)) (IsFront bytes) (λ _. long) (λ _. (n, long))

one_more : (bytes : List ℕ) (k : ℕ) → IsLongest bytes (suc k) → IsLongest bytes (1 + k)
one_more bytes k long = let e : suc k ≡ 1 + k = omega arith in subst (λ n. IsLongest bytes n) e long

digit_long : (b : ℕ) (bs : List ℕ) → is_digit b ≡ true → IsLongest (b ∷ bs) (1 + prefix_len is_digit bs)
digit_long b bs e = one_more (b ∷ bs) (prefix_len is_digit bs) (longest_run is_digit b bs (λ cs. digit_form b cs e))

minus_long : (bs : List ℕ) → next_is is_digit bs ≡ true → IsLongest (45 ∷ bs) (1 + prefix_len is_digit bs)
minus_long [] e = cc
minus_long (d ∷ ds) e =
    let k = prefix_len is_digit ds in
    let n : suc (suc k) ≡ 1 + prefix_len is_digit (d ∷ ds) = omega (arith, cond-true (is_digit d) (1 + k) 0 e) in
    subst (λ n. IsLongest (45 ∷ d ∷ ds) n) n (longest_minus d ds e)

nil_form : (m : ℕ) → has_form (take m []) ≡ false
nil_form zero = refl
nil_form (suc m) = refl

-- a byte that is no letter and no quote
rest_front : (at b : ℕ) (bs : List ℕ) → is_letter b ≡ false → (b == 34) ≡ false → IsFront (b ∷ bs) (if begins_number (b ∷ bs) then number_at at (b ∷ bs) else sign_at at (b ∷ bs))
rest_front at b bs l q =
    let P : ℕ → Type 0 = λ x. IsFront (x ∷ bs) (if begins_number (x ∷ bs) then number_at at (x ∷ bs) else sign_at at (x ∷ bs)) in
    let behind : P 45 = cond_both (next_is is_digit bs) (number_at at (45 ∷ bs)) (sign_at at (45 ∷ bs)) (IsFront (45 ∷ bs)) (λ e. number_front at (45 ∷ bs) (minus_long bs e)) (λ e. minus_front at bs e) in
    ⊎_elim
    (λ (e : (45 == b) ≡ true). subst P (eqb-true 45 b e) behind)
    (λ (e : (45 == b) ≡ false).
    let m = flip b 45 e in
    ⊎_elim
    (λ (d : is_digit b ≡ true). subst (λ (v : Bool). IsFront (b ∷ bs) (if v then number_at at (b ∷ bs) else sign_at at (b ∷ bs))) (sym (or_left (is_digit b) _ d)) (number_front at (b ∷ bs) (digit_long b bs d)))
    (λ (d : is_digit b ≡ false). subst (λ (v : Bool). IsFront (b ∷ bs) (if v then number_at at (b ∷ bs) else sign_at at (b ∷ bs))) (sym (or_from _ _ d (and_left (b == 45) _ m))) (sign_front at b bs l q d m))
    (cases_Bool (is_digit b)))
    (cases_Bool (45 == b))

pub front_longest : LongestLaw
unfolding token_at
front_longest at [] = λ m within. nil_form m
front_longest at (b ∷ bs) =
    let rest = if begins_number (b ∷ bs) then number_at at (b ∷ bs) else sign_at at (b ∷ bs) in
    let P : ℕ → Type 0 = λ x. IsFront (x ∷ bs) (string_at at (x ∷ bs)) in
    cond_both (is_letter b) (word_at at (b ∷ bs)) (if b == 34 then string_at at (b ∷ bs) else rest) (IsFront (b ∷ bs)) (word_front at b bs)
    (λ l. cond_both (b == 34) (string_at at (b ∷ bs)) rest (IsFront (b ∷ bs)) (λ e. subst P (sym (eqb-true b 34 e)) (string_front at bs)) (λ q. rest_front at b bs l q))
