-- A text may be cut behind a byte below 128.
use Rattle.std.proofs.Common.{◌≡◌, ℕ, zero, suc, ◌+◌, ◌-◌, ◌<◌, ◌≤◌, Bool, true, false, cond, Some, ⊎_elim, ◌||◌, ◌&&◌, ◌==◌, nat_le, List, [], ◌∷◌, length, get_or, drop, refl, ap, sym, ◌∙◌, subst, arith}
use Rattle.std.specs.Str.{IsUtf8, IsCharBoundary}
use Rattle.std.specs.List.{prefix_len, find}
use Rattle.std.proofs.lemmas.Str.{IsCharBoundary-after_ascii}
use Rattle.std.proofs.lemmas.List.Sums.{prefix_len_passes, prefix_len-le-length}
use Rattle.std.proofs.lemmas.List.{length-drop, drop-drop, get_or-drop}
use Rattle.std.proofs.lemmas.Bool.Decides.{nat_tests}
use Rattle.std.proofs.lemmas.Bool.{cond-true, cond-false, cases_Bool}
use Rattle.key_table.specs.Names.{is_letter, is_letter_or_digit}
use Rattle.euclid_lexer.specs.declared.token.Sign.{Sign}
use Rattle.euclid_lexer.specs.declared.token.Sign.TheVariants.{Colon}
use Rattle.euclid_lexer.specs.Signs.{sign_text, signs}
use Rattle.euclid_lexer.specs.Tokens.{is_digit, next_is, begins}
use Rattle.euclid_lexer.specs.Cuts.{IsWhole}
use Rattle.euclid_lexer.proofs.Bytes.{letter_or_digit_ascii, digit_ascii, next-true}

pub whole_behind : (bs : List ℕ) (i : ℕ) → IsUtf8 bs → i < length bs → get_or bs i 0 < 128 → IsWhole (i + 1) bs
whole_behind bs i u within ascii = record { some = omega arith; cut = IsCharBoundary-after_ascii bs i u within ascii }

pub whole_at : (bs : List ℕ) (i n : ℕ) → IsUtf8 bs → n ≡ i + 1 → i < length bs → get_or bs i 0 < 128 → IsWhole n bs
whole_at bs i n u is within ascii = let P : ℕ → Type 0 = λ x. IsWhole x bs in subst P (sym is) (whole_behind bs i u within ascii)

-- the bytes at the front that pass, where all that pass are below 128
pub whole_prefix : (p : ℕ → Bool) → ((b : ℕ) → p b ≡ true → b < 128) → (bs : List ℕ) → IsUtf8 bs → 0 < prefix_len p bs → IsWhole (prefix_len p bs) bs
whole_prefix p ascii bs u some =
    let n = prefix_len p bs in
    let fits : n ≤ length bs = prefix_len-le-length p bs in
    whole_at bs (n - 1) n u (omega arith) (omega arith) (ascii _ (prefix_len_passes p bs (n - 1) 0 (omega arith)))

some_first : (p q : ℕ → Bool) (bs : List ℕ) → ((b : ℕ) → q b ≡ true → p b ≡ true) → next_is q bs ≡ true → 0 < prefix_len p bs
some_first p q [] on e = cc
some_first p q (b ∷ bs) on e = let P : Bool → Type 0 = λ v. 0 < cond v (1 + prefix_len p bs) 0 in subst P (sym (on b e)) (omega arith)

pub whole_word : (bs : List ℕ) (n : ℕ) → n ≡ prefix_len is_letter_or_digit bs → IsUtf8 bs → next_is is_letter bs ≡ true → IsWhole n bs
whole_word bs n is u e =
    let P : ℕ → Type 0 = λ x. IsWhole x bs in
    subst P (sym is) (whole_prefix is_letter_or_digit letter_or_digit_ascii bs u (some_first is_letter_or_digit is_letter bs (λ b h. ap (λ v. v || (nat_le 48 b && nat_le b 57)) h) e))

-- a byte that is one below 128, and the digits behind it
pub whole_number : (bs : List ℕ) (n : ℕ) → n ≡ prefix_len is_digit (drop 1 bs) → IsUtf8 bs → 0 < length bs → get_or bs 0 0 < 128 → IsWhole (1 + n) bs
whole_number [] n is u some ascii = absurd (omega arith)
whole_number (b ∷ bs) zero is u some ascii = whole_at (b ∷ bs) 0 1 u refl (omega arith) ascii
whole_number (b ∷ bs) (suc k) is u some ascii =
    let fits : prefix_len is_digit bs ≤ length bs = prefix_len-le-length is_digit bs in
    let within : k < prefix_len is_digit bs = omega arith in
    whole_at (b ∷ bs) (suc k) (1 + suc k) u (omega arith) (omega arith) (digit_ascii _ (prefix_len_passes is_digit bs k 0 within))

-- the bytes behind a quote, and a quote behind them
pub whole_string : (bs : List ℕ) (n : ℕ) → IsUtf8 bs → next_is (λ c. c == 34) (drop n (drop 1 bs)) ≡ true → IsWhole (n + 2) bs
whole_string bs n u e =
    let f = next-true (λ c. c == 34) (drop n (drop 1 bs)) e in
    let here : 1 + n < length bs = grind (arith, length-drop {A = ℕ}, drop-drop {A = ℕ}, f.there) in
    whole_at bs (1 + n) (n + 2) u (omega arith) here (grind (arith, nat_tests, get_or-drop {A = ℕ}, f.passes))

pub cut_first : (q : ℕ → Bool) (bs : List ℕ) → IsUtf8 bs → ((b : ℕ) → q b ≡ true → b < 128) → next_is q bs ≡ true → IsCharBoundary bs 1
cut_first q bs u ascii e = let f = next-true q bs e in IsCharBoundary-after_ascii bs 0 u f.there (ascii _ f.passes)

-- a text that begins with another, byte for byte
begins_at : (t bs : List ℕ) (i : ℕ) → begins t bs ≡ true → i < length t → (i < length bs) × (get_or bs i 0 ≡ get_or t i 0)
begins_at [] bs i e h = absurd (omega arith)
begins_at (c ∷ cs) [] i e h = cc
begins_at (c ∷ cs) (b ∷ bs) zero e h = (omega arith, grind (arith, nat_tests))
begins_at (c ∷ cs) (b ∷ bs) (suc i) e h = let r = begins_at cs bs i (grind (arith, nat_tests)) (omega arith) in (omega arith, r.1)

last_ascii : (s : Sign) → (0 < length (sign_text s)) × (get_or (sign_text s) (length (sign_text s) - 1) 0 < 128)
last_ascii Colon = (omega arith, omega arith)
last_ascii _ = (omega arith, omega arith)

-- a sign at the front
pub whole_sign : (bs : List ℕ) (s : Sign) → IsUtf8 bs → begins (sign_text s) bs ≡ true → IsWhole (length (sign_text s)) bs
whole_sign bs s u e =
    let t = sign_text s in
    let l = last_ascii s in
    let b = begins_at t bs (length t - 1) e (omega arith) in
    whole_at bs (length t - 1) (length t) u (omega arith) b.0 (omega arith)

-- what is found in a list passes
found_passes : {X : Type 0} (p : X → Bool) (xs : List X) (x : X) → find p xs ≡ Some x → p x ≡ true
found_passes p [] x e = cc
found_passes p (y ∷ ys) x e =
    ⊎_elim (λ (t : p y ≡ true). subst (λ z. p z ≡ true) (some_same y x (sym (cond-true (p y) (Some y) (find p ys) t) ∙ e)) t)
    (λ (f : p y ≡ false). found_passes p ys x (sym (cond-false (p y) (Some y) (find p ys) f) ∙ e)) (cases_Bool (p y))
  where
    some_same : {X : Type 0} (y x : X) → Some y ≡ Some x → y ≡ x
    some_same y x e = cc

pub whole_found : (bs : List ℕ) (s : Sign) → IsUtf8 bs → find (λ s. begins (sign_text s) bs) signs ≡ Some s → IsWhole (length (sign_text s)) bs
whole_found bs s u e = whole_sign bs s u (found_passes (λ s. begins (sign_text s) bs) signs s e)

pub cut_behind : (bs : List ℕ) → IsUtf8 bs → 0 < length bs → get_or bs 0 0 < 128 → IsCharBoundary bs 1
cut_behind bs u some ascii = IsCharBoundary-after_ascii bs 0 u some ascii
