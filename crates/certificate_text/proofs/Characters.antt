-- The characters of a certificate's text.
use Rattle.std.proofs.Common.{◌≡◌, ℕ, ◌+◌, ◌/◌, ◌%◌, ◌^◌, ◌<◌, inl, inr, List, [], ◌∷◌, ◌++◌, slice_index, Bool, true, ◌&&◌, eqb, leb, ltb, refl, ap, ◌∙◌, arith}
use Rattle.std.specs.Prelude.{◌||◌}
use Rattle.std.specs.List.{list_all, join_with_byte, slice_split, AllByRecursion}
use Rattle.std.specs.Fmt.{decimal}
use Rattle.std.proofs.lemmas.Bool.{and_parts, and_from, or_cases, leb-true, ltb-true, lt-ltb, eqb-true, ne_eqb, agree_below_at}
use Rattle.std.proofs.lemmas.Fmt.{decimal_by_steps}
use Rattle.std.proofs.lemmas.List.Folds.{list_all-append}
use Rattle.hex.specs.Hex.{encode_with, lower_digits}
use Rattle.key_table.specs.Names.{is_letter, is_letter_or_digit, is_word}
use Rattle.certificate_text.proofs.Cuts.{Lacks, split_cut, split_last}

-- a character that stands for itself, and is no space
abbrev pub is_graphic : ℕ → Bool
is_graphic b = ltb 32 b && ltb b 128

abbrev pub is_printable : ℕ → Bool
is_printable b = ltb 31 b && ltb b 128

graphic : (b : ℕ) → 32 < b → b < 128 → is_graphic b ≡ true
graphic b low high = and_from _ _ (lt-ltb 32 b low) (lt-ltb b 128 high)

-- ---- fields

letter-graphic : (c : ℕ) → is_letter c ≡ true → is_graphic c ≡ true
letter-graphic c h =
    elim (or_cases ((leb 65 c && leb c 90) || (leb 97 c && leb c 122)) (eqb c 95) h) [
      | inl h1 ↦ elim (or_cases (leb 65 c && leb c 90) (leb 97 c && leb c 122) h1) [
        | inl h2 ↦ (let p = and_parts (leb 65 c) (leb c 90) h2 in let a = leb-true 65 c p.0 in let b = leb-true c 90 p.1 in graphic c (omega arith) (omega arith))
        | inr h2 ↦ (let p = and_parts (leb 97 c) (leb c 122) h2 in let a = leb-true 97 c p.0 in let b = leb-true c 122 p.1 in graphic c (omega arith) (omega arith))
      ]
      | inr h1 ↦ (let e = eqb-true c 95 h1 in graphic c (omega arith) (omega arith))
    ]

letter_or_digit-graphic : (c : ℕ) → is_letter_or_digit c ≡ true → is_graphic c ≡ true
letter_or_digit-graphic c h =
    elim (or_cases (is_letter c) (leb 48 c && leb c 57) h) [
      | inl h1 ↦ letter-graphic c h1
      | inr h1 ↦ (let p = and_parts (leb 48 c) (leb c 57) h1 in let a = leb-true 48 c p.0 in let b = leb-true c 57 p.1 in graphic c (omega arith) (omega arith))
    ]

letters-graphic : (cs : List ℕ) → list_all is_letter_or_digit cs ≡ true → list_all is_graphic cs ≡ true
letters-graphic [] h = refl
letters-graphic (c ∷ cs) h = let p = and_parts (is_letter_or_digit c) (list_all is_letter_or_digit cs) h in and_from _ _ (letter_or_digit-graphic c p.0) (letters-graphic cs p.1)

pub word-graphic : (cs : List ℕ) → is_word cs ≡ true → list_all is_graphic cs ≡ true
word-graphic [] h = refl
word-graphic (c ∷ cs) h = let p = and_parts (is_letter c) (list_all is_letter_or_digit cs) h in and_from _ _ (letter-graphic c p.0) (letters-graphic cs p.1)

pub decimal-graphic : (n : ℕ) → n < 2 ^ 64 → list_all is_graphic (decimal n) ≡ true
decimal-graphic n small =
    decimal_by_steps (λ n ds. list_all is_graphic ds ≡ true)
    (λ n lt. and_from _ _ (graphic (48 + n) (omega arith) (omega arith)) refl)
    (λ n ds le h. list_all-append is_graphic ds ((48 + n % 10) ∷ []) ∙ and_from _ _ h (and_from _ _ (graphic (48 + n % 10) (omega arith) (omega arith)) refl))
    n small

digit-graphic : (v : ℕ) → v < 16 → is_graphic (slice_index lower_digits v) ≡ true
digit-graphic v small = agree_below_at (λ v. is_graphic (slice_index lower_digits v)) (λ v. true) 16 v refl small

pub hex-graphic : (bytes : List ℕ) → AllByRecursion (λ b. b < 256) bytes → list_all is_graphic (encode_with lower_digits bytes) ≡ true
unfolding encode_with
hex-graphic [] h = refl
hex-graphic (b ∷ bytes) h = let small : b < 256 = h.0 in and_from _ _ (digit-graphic (b / 16) (omega arith)) (and_from _ _ (digit-graphic (b % 16) (omega arith)) (hex-graphic bytes h.1))

pub joined-graphic : (xs ys : List ℕ) → list_all is_graphic xs ≡ true → list_all is_graphic ys ≡ true → list_all is_graphic (xs ++ ys) ≡ true
joined-graphic xs ys a b = list_all-append is_graphic xs ys ∙ and_from _ _ a b

-- ---- fields that are joined are split again

no_space : (bytes : List ℕ) → list_all is_graphic bytes ≡ true → Lacks 32 bytes
no_space [] h = tt
no_space (b ∷ bytes) h =
    let p = and_parts (is_graphic b) (list_all is_graphic bytes) h in
    let low : 32 < b = ltb-true 32 b (and_parts (ltb 32 b) (ltb b 128) p.0).0 in
    (ne_eqb b 32 (λ e. absurd (omega arith)), no_space bytes p.1)

pub split-joined : (field : List ℕ) (fields : List (List ℕ)) → list_all (list_all is_graphic) (field ∷ fields) ≡ true → slice_split (λ b. eqb b 32) (join_with_byte 32 (field ∷ fields)) ≡ field ∷ fields
split-joined field [] h = split_last 32 field (no_space field (and_parts _ _ h).0)
split-joined field (next ∷ fields) h =
    let p = and_parts (list_all is_graphic field) (list_all (list_all is_graphic) (next ∷ fields)) h in
    split_cut 32 field (join_with_byte 32 (next ∷ fields)) (no_space field p.0) ∙ ap (λ fs. field ∷ fs) (split-joined next fields p.1)

-- ---- lines

pub printable-graphic : (bytes : List ℕ) → list_all is_graphic bytes ≡ true → list_all is_printable bytes ≡ true
printable-graphic [] h = refl
printable-graphic (b ∷ bytes) h =
    let p = and_parts (is_graphic b) (list_all is_graphic bytes) h in
    let q = and_parts (ltb 32 b) (ltb b 128) p.0 in
    let low = ltb-true 32 b q.0 in
    and_from _ _ (and_from _ _ (lt-ltb 31 b (omega arith)) q.1) (printable-graphic bytes p.1)

pub joined-printable : (fields : List (List ℕ)) → list_all (list_all is_graphic) fields ≡ true → list_all is_printable (join_with_byte 32 fields) ≡ true
joined-printable [] h = refl
joined-printable (field ∷ []) h = printable-graphic field (and_parts _ _ h).0
joined-printable (field ∷ next ∷ fields) h =
    let p = and_parts (list_all is_graphic field) (list_all (list_all is_graphic) (next ∷ fields)) h in
    list_all-append is_printable field (32 ∷ join_with_byte 32 (next ∷ fields)) ∙ and_from _ _ (printable-graphic field p.0) (joined-printable (next ∷ fields) p.1)

pub no_feed : (bytes : List ℕ) → list_all is_printable bytes ≡ true → Lacks 10 bytes
no_feed [] h = tt
no_feed (b ∷ bytes) h =
    let p = and_parts (is_printable b) (list_all is_printable bytes) h in
    let low : 31 < b = ltb-true 31 b (and_parts (ltb 31 b) (ltb b 128) p.0).0 in
    (ne_eqb b 10 (λ e. absurd (omega arith)), no_feed bytes p.1)
