-- Each byte of a text is below 256.
use Rattle.std.proofs.Common.{◌≡◌, ℕ, ◌+◌, ◌/◌, ◌<◌, List, [], ◌∷◌, ◌++◌, true, false, cond, ltb, Some, None, refl, ap, subst, arith, inl, inr, IsUtf8}
use Rattle.std.specs.List.{AllByRecursion}
use Rattle.std.proofs.lemmas.Bool.{and_parts, ltb-true, false_from_ne_true}
use Rattle.std.proofs.lemmas.Str.{is_utf8-from_IsUtf8, IsUtf8-from_is_utf8}
use Rattle.certificate_text.specs.Numbered.{utf8}
use lib.Utf8.{scalar, scalars, encode, encodes, next, scalar_cases}

abbrev pub AreBytes : List ℕ → Type 0
AreBytes bytes = AllByRecursion (λ b. b < 256) bytes

next_byte : (bits : ℕ) → next bits < 256
next_byte bits = omega arith

scalar_small : (c : ℕ) → scalar c ≡ true → c < 1114112
scalar_small c h = elim (scalar_cases c h) [ inl low ↦ omega arith | inr high ↦ high.1 ]

encode_bytes : (c : ℕ) → c < 1114112 → AreBytes (encode c)
unfolding encode
encode_bytes c small =
    let two = (192 + c / 64) ∷ next c ∷ [] in
    let three = (224 + c / 4096) ∷ next (c / 64) ∷ next c ∷ [] in
    let four = (240 + c / 262144) ∷ next (c / 4096) ∷ next (c / 64) ∷ next c ∷ [] in
    elim (ltb c 128) as (λ t. ltb c 128 ≡ t → AreBytes (cond t (c ∷ []) (cond (ltb c 2048) two (cond (ltb c 65536) three four)))) [
      | true ↦ (λ h. let low = ltb-true c 128 h in (omega arith, tt))
      | false ↦ (λ _. elim (ltb c 2048) as (λ t. ltb c 2048 ≡ t → AreBytes (cond t two (cond (ltb c 65536) three four))) [
        | true ↦ (λ h. let low = ltb-true c 2048 h in (omega arith, (next_byte c, tt)))
        | false ↦ (λ _. elim (ltb c 65536) as (λ t. ltb c 65536 ≡ t → AreBytes (cond t three four)) [
          | true ↦ (λ h. let low = ltb-true c 65536 h in (omega arith, (next_byte (c / 64), (next_byte c, tt))))
          | false ↦ (λ _. (omega arith, (next_byte (c / 4096), (next_byte (c / 64), (next_byte c, tt)))))
        ] refl)
      ] refl)
    ] refl

pub all_append : {X : Type 0} (P : X → Type 0) (xs ys : List X) → AllByRecursion P xs → AllByRecursion P ys → AllByRecursion P (xs ++ ys)
all_append P [] ys all more = more
all_append P (x ∷ xs) ys all more = (all.0, all_append P xs ys all.1 more)

encodes_bytes : (cs : List ℕ) → scalars cs ≡ true → AreBytes (encodes cs)
encodes_bytes [] h = tt
encodes_bytes (c ∷ cs) h = let both = and_parts (scalar c) (scalars cs) h in all_append (λ b. b < 256) (encode c) (encodes cs) (encode_bytes c (scalar_small c both.0)) (encodes_bytes cs both.1)

pub text_bytes : (bytes : List ℕ) → IsUtf8 bytes → AreBytes bytes
text_bytes bytes text = subst AreBytes text.1.1 (encodes_bytes text.0 text.1.0)

-- ---- bytes that are, or are not, a text

pub utf8_there : (bytes : List ℕ) → IsUtf8 bytes → utf8 bytes ≡ Some bytes
utf8_there bytes text = ap (λ b. cond b (Some bytes) None) (is_utf8-from_IsUtf8 bytes text)

pub utf8_missing : (bytes : List ℕ) → (IsUtf8 bytes → ⊥) → utf8 bytes ≡ None
utf8_missing bytes other = ap (λ b. cond b (Some bytes) None) (false_from_ne_true _ (λ h. other (IsUtf8-from_is_utf8 bytes h)))
