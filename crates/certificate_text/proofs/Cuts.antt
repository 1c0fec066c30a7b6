-- A list of bytes cut at the first place of a byte.
use Rattle.std.proofs.Common.{◌≡◌, ℕ, suc, ◌+◌, ◌-◌, ◌<◌, ◌≤◌, List, [], ◌∷◌, ◌++◌, length, take, drop, Bool, true, false, not, cond, eqb, ltb, Some, None, refl, ap, sym, subst, ◌∙◌, arith, position}
use Rattle.std.specs.List.{position_or_len, slice_split, onto_first, AllByRecursion}
use Rattle.std.proofs.lemmas.Bool.{eqb-true, ltb-true, ltb-false, eq-eqb}
use Rattle.std.proofs.lemmas.List.{take_rest}
use Rattle.certificate_text.specs.Lines.{lines_of}
use Rattle.certificate_text.proofs.LineLaws.{lines, lines_of-line, lines_of-rest}
use Rattle.certificate_text.proofs.Spellings.{cond_some}

abbrev pub Lacks : ℕ → List ℕ → Type 0
Lacks c bytes = AllByRecursion (λ b. eqb b c ≡ false) bytes

abbrev place : ℕ → List ℕ → ℕ
place c bytes = position_or_len (λ b. eqb b c) bytes

-- the list is a front that lacks the byte, the byte, and the rest
pub record CutAt (c : ℕ) (bytes : List ℕ) (n : ℕ) : Type 0 where
  pub whole : bytes ≡ take n bytes ++ c ∷ drop (n + 1) bytes
  pub front : Lacks c (take n bytes)

cut : (c : ℕ) (bytes : List ℕ) → place c bytes < length bytes → CutAt c bytes (place c bytes)
cut c [] lt = absurd (omega arith)
cut c (b ∷ bytes) lt =
    elim (eqb b c) as (λ t. eqb b c ≡ t → cond (not t) (1 + place c bytes) 0 < length (b ∷ bytes) → CutAt c (b ∷ bytes) (cond (not t) (1 + place c bytes) 0)) [
      | true ↦ (λ h l. record { whole = ap (λ x. x ∷ bytes) (eqb-true b c h); front = tt })
      | false ↦ (λ h l.
          let ih = cut c bytes (omega arith) in
          let next : 1 + place c bytes ≡ suc (place c bytes) = omega arith in
          let after : suc (place c bytes + 1) ≡ suc (place c bytes) + 1 = omega arith in
          subst (CutAt c (b ∷ bytes)) (sym next) (record { whole = ap (λ x. b ∷ x) ih.whole ∙ ap (λ k. b ∷ (take (place c bytes) bytes ++ c ∷ drop k (b ∷ bytes))) after; front = (h, ih.front) }))
    ] refl lt

lacking : (c : ℕ) (bytes : List ℕ) → length bytes ≤ place c bytes → Lacks c bytes
lacking c [] le = tt
lacking c (b ∷ bytes) le =
    elim (eqb b c) as (λ t. eqb b c ≡ t → length (b ∷ bytes) ≤ cond (not t) (1 + place c bytes) 0 → Lacks c (b ∷ bytes)) [
      | true ↦ (λ h l. absurd (omega arith))
      | false ↦ (λ h l. (h, lacking c bytes (omega arith)))
    ] refl le

pub found : (c : ℕ) (bytes : List ℕ) (n : ℕ) → Some n ≡ position (λ b. eqb b c) bytes → CutAt c bytes n
found c bytes n e =
    let g = cond_some (ltb (place c bytes) (length bytes)) (place c bytes) n (sym e) in
    subst (CutAt c bytes) g.1 (cut c bytes (ltb-true _ _ g.0))

cond_none : (b : Bool) (x : ℕ) → None ≡ cond b (Some x) None → b ≡ false
cond_none true x e = absurd cc
cond_none false x e = refl

pub missing : (c : ℕ) (bytes : List ℕ) → None ≡ position (λ b. eqb b c) bytes → Lacks c bytes
missing c bytes e = lacking c bytes (ltb-false _ _ (cond_none (ltb (place c bytes) (length bytes)) (place c bytes) e))

-- what is left from a place on
pub tail : (xs : List ℕ) (k : ℕ) → take (length xs - k) (drop k xs) ≡ drop k xs
tail xs k = take_rest xs k

-- ---- lines

pub line_at : (bytes : List ℕ) (n : ℕ) → Some n ≡ position (λ b. eqb b 10) bytes → lines_of bytes ≡ lines (take n bytes ∷ (lines_of (drop (n + 1) bytes)).ended) (lines_of (drop (n + 1) bytes)).rest
line_at bytes n e = let c = found 10 bytes n e in ap lines_of c.whole ∙ lines_of-line (take n bytes) (drop (n + 1) bytes) c.front

pub line_none : (bytes : List ℕ) → None ≡ position (λ b. eqb b 10) bytes → lines_of bytes ≡ lines [] bytes
line_none bytes e = lines_of-rest bytes (missing 10 bytes e)

-- ---- fields

split_byte : (c b : ℕ) (bytes : List ℕ) → eqb b c ≡ false → slice_split (λ x. eqb x c) (b ∷ bytes) ≡ onto_first b (slice_split (λ x. eqb x c) bytes)
split_byte c b bytes h = rw h refl

pub split_cut : (c : ℕ) (xs ys : List ℕ) → Lacks c xs → slice_split (λ x. eqb x c) (xs ++ c ∷ ys) ≡ xs ∷ slice_split (λ x. eqb x c) ys
split_cut c [] ys h = let same : eqb c c ≡ true = (let e : c ≡ c = refl in eq-eqb c c e) in rw same refl
split_cut c (x ∷ xs) ys h = split_byte c x (xs ++ c ∷ ys) h.0 ∙ ap (onto_first x) (split_cut c xs ys h.1)

pub split_last : (c : ℕ) (xs : List ℕ) → Lacks c xs → slice_split (λ x. eqb x c) xs ≡ xs ∷ []
split_last c [] h = refl
split_last c (x ∷ xs) h = split_byte c x xs h.0 ∙ ap (onto_first x) (split_last c xs h.1)

pub field_at : (bytes : List ℕ) (n : ℕ) → Some n ≡ position (λ b. eqb b 32) bytes → slice_split (λ b. eqb b 32) bytes ≡ take n bytes ∷ slice_split (λ b. eqb b 32) (drop (n + 1) bytes)
field_at bytes n e = let c = found 32 bytes n e in ap (slice_split (λ b. eqb b 32)) c.whole ∙ split_cut 32 (take n bytes) (drop (n + 1) bytes) c.front

pub field_last : (bytes : List ℕ) → None ≡ position (λ b. eqb b 32) bytes → slice_split (λ b. eqb b 32) bytes ≡ bytes ∷ []
field_last bytes e = split_last 32 bytes (missing 32 bytes e)
