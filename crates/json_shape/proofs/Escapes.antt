-- Names as a pointer has them.
use Rattle.std.proofs.Common.{◌≡◌, ◌≢◌, ℕ, zero, suc, ◌<◌, inl, inr, List, [], ◌∷◌, ◌++◌, length, refl, sym, ap, ◌∙◌, arith, append_assoc, append-nil, ne_eqb, eq-eqb}
use Rattle.std.proofs.lemmas.Bool.{cases_eq}
use Rattle.std.proofs.lemmas.Grind.{flat_map-append}
use Rattle.std.proofs.lemmas.List.{drop_all}
use Rattle.std.proofs.lemmas.Str.{encode_ascii, inside_one}
use Rattle.std.specs.Prelude.{flat_map, codes}
use Rattle.std.specs.Char.{encode_utf8}
use Rattle.serde_json.specs.Find.{unescape}
use Rattle.serde_json.proofs.Paths.{Lacks}
use Rattle.json_shape.specs.Paths.{escape, escaped}

-- bytes that are neither ~ nor / stay
flat_map-plain : (xs : List ℕ) → Lacks 126 xs → Lacks 47 xs → flat_map escape xs ≡ xs
flat_map-plain [] tildes slashes = refl
flat_map-plain (x ∷ xs) tildes slashes =
    rw (ne_eqb x 126 (tildes 0 (omega arith)), ne_eqb x 47 (slashes 0 (omega arith)))
    (ap (λ l. x ∷ l) (flat_map-plain xs (λ i less. tildes (suc i) (omega arith)) (λ i less. slashes (suc i) (omega arith))))

-- an ASCII byte stands in no other character
encode-lacks : (c d : ℕ) → d < 128 → c ≢ d → Lacks d (encode_utf8 c)
encode-lacks c d small other = λ i less is. other (inside_one c [] (encode_utf8 c) i (sym (append-nil (encode_utf8 c))) less (omega (arith, is)) ∙ is)

pub escaped_tilde : (c : ℕ) → c ≡ 126 → escaped (encode_utf8 c) ≡ codes "~0"
unfolding escaped
escaped_tilde c is = ap (flat_map escape) (encode_ascii c (omega arith) ∙ ap (λ b. b ∷ []) is)

pub escaped_slash : (c : ℕ) → c ≡ 47 → escaped (encode_utf8 c) ≡ codes "~1"
unfolding escaped
escaped_slash c is = ap (flat_map escape) (encode_ascii c (omega arith) ∙ ap (λ b. b ∷ []) is)

pub escaped_other : (c : ℕ) → c ≢ 126 → c ≢ 47 → escaped (encode_utf8 c) ≡ encode_utf8 c
unfolding escaped
escaped_other c tilde slash = flat_map-plain (encode_utf8 c) (encode-lacks c 126 (omega arith) tilde) (encode-lacks c 47 (omega arith) slash)

escaped-append : (xs ys : List ℕ) → escaped (xs ++ ys) ≡ escaped xs ++ escaped ys
unfolding escaped
escaped-append xs ys = flat_map-append escape xs ys

escaped-none : (xs : List ℕ) → length xs ≡ 0 → escaped xs ≡ []
unfolding escaped
escaped-none xs none = ap (flat_map escape) (drop_all 0 xs (omega arith))

-- one character more is written
pub goes_on : (char rest bytes before now whole : List ℕ) → bytes ≡ char ++ rest → now ≡ before ++ escaped char → before ++ escaped bytes ≡ whole → now ++ escaped rest ≡ whole
goes_on char rest bytes before now whole is written so_far = rw (written, append_assoc, ← escaped-append char rest, ← is) so_far

-- no character is left
pub ends : (rest now whole : List ℕ) → length rest ≡ 0 → now ++ escaped rest ≡ whole → now ≡ whole
ends rest now whole none so_far = sym (append-nil now) ∙ ap (λ l. now ++ l) (sym (escaped-none rest none)) ∙ so_far

-- ---- what a pointer with the name in it leads to

pub lacks_cons : (c x : ℕ) (xs : List ℕ) → x ≢ c → Lacks c xs → Lacks c (x ∷ xs)
lacks_cons c x xs other rest zero less = other
lacks_cons c x xs other rest (suc i) less = rest i (omega arith)

-- by what the byte is
by_byte : (P : List ℕ → Type 0) (x : ℕ) (rest : List ℕ) → (x ≡ 126 → P (126 ∷ 48 ∷ rest)) → (x ≡ 47 → P (126 ∷ 49 ∷ rest)) → (x ≢ 126 → x ≢ 47 → P (x ∷ rest)) → P (escape x ++ rest)
by_byte P x rest tilde slash other =
    elim (cases_eq x 126) [
      | inl is ↦ rw (eq-eqb x 126 is) (tilde is)
      | inr no_tilde ↦ elim (cases_eq x 47) [
        | inl is ↦ rw (ne_eqb x 126 no_tilde, eq-eqb x 47 is) (slash is)
        | inr no_slash ↦ rw (ne_eqb x 126 no_tilde, ne_eqb x 47 no_slash) (other no_tilde no_slash)
      ]
    ]

-- no / is left
pub escaped-lacks : (name : List ℕ) → Lacks 47 (flat_map escape name)
escaped-lacks [] = λ i less. absurd (omega arith)
escaped-lacks (x ∷ xs) =
    let rest = flat_map escape xs in
    let later = escaped-lacks xs in
    by_byte (Lacks 47) x rest
    (λ is. lacks_cons 47 126 (48 ∷ rest) (omega arith) (lacks_cons 47 48 rest (omega arith) later))
    (λ is. lacks_cons 47 126 (49 ∷ rest) (omega arith) (lacks_cons 47 49 rest (omega arith) later))
    (λ no_tilde no_slash. lacks_cons 47 x rest no_slash later)

unescape-cons : (x : ℕ) (xs : List ℕ) → x ≢ 126 → unescape (x ∷ xs) ≡ x ∷ unescape xs
unfolding unescape
unescape-cons x [] no_tilde = refl
unescape-cons x (y ∷ ys) no_tilde = rw (ne_eqb x 126 no_tilde)

-- the name is read back
pub unescape-escaped : (name : List ℕ) → unescape (flat_map escape name) ≡ name
unfolding unescape
unescape-escaped [] = refl
unescape-escaped (x ∷ xs) =
    let rest = flat_map escape xs in
    let later : unescape rest ≡ xs = unescape-escaped xs in
    by_byte (λ bytes. unescape bytes ≡ x ∷ xs) x rest
    (λ is. rw (is, later))
    (λ is. rw (is, later))
    (λ no_tilde no_slash. unescape-cons x rest no_tilde ∙ ap (λ l. x ∷ l) later)
