-- Lines of a file and their text.
use Rattle.std.proofs.Common.{◌≡◌, ℕ, List, [], ◌∷◌, ◌++◌, true, false, cond, eqb, refl, ap, sym, ◌∙◌, append_assoc}
use Rattle.std.specs.List.{AllByRecursion}
use Rattle.std.proofs.lemmas.Bool.{eqb-true}
use Rattle.std.proofs.lemmas.List.Concat.{flat_map-cons}
use Rattle.certificate_text.specs.Lines.{Lines, lines_of, with_byte, text_of_lines}

abbrev pub lines : List (List ℕ) → List ℕ → Lines
lines ended rest = record { ended = ended; rest = rest }

pub lines_of-feed : (b : ℕ) (bytes : List ℕ) → eqb b 10 ≡ true → lines_of (b ∷ bytes) ≡ lines ([] ∷ (lines_of bytes).ended) (lines_of bytes).rest
lines_of-feed b bytes h = rw h refl

pub lines_of-byte : (b : ℕ) (bytes : List ℕ) → eqb b 10 ≡ false → lines_of (b ∷ bytes) ≡ with_byte b (lines_of bytes).ended (lines_of bytes).rest
lines_of-byte b bytes h = rw h refl

-- by whether a byte is a line feed
by_feed : (P : Lines → Type 0) (b : ℕ) (bytes : List ℕ) → (b ≡ 10 → P (lines ([] ∷ (lines_of bytes).ended) (lines_of bytes).rest)) → (eqb b 10 ≡ false → P (with_byte b (lines_of bytes).ended (lines_of bytes).rest)) → P (lines_of (b ∷ bytes))
by_feed P b bytes feed other =
    elim (eqb b 10) as (λ t. eqb b 10 ≡ t → P (cond t (lines ([] ∷ (lines_of bytes).ended) (lines_of bytes).rest) (with_byte b (lines_of bytes).ended (lines_of bytes).rest)))
    [ true ↦ (λ h. feed (eqb-true b 10 h)) | false ↦ (λ h. other h) ] refl

-- ---- the text of the lines of a file is the file

abbrev whole : Lines → List ℕ
whole ls = text_of_lines ls.ended ++ ls.rest

with_byte-whole : (b : ℕ) (ended : List (List ℕ)) (rest : List ℕ) → whole (with_byte b ended rest) ≡ b ∷ (text_of_lines ended ++ rest)
with_byte-whole b [] rest = refl
with_byte-whole b (line ∷ ended) rest = ap (λ t. t ++ rest) (flat_map-cons (λ (l : List ℕ). l ++ 10 ∷ []) (b ∷ line) ended) ∙ sym (ap (λ t. b ∷ (t ++ rest)) (flat_map-cons (λ (l : List ℕ). l ++ 10 ∷ []) line ended))

pub lines_whole : (bytes : List ℕ) → text_of_lines (lines_of bytes).ended ++ (lines_of bytes).rest ≡ bytes
lines_whole [] = refl
lines_whole (b ∷ bytes) =
    by_feed (λ ls. whole ls ≡ b ∷ bytes) b bytes
    (λ is. ap (λ t. t ++ (lines_of bytes).rest) (flat_map-cons (λ (l : List ℕ). l ++ 10 ∷ []) [] (lines_of bytes).ended) ∙ ap (λ t. 10 ∷ t) (lines_whole bytes) ∙ ap (λ x. x ∷ bytes) (sym is))
    (λ h. with_byte-whole b (lines_of bytes).ended (lines_of bytes).rest ∙ ap (λ t. b ∷ t) (lines_whole bytes))

-- ---- the lines of two pieces

abbrev pub behind : List (List ℕ) → Lines → Lines
behind ended ls = lines (ended ++ ls.ended) ls.rest

with_byte-behind : (b : ℕ) (ended : List (List ℕ)) (rest more : List ℕ) → eqb b 10 ≡ false
    → with_byte b (behind ended (lines_of (rest ++ more))).ended (lines_of (rest ++ more)).rest ≡ behind (with_byte b ended rest).ended (lines_of ((with_byte b ended rest).rest ++ more))
with_byte-behind b [] rest more h = sym (lines_of-byte b (rest ++ more) h)
with_byte-behind b (line ∷ ended) rest more h = refl

pub lines_of-append : (front more : List ℕ) → lines_of (front ++ more) ≡ behind (lines_of front).ended (lines_of ((lines_of front).rest ++ more))
lines_of-append [] more = refl
lines_of-append (b ∷ front) more =
    let ih = lines_of-append front more in
    let P : Lines → Type 0 = λ ls. lines_of (b ∷ (front ++ more)) ≡ behind ls.ended (lines_of (ls.rest ++ more)) in
    by_feed P b front
    (λ is. lines_of-feed b (front ++ more) (ap (λ x. eqb x 10) is) ∙ ap (λ (ls : Lines). lines ([] ∷ ls.ended) ls.rest) ih)
    (λ h. lines_of-byte b (front ++ more) h ∙ ap (λ (ls : Lines). with_byte b ls.ended ls.rest) ih ∙ with_byte-behind b (lines_of front).ended (lines_of front).rest more h)

-- ---- lines without a line feed

abbrev pub HasNoFeed : List ℕ → Type 0
HasNoFeed line = AllByRecursion (λ b. eqb b 10 ≡ false) line

pub lines_of-line : (line more : List ℕ) → HasNoFeed line → lines_of (line ++ 10 ∷ more) ≡ lines (line ∷ (lines_of more).ended) (lines_of more).rest
lines_of-line [] more none = refl
lines_of-line (b ∷ line) more none = lines_of-byte b (line ++ 10 ∷ more) none.0 ∙ ap (λ (ls : Lines). with_byte b ls.ended ls.rest) (lines_of-line line more none.1)

pub lines_of-rest : (rest : List ℕ) → HasNoFeed rest → lines_of rest ≡ lines [] rest
lines_of-rest [] none = refl
lines_of-rest (b ∷ rest) none = lines_of-byte b rest none.0 ∙ ap (λ (ls : Lines). with_byte b ls.ended ls.rest) (lines_of-rest rest none.1)

pub lines_of-text : (ended : List (List ℕ)) → AllByRecursion HasNoFeed ended → lines_of (text_of_lines ended) ≡ lines ended []
lines_of-text [] none = refl
lines_of-text (line ∷ ended) none =
    ap lines_of (flat_map-cons (λ (l : List ℕ). l ++ 10 ∷ []) line ended ∙ append_assoc line (10 ∷ []) (text_of_lines ended))
    ∙ lines_of-line line (text_of_lines ended) none.0
    ∙ ap (λ (ls : Lines). lines (line ∷ ls.ended) ls.rest) (lines_of-text ended none.1)
