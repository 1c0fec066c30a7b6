-- Reading to the end takes each byte, and reading a front stops at its end.
use Rattle.std.proofs.Common.{◌≡◌, ℕ, ◌+◌, List, [], ◌∷◌, ◌++◌, length, true, false, cond, eqb, Result, Ok, Err, refl, ap, sym, ◌∙◌, arith}
use Rattle.std.specs.List.{count_by}
use Rattle.key_table.specs.Answers.{◌>>=◌}
use Rattle.key_table.specs.Tables.{Table}
use Rattle.rule_problem.specs.declared.certificate.Certificate.{Certificate}
use Rattle.certificate_text.specs.declared.error.CertError.{CertError}
use Rattle.certificate_text.specs.Lines.{Lines, lines_of, with_byte, text_of_lines}
use Rattle.certificate_text.specs.Reading.{Place, opening, counting, naming, proving, closed, fault, on_line, close, step, reading, certificate_of}
use Rattle.certificate_text.proofs.LineLaws.{lines_of-append, lines_whole, lines_of-feed, lines_of-byte}
use Rattle.std.proofs.lemmas.List.Sums.{sum_by-cons}

abbrev done : Certificate → Result Certificate CertError
done c = Ok c

pub on_line_ok : {A : Type 0} (n : ℕ) (r : Result A ℕ) (f : A → Result Certificate CertError) (c : Certificate) → (on_line n r >>= f) ≡ Ok c → (x : A) × (r ≡ Ok x) × (f x ≡ Ok c)
on_line_ok n (Ok x) f c e = (x, refl, e)
on_line_ok n (Err code) f c e = absurd cc

close_ok : (place : Place) (n : ℕ) (rest : List ℕ) (c : Certificate) → close place n rest ≡ Ok c → (place ≡ closed c) × (rest ≡ [])
close_ok opening n rest c e = absurd cc
close_ok counting n rest c e = absurd cc
close_ok (naming k atoms) n rest c e = absurd cc
close_ok (proving atoms items) n rest c e = absurd cc
close_ok (closed d) n [] c e = let same : d ≡ c = cc in (ap (λ x. closed x) same, refl)
close_ok (closed d) n (b ∷ rest) c e = absurd cc

pub close_closed : (place : Place) (n : ℕ) (rest : List ℕ) (c : Certificate) → close place n rest ≡ Ok c → place ≡ closed c
close_closed place n rest c e = (close_ok place n rest c e).0

-- what reads has nothing after its last line
pub reading_rest : (table : Table) (place : Place) (n : ℕ) (ended : List (List ℕ)) (rest : List ℕ) (c : Certificate) → reading table place n ended rest ≡ Ok c → rest ≡ []
reading_rest table place n [] rest c e = (close_ok place n rest c e).1
reading_rest table place n (line ∷ ended) rest c e =
    let one = on_line_ok n (step table place line) (λ next. reading table next (n + 1) ended rest) c e in
    reading_rest table one.0 (n + 1) ended rest c one.2

-- a place at which a line may stand is not closed
open_close : (table : Table) (place next : Place) (line : List ℕ) (n : ℕ) (front : List ℕ) → step table place line ≡ Ok next → close place n front ≡ Err (fault n 3)
open_close table opening next line n front e = refl
open_close table counting next line n front e = refl
open_close table (naming k atoms) next line n front e = refl
open_close table (proving atoms items) next line n front e = refl
open_close table (closed d) next line n front e = absurd cc

pub reading_front : (table : Table) (place : Place) (n : ℕ) (ended : List (List ℕ)) (line : List ℕ) (more : List (List ℕ)) (rest front : List ℕ) (c : Certificate)
    → reading table place n (ended ++ line ∷ more) rest ≡ Ok c → reading table place n ended front ≡ Err (fault (n + length ended) 3)
reading_front table place n [] line more rest front c e =
    let one = on_line_ok n (step table place line) (λ next. reading table next (n + 1) more rest) c e in
    let number : n ≡ n + 0 = omega arith in
    open_close table place one.0 line n front one.1 ∙ ap (λ k. Err (fault k 3)) number
reading_front table place n (l ∷ ended) line more rest front c e =
    let one = on_line_ok n (step table place l) (λ next. reading table next (n + 1) (ended ++ line ∷ more) rest) c e in
    let number : n + 1 + length ended ≡ n + length (l ∷ ended) = omega arith in
    ap (λ r. on_line n r >>= (λ next. reading table next (n + 1) ended front)) one.1
    ∙ reading_front table one.0 (n + 1) ended line more rest front c one.2
    ∙ ap (λ k. Err (fault k 3)) number

-- ---- fronts of files

with_byte-count : (b : ℕ) (ended : List (List ℕ)) (rest : List ℕ) → length (with_byte b ended rest).ended ≡ length ended
with_byte-count b [] rest = refl
with_byte-count b (line ∷ ended) rest = refl

count_lines : (bytes : List ℕ) → length (lines_of bytes).ended ≡ count_by (λ b. eqb b 10) bytes
count_lines [] = refl
count_lines (b ∷ bytes) =
    let more = sum_by-cons (λ x. cond (eqb x 10) 1 0) b bytes in
    let ih = count_lines bytes in
    elim (eqb b 10) as (λ t. eqb b 10 ≡ t → length (lines_of (b ∷ bytes)).ended ≡ count_by (λ x. eqb x 10) (b ∷ bytes)) [
      | true ↦ (λ h. ap (λ (ls : Lines). length ls.ended) (lines_of-feed b bytes h) ∙ (let one : ◌≡◌ {A = ℕ} (cond (eqb b 10) 1 0) 1 = rw h refl in omega (arith, more, ih, one)))
      | false ↦ (λ h. ap (λ (ls : Lines). length ls.ended) (lines_of-byte b bytes h) ∙ with_byte-count b (lines_of bytes).ended (lines_of bytes).rest ∙ (let none : ◌≡◌ {A = ℕ} (cond (eqb b 10) 1 0) 0 = rw h refl in omega (arith, more, ih, none)))
    ] refl

prefix_lines : (table : Table) (ended more : List (List ℕ)) (rest front : List ℕ) (c : Certificate) → (more ≡ [] → rest ≡ [] → ⊥) → reading table opening 1 (ended ++ more) rest ≡ Ok c → reading table opening 1 ended front ≡ Err (fault (1 + length ended) 3)
prefix_lines table ended [] rest front c other e = absurd (other refl (reading_rest table opening 1 (ended ++ []) rest c e))
prefix_lines table ended (line ∷ more) rest front c other e = reading_front table opening 1 ended line more rest front c e

nil_from_append : (xs ys : List ℕ) → xs ++ ys ≡ [] → ys ≡ []
nil_from_append [] ys e = e
nil_from_append (x ∷ xs) ys e = absurd cc

nothing_ended : (bytes : List ℕ) → (lines_of bytes).ended ≡ [] → (lines_of bytes).rest ≡ bytes
nothing_ended bytes e = sym (ap (λ ls. text_of_lines ls ++ (lines_of bytes).rest) e) ∙ lines_whole bytes

pub prefix_unended : (table : Table) (front rest : List ℕ) (c : Certificate) → certificate_of table (front ++ rest) ≡ Ok c → (rest ≡ [] → ⊥) → certificate_of table front ≡ Err (fault (count_by (λ b. eqb b 10) front + 1) 3)
prefix_unended table front rest c e more =
    let after = lines_of ((lines_of front).rest ++ rest) in
    let whole : reading table opening 1 ((lines_of front).ended ++ after.ended) after.rest ≡ Ok c = sym (ap (λ (ls : Lines). reading table opening 1 ls.ended ls.rest) (lines_of-append front rest)) ∙ e in
    let number : 1 + length (lines_of front).ended ≡ count_by (λ b. eqb b 10) front + 1 = omega (arith, count_lines front) in
    prefix_lines table (lines_of front).ended after.ended after.rest (lines_of front).rest c
    (λ none nil. more (nil_from_append (lines_of front).rest rest (sym (nothing_ended ((lines_of front).rest ++ rest) none) ∙ nil))) whole
    ∙ ap (λ k. Err (fault k 3)) number
