-- One line on the way through a file.
use Rattle.std.proofs.Common.{◌≡◌, ℕ, suc, ◌+◌, ◌<◌, List, [], ◌∷◌, ◌++◌, length, true, false, bytes_eq, Some, None, Result, Ok, Err, refl, ap, sym, subst, ◌∙◌, arith}
use Rattle.key_table.specs.declared.stop.Stop.{Stop}
use Rattle.key_table.specs.declared.stop.Stop.TheVariants as stop
use Rattle.key_table.specs.declared.atom.Atom.{Atom}
use Rattle.key_table.specs.Tables.{Table}
use Rattle.key_table.specs.Answers.{◌>>=◌, Fails}
use Rattle.rule_problem.specs.declared.certificate.Item.{Item}
use Rattle.rule_problem.specs.declared.certificate.Certificate.{Certificate}
use Rattle.certificate_text.specs.declared.error.CertError.{CertError}
use Rattle.certificate_text.specs.Lines.{Lines, lines_of, text_of_lines}
use Rattle.certificate_text.specs.Reading.{Place, opening, counting, naming, proving, closed, fault, on_line, close, step, item_in, atom_in, first_of, count_of, reading, certificate_of}
use Rattle.certificate_text.specs.Texts.{end_line}
use Rattle.certificate_text.specs.Walks.{from, after_item}
use Rattle.certificate_text.proofs.LineLaws.{lines, lines_whole}

-- the next line is this one, and the rest of the file comes after it
pub record Next (bytes line more : List ℕ) : Type 0 where
  pub is : lines_of bytes ≡ lines (line ∷ (lines_of more).ended) (lines_of more).rest

pub from_line : (table : Table) (place next : Place) (read : ℕ) (bytes line more : List ℕ) → Next bytes line more → step table place line ≡ Ok next → from table place read bytes ≡ from table next (read + 1) more
unfolding from
from_line table place next read bytes line more n e =
    ap (λ (ls : Lines). reading table place (read + 1) ls.ended ls.rest) n.is
    ∙ ap (λ r. on_line (read + 1) r >>= (λ next. reading table next (read + 1 + 1) (lines_of more).ended (lines_of more).rest)) e

pub from_fault : (table : Table) (place : Place) (read code : ℕ) (bytes line more : List ℕ) → Next bytes line more → step table place line ≡ Err code → from table place read bytes ≡ Err (fault (read + 1) code)
unfolding from
from_fault table place read code bytes line more n e =
    ap (λ (ls : Lines). reading table place (read + 1) ls.ended ls.rest) n.is
    ∙ ap (λ r. on_line (read + 1) r >>= (λ next. reading table next (read + 1 + 1) (lines_of more).ended (lines_of more).rest)) e

-- a place at which a line may stand
pub record IsOpen (place : Place) : Type 0 where
  pub is : (n : ℕ) (rest : List ℕ) → close place n rest ≡ Err (fault n 3)

pub from_end : (table : Table) (place : Place) (read : ℕ) (bytes : List ℕ) (e : CertError) → IsOpen place → (e ≡ fault (read + 1) 3) × (lines_of bytes ≡ lines [] bytes) → from table place read bytes ≡ Err e
unfolding from
from_end table place read bytes e open_ h =
    ap (λ (ls : Lines). reading table place (read + 1) ls.ended ls.rest) h.1 ∙ open_.is (read + 1) bytes ∙ ap (λ x. Err x) (sym h.0)

pub open_opening : IsOpen opening
open_opening = record { is = λ n rest. refl }

pub open_counting : IsOpen counting
open_counting = record { is = λ n rest. refl }

pub open_naming : (k : ℕ) (atoms : List Atom) → IsOpen (naming k atoms)
open_naming k atoms = record { is = λ n rest. refl }

pub open_proving : (atoms : List Atom) (items : List Item) → IsOpen (proving atoms items)
open_proving atoms items = record { is = λ n rest. refl }

-- where no atom is due, an item or `end` is asked for
pub naming_none : (table : Table) (atoms : List Atom) (read : ℕ) (bytes : List ℕ) → from table (naming 0 atoms) read bytes ≡ from table (proving atoms []) read bytes
unfolding from
naming_none table atoms read bytes = at (lines_of bytes).ended
  where
    at : (ended : List (List ℕ)) → reading table (naming 0 atoms) (read + 1) ended (lines_of bytes).rest ≡ reading table (proving atoms []) (read + 1) ended (lines_of bytes).rest
    at [] = refl
    at (line ∷ ended) = refl

pub end_step : (table : Table) (atoms : List Atom) (items : List Item) (line : List ℕ) → bytes_eq line end_line ≡ true → step table (proving atoms items) line ≡ Ok (after_item atoms items None)
end_step table atoms items line e = rw e refl

pub item_next : (table : Table) (atoms : List Atom) (items : List Item) (count : ℕ) (line : List ℕ) (item : Item) → length items ≡ count → bytes_eq line end_line ≡ false → Ok item ≡ item_in count line → step table (proving atoms items) line ≡ Ok (after_item atoms items (Some item))
item_next table atoms items count line item n e i = rw (e, n, ← i) refl

pub item_fault : (table : Table) (atoms : List Atom) (items : List Item) (count code : ℕ) (line : List ℕ) → length items ≡ count → bytes_eq line end_line ≡ false → Err code ≡ item_in count line → step table (proving atoms items) line ≡ Err code
item_fault table atoms items count code line n e i = rw (e, n, ← i) refl

pub atom_next : (table : Table) (n : ℕ) (atoms : List Atom) (line : List ℕ) (atom : Atom) → atom_in table line ≡ Ok atom → step table (naming (suc n) atoms) line ≡ Ok (naming n (atoms ++ atom ∷ []))
atom_next table n atoms line atom e = ap (λ r. r >>= (λ a. Ok (naming n (atoms ++ a ∷ [])))) e

pub atom_fault : (table : Table) (n : ℕ) (atoms : List Atom) (line : List ℕ) (code : ℕ) → atom_in table line ≡ Err code → step table (naming (suc n) atoms) line ≡ Err code
atom_fault table n atoms line code e = ap (λ r. r >>= (λ a. Ok (naming n (atoms ++ a ∷ [])))) e

-- after `end` no byte follows
closed_rest : (table : Table) (c : Certificate) (n : ℕ) (ended : List (List ℕ)) (rest : List ℕ) → (ended ≡ [] → 0 < length rest) → reading table (closed c) n ended rest ≡ Err (fault n 4)
closed_rest table c n [] [] h = absurd (let z : 0 < 0 = h refl in omega arith)
closed_rest table c n [] (b ∷ rest) h = refl
closed_rest table c n (line ∷ ended) rest h = refl

pub closed_full : (table : Table) (c : Certificate) (read : ℕ) (bytes : List ℕ) → 0 < length bytes → from table (closed c) read bytes ≡ Err (fault (read + 1) 4)
unfolding from
closed_full table c read bytes some =
    closed_rest table c (read + 1) (lines_of bytes).ended (lines_of bytes).rest
    (λ none. subst (λ x. 0 < length x) (sym (sym (ap (λ ls. text_of_lines ls ++ (lines_of bytes).rest) none) ∙ lines_whole bytes)) some)

pub closed_done : (table : Table) (c : Certificate) (read : ℕ) → from table (closed c) read [] ≡ Ok c
unfolding from
closed_done table c read = refl

pub certificate_from : (table : Table) (bytes : List ℕ) → certificate_of table bytes ≡ from table opening 0 bytes
unfolding from
certificate_from table bytes = refl

-- ---- as the calls say it

pub went : (table : Table) (place next : Place) (read after : ℕ) (bytes line more : List ℕ) → lines_of bytes ≡ lines (line ∷ (lines_of more).ended) (lines_of more).rest → after ≡ read + 1 → step table place line ≡ Ok next → from table place read bytes ≡ from table next after more
went table place next read after bytes line more n r e = from_line table place next read bytes line more (record { is = n }) e ∙ ap (λ k. from table next k more) (sym r)

pub failed : (table : Table) (place : Place) (read after code : ℕ) (bytes line more : List ℕ) (f : CertError) → lines_of bytes ≡ lines (line ∷ (lines_of more).ended) (lines_of more).rest → after ≡ read + 1 → step table place line ≡ Err code → f ≡ fault after code → from table place read bytes ≡ Err f
failed table place read after code bytes line more f n r e is = from_fault table place read code bytes line more (record { is = n }) e ∙ ap (λ k. Err (fault k code)) (sym r) ∙ ap (λ x. Err x) (sym is)

pub first_next : (table : Table) (line : List ℕ) → first_of line ≡ Ok tt → step table opening line ≡ Ok counting
first_next table line e = ap (λ r. r >>= (λ _. Ok counting)) e

pub first_fault : (table : Table) (line : List ℕ) (code : ℕ) → first_of line ≡ Err code → step table opening line ≡ Err code
first_fault table line code e = ap (λ r. r >>= (λ _. Ok counting)) e

pub count_next : (table : Table) (line : List ℕ) (n : ℕ) → count_of line ≡ Ok n → step table counting line ≡ Ok (naming n [])
count_next table line n e = ap (λ r. r >>= (λ n. Ok (naming n []))) e

pub count_fault : (table : Table) (line : List ℕ) (code : ℕ) → count_of line ≡ Err code → step table counting line ≡ Err code
count_fault table line code e = ap (λ r. r >>= (λ n. Ok (naming n []))) e

pub fails_at : (s : Stop CertError) (right start : Result Certificate CertError) → right ≡ start → Fails s start → Fails s right
fails_at stop.Memory right start e h = tt
fails_at (stop.Fault f) right start e h = e ∙ h

pub closed_end : (table : Table) (c : Certificate) (read : ℕ) (bytes : List ℕ) → length bytes ≡ 0 → from table (closed c) read bytes ≡ Ok c
closed_end table c read [] h = closed_done table c read
closed_end table c read (b ∷ bytes) h = absurd (omega arith)
