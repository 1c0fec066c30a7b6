-- What was read so far is the front of the text of what is read.
use Rattle.std.proofs.Common.{◌≡◌, ℕ, zero, suc, ◌+◌, List, [], ◌∷◌, ◌++◌, length, map, true, false, cond, bytes_eq, Result, Ok, Err, refl, ap, sym, ◌∙◌, arith, append_assoc}
use Rattle.std.specs.Prelude.{⊤}
use Rattle.std.proofs.lemmas.List.{map-append, length_push, append-nil}
use Rattle.std.proofs.lemmas.Slice.Eq.{bytes_eq-Decides}
use Rattle.key_table.specs.declared.atom.Atom.{Atom}
use Rattle.key_table.specs.Tables.{Table}
use Rattle.key_table.specs.Answers.{◌>>=◌}
use Rattle.rule_problem.specs.declared.certificate.Item.{Item}
use Rattle.rule_problem.specs.declared.certificate.Certificate.{Certificate}
use Rattle.certificate_text.specs.Lines.{lines_of, text_of_lines}
use Rattle.certificate_text.specs.Items.{item_text}
use Rattle.certificate_text.specs.Texts.{certificate_line, trace_line, end_line, count_line, atom_line, certificate_lines, certificate_text}
use Rattle.certificate_text.specs.Reading.{Place, opening, counting, naming, proving, closed, first_of, count_of, atom_in, item_in, item_step, step, reading, certificate_of}
use Rattle.certificate_text.proofs.Options.{then_ok, ok_is}
use Rattle.certificate_text.proofs.NamedLaws.{item_in_only, count_only}
use Rattle.certificate_text.proofs.NumberedLaws.{atom_in_only}
use Rattle.certificate_text.proofs.LineLaws.{lines_whole}
use Rattle.certificate_text.proofs.Prefixes.{on_line_ok, reading_rest, close_closed}

-- the lines that lead to a place
abbrev so_far : Table → Place → List (List ℕ)
so_far table opening = []
so_far table counting = certificate_line ∷ []
so_far table (naming n atoms) = certificate_line ∷ count_line (length atoms + n) ∷ map (atom_line table) atoms
so_far table (proving atoms items) = certificate_line ∷ count_line (length atoms) ∷ (map (atom_line table) atoms ++ map item_text items)
so_far table (closed c) = certificate_lines table c

abbrev bad : ℕ → Result ⊤ ℕ
bad code = Err code

abbrev good : Result ⊤ ℕ
good = Ok tt

first_only : (line : List ℕ) (u : ⊤) → first_of line ≡ Ok u → line ≡ certificate_line
first_only line u e =
    elim (bytes_eq line trace_line) as (λ b. cond b (bad 6) (cond (bytes_eq line certificate_line) good (bad 1)) ≡ Ok u → line ≡ certificate_line) [
      | true ↦ (λ (g : bad 6 ≡ Ok u). absurd cc)
      | false ↦ (λ g. elim (bytes_eq line certificate_line) as (λ b. bytes_eq line certificate_line ≡ b → cond b good (bad 1) ≡ Ok u → line ≡ certificate_line) [
        | true ↦ (λ h g. (bytes_eq-Decides line certificate_line).0 h)
        | false ↦ (λ h (g : bad 1 ≡ Ok u). absurd cc)
      ] refl g)
    ] e

item_step_far : (table : Table) (atoms : List Atom) (items : List Item) (line : List ℕ) (next : Place) → item_step atoms items line ≡ Ok next → so_far table next ≡ so_far table (proving atoms items) ++ line ∷ []
item_step_far table atoms items line next e =
    let a = map (atom_line table) atoms in
    let t = map item_text items in
    elim (bytes_eq line end_line) as (λ b. bytes_eq line end_line ≡ b → cond b (Ok (closed (record { atoms = atoms; items = items }))) (item_in (length items) line >>= λ item. Ok (proving atoms (items ++ item ∷ []))) ≡ Ok next → so_far table next ≡ so_far table (proving atoms items) ++ line ∷ []) [
      | true ↦ (λ h g.
          let is = (bytes_eq-Decides line end_line).0 h in
          ap (so_far table) (sym (ok_is (closed (record { atoms = atoms; items = items })) next g))
          ∙ ap (λ x. certificate_line ∷ count_line (length atoms) ∷ (a ++ (t ++ x ∷ []))) (sym is)
          ∙ ap (λ x. certificate_line ∷ count_line (length atoms) ∷ x) (sym (append_assoc a t (line ∷ []))))
      | false ↦ (λ h g.
          let w = then_ok (item_in (length items) line) (λ item. Ok (proving atoms (items ++ item ∷ []))) next g in
          ap (so_far table) (sym (ok_is (proving atoms (items ++ w.0 ∷ [])) next w.2))
          ∙ ap (λ x. certificate_line ∷ count_line (length atoms) ∷ (a ++ x)) (map-append item_text items (w.0 ∷ []) ∙ ap (λ x. t ++ x ∷ []) (item_in_only (length items) line w.0 w.1))
          ∙ ap (λ x. certificate_line ∷ count_line (length atoms) ∷ x) (sym (append_assoc a t (line ∷ []))))
    ] refl e

step_far : (table : Table) (place next : Place) (line : List ℕ) → step table place line ≡ Ok next → so_far table next ≡ so_far table place ++ line ∷ []
step_far table opening next line e =
    let w = then_ok (first_of line) (λ _. Ok counting) next e in
    ap (so_far table) (sym (ok_is counting next w.2)) ∙ ap (λ x. x ∷ []) (sym (first_only line w.0 w.1))
step_far table counting next line e =
    let w = then_ok (count_of line) (λ n. Ok (naming n [])) next e in
    let sum : 0 + w.0 ≡ w.0 = omega arith in
    ap (so_far table) (sym (ok_is (naming w.0 []) next w.2)) ∙ ap (λ n. certificate_line ∷ count_line n ∷ []) sum ∙ ap (λ x. certificate_line ∷ x ∷ []) (count_only line w.0 w.1).0
step_far table (naming zero atoms) next line e =
    let sum : length atoms ≡ length atoms + 0 = omega arith in
    item_step_far table atoms [] line next e
    ∙ ap (λ x. certificate_line ∷ count_line (length atoms) ∷ (x ++ line ∷ [])) (append-nil (map (atom_line table) atoms))
    ∙ ap (λ n. certificate_line ∷ count_line n ∷ (map (atom_line table) atoms ++ line ∷ [])) sum
step_far table (naming (suc n) atoms) next line e =
    let w = then_ok (atom_in table line) (λ atom. Ok (naming n (atoms ++ atom ∷ []))) next e in
    let sum : length (atoms ++ w.0 ∷ []) + n ≡ length atoms + suc n = omega (arith, length_push atoms w.0) in
    ap (so_far table) (sym (ok_is (naming n (atoms ++ w.0 ∷ [])) next w.2))
    ∙ ap (λ k. certificate_line ∷ count_line k ∷ map (atom_line table) (atoms ++ w.0 ∷ [])) sum
    ∙ ap (λ x. certificate_line ∷ count_line (length atoms + suc n) ∷ x) (map-append (atom_line table) atoms (w.0 ∷ []) ∙ ap (λ x. map (atom_line table) atoms ++ x ∷ []) (atom_in_only table line w.0 w.1))
step_far table (proving atoms items) next line e = item_step_far table atoms items line next e
step_far table (closed c) next line e = absurd cc

reading_far : (table : Table) (place : Place) (n : ℕ) (ended : List (List ℕ)) (rest : List ℕ) (c : Certificate) → reading table place n ended rest ≡ Ok c → so_far table place ++ ended ≡ certificate_lines table c
reading_far table place n [] rest c e = append-nil (so_far table place) ∙ ap (so_far table) (close_closed place n rest c e)
reading_far table place n (line ∷ ended) rest c e =
    let one = on_line_ok n (step table place line) (λ next. reading table next (n + 1) ended rest) c e in
    sym (append_assoc (so_far table place) (line ∷ []) ended) ∙ ap (λ x. x ++ ended) (sym (step_far table place one.0 line one.1)) ∙ reading_far table one.0 (n + 1) ended rest c one.2

pub spelled_once : (table : Table) (bytes : List ℕ) (c : Certificate) → certificate_of table bytes ≡ Ok c → bytes ≡ certificate_text table c
spelled_once table bytes c e =
    let ls = lines_of bytes in
    sym (lines_whole bytes) ∙ ap (λ x. text_of_lines ls.ended ++ x) (reading_rest table opening 1 ls.ended ls.rest c e) ∙ append-nil (text_of_lines ls.ended)
    ∙ ap text_of_lines (reading_far table opening 1 ls.ended ls.rest c e)
