-- What is read fits the table and is within the limits.
use Rattle.std.proofs.Common.{◌≡◌, ℕ, zero, suc, ◌+◌, ◌<◌, ◌≤◌, List, [], ◌∷◌, ◌++◌, length, Bool, true, false, cond, ltb, bytes_eq, Some, Ok, refl, ap, sym, subst, ◌∙◌, arith}
use Rattle.std.specs.List.{list_all}
use Rattle.std.proofs.lemmas.Bool.{and_from, ltb-true}
use Rattle.std.proofs.lemmas.List.{length_push}
use Rattle.std.proofs.lemmas.List.Folds.{list_all-append}
use Rattle.key_table.specs.declared.atom.Atom.{Atom}
use Rattle.key_table.specs.Answers.{◌>>=◌, or_fault, provided}
use Rattle.key_table.specs.Atoms.{atom_fits}
use Rattle.key_table.specs.Tables.{Table}
use Rattle.rule_problem.specs.declared.certificate.Item.{Item}
use Rattle.rule_problem.specs.declared.certificate.Item.TheVariants.{Split, Void, Want, Bar, Goal, Todo}
use Rattle.rule_problem.specs.declared.certificate.Certificate.{Certificate}
use Rattle.certificate_text.specs.Lines.{lines_of}
use Rattle.certificate_text.specs.Items.{item_text, item_of}
use Rattle.certificate_text.specs.Limits.{is_step, IsWithinLimits}
use Rattle.certificate_text.specs.Texts.{end_line}
use Rattle.certificate_text.specs.Reading.{Place, opening, counting, naming, proving, closed, first_of, count_of, atom_in, item_in, item_step, step, reading, certificate_of}
use Rattle.certificate_text.proofs.Fitting.{atom_in_fits}
use Rattle.certificate_text.proofs.NamedLaws.{count_only, item_only}
use Rattle.certificate_text.proofs.Options.{then_ok, ok_is, provided_ok, or_fault_ok}
use Rattle.certificate_text.proofs.Prefixes.{on_line_ok, close_closed}

-- these atoms, with so many due, and these items fit and are within the limits
record Kept (table : Table) (atoms : List Atom) (due : ℕ) (items : List Item) : Type 0 where
  fits : list_all (atom_fits table) atoms ≡ true
  few_atoms : length atoms + due ≤ 65536
  few_items : length items ≤ 131073
  steps : list_all is_step items ≡ true

abbrev KeptAt : Table → Place → Type 0
KeptAt table opening = Unit {0}
KeptAt table counting = Unit {0}
KeptAt table (naming n atoms) = Kept table atoms n []
KeptAt table (proving atoms items) = Kept table atoms 0 items
KeptAt table (closed c) = Kept table c.atoms 0 c.items

is_step-text : (item : Item) → item_of (item_text item) ≡ Some item → is_step item ≡ true
unfolding item_of
is_step-text (Split n) e = refl
is_step-text (Void n) e = refl
is_step-text (Want n) e = refl
is_step-text (Bar n) e = refl
is_step-text Goal e = refl
is_step-text Todo e = absurd cc

-- an item on a line is a step, and there is room for it
item_kept : (count : ℕ) (line : List ℕ) (item : Item) → item_in count line ≡ Ok item → (is_step item ≡ true) × (count < 131073)
item_kept count line item e =
    let a = then_ok (or_fault 1 (item_of line)) (λ i. provided 5 (ltb count 131073) >>= λ _. Ok i) item e in
    let b = provided_ok 5 (ltb count 131073) (Ok a.0) item a.2 in
    let is = or_fault_ok 1 (item_of line) a.0 a.1 in
    (ap is_step (sym (ok_is a.0 item b.1)) ∙ is_step-text a.0 (ap item_of (item_only line a.0 is) ∙ is), ltb-true count 131073 b.0)

push_all : {X : Type 0} (p : X → Bool) (xs : List X) (x : X) → list_all p xs ≡ true → p x ≡ true → list_all p (xs ++ x ∷ []) ≡ true
push_all p xs x all one = list_all-append p xs (x ∷ []) ∙ and_from _ _ all (and_from _ _ one refl)

item_step_kept : (table : Table) (atoms : List Atom) (items : List Item) (line : List ℕ) (next : Place) → item_step atoms items line ≡ Ok next → Kept table atoms 0 items → KeptAt table next
item_step_kept table atoms items line next e kept =
    elim (bytes_eq line end_line) as (λ b. cond b (Ok (closed (record { atoms = atoms; items = items }))) (item_in (length items) line >>= λ item. Ok (proving atoms (items ++ item ∷ []))) ≡ Ok next → KeptAt table next) [
      | true ↦ (λ g. subst (KeptAt table) (ok_is (closed (record { atoms = atoms; items = items })) next g) kept)
      | false ↦ (λ g.
          let w = then_ok (item_in (length items) line) (λ item. Ok (proving atoms (items ++ item ∷ []))) next g in
          let one = item_kept (length items) line w.0 w.1 in
          let more : Kept table atoms 0 (items ++ w.0 ∷ []) = record { fits = kept.fits; few_atoms = kept.few_atoms; few_items = omega (arith, length_push items w.0, one.1); steps = push_all is_step items w.0 kept.steps one.0 } in
          subst (KeptAt table) (ok_is (proving atoms (items ++ w.0 ∷ [])) next w.2) more)
    ] e

step_kept : (table : Table) (place next : Place) (line : List ℕ) → step table place line ≡ Ok next → KeptAt table place → KeptAt table next
step_kept table opening next line e kept =
    let w = then_ok (first_of line) (λ _. Ok counting) next e in
    subst (KeptAt table) (ok_is counting next w.2) tt
step_kept table counting next line e kept =
    let w = then_ok (count_of line) (λ n. Ok (naming n [])) next e in
    let few : 0 + w.0 ≤ 65536 = omega (arith, (count_only line w.0 w.1).1) in
    let none : Kept table [] w.0 [] = record { fits = refl; few_atoms = few; few_items = omega arith; steps = refl } in
    subst (KeptAt table) (ok_is (naming w.0 []) next w.2) none
step_kept table (naming zero atoms) next line e kept = item_step_kept table atoms [] line next e kept
step_kept table (naming (suc n) atoms) next line e kept =
    let w = then_ok (atom_in table line) (λ atom. Ok (naming n (atoms ++ atom ∷ []))) next e in
    let more : Kept table (atoms ++ w.0 ∷ []) n [] = record { fits = push_all (atom_fits table) atoms w.0 kept.fits (atom_in_fits table line w.0 w.1); few_atoms = omega (arith, length_push atoms w.0, kept.few_atoms); few_items = omega arith; steps = refl } in
    subst (KeptAt table) (ok_is (naming n (atoms ++ w.0 ∷ [])) next w.2) more
step_kept table (proving atoms items) next line e kept = item_step_kept table atoms items line next e kept
step_kept table (closed c) next line e kept = absurd cc

reading_kept : (table : Table) (place : Place) (n : ℕ) (ended : List (List ℕ)) (rest : List ℕ) (c : Certificate) → reading table place n ended rest ≡ Ok c → KeptAt table place → KeptAt table (closed c)
reading_kept table place n [] rest c e kept = subst (KeptAt table) (close_closed place n rest c e) kept
reading_kept table place n (line ∷ ended) rest c e kept =
    let one = on_line_ok n (step table place line) (λ next. reading table next (n + 1) ended rest) c e in
    reading_kept table one.0 (n + 1) ended rest c one.2 (step_kept table place one.0 line one.1 kept)

kept : (table : Table) (bytes : List ℕ) (c : Certificate) → certificate_of table bytes ≡ Ok c → KeptAt table (closed c)
kept table bytes c e = reading_kept table opening 1 (lines_of bytes).ended (lines_of bytes).rest c e tt

pub read_fits : (table : Table) (bytes : List ℕ) (c : Certificate) → certificate_of table bytes ≡ Ok c → list_all (atom_fits table) c.atoms ≡ true
read_fits table bytes c e = (kept table bytes c e).fits

pub read_within : (table : Table) (bytes : List ℕ) (c : Certificate) → certificate_of table bytes ≡ Ok c → IsWithinLimits c
read_within table bytes c e =
    let k = kept table bytes c e in
    record { few_atoms = omega (arith, k.few_atoms); few_items = k.few_items; steps = k.steps }
