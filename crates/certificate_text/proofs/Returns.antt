-- A certificate that was written reads back.
use Rattle.std.proofs.Common.{◌≡◌, ℕ, ◌+◌, eqb, ◌<◌, ◌^◌, List, [], ◌∷◌, ◌++◌, length, map, true, Result, Ok, Err, refl, ap, subst, ◌∙◌, arith}
use Rattle.std.specs.Prelude.{codes, IfOk, OnOk}
use Rattle.std.specs.List.{list_all, AllByRecursion, count_by}
use Rattle.std.specs.Fmt.{decimal}
use Rattle.std.proofs.lemmas.Bool.{and_parts, and_from}
use Rattle.std.proofs.lemmas.List.Folds.{list_all-append}
use Rattle.key_table.specs.declared.atom.Atom.{Atom}
use Rattle.key_table.specs.Tables.{Table, is_table}
use Rattle.key_table.specs.Atoms.{atom_fits}
use Rattle.rule_problem.specs.declared.certificate.Item.{Item}
use Rattle.rule_problem.specs.declared.certificate.Item.TheVariants.{Split, Void, Want, Bar, Goal, Todo}
use Rattle.rule_problem.specs.declared.certificate.Certificate.{Certificate}
use Rattle.certificate_text.specs.Lines.{Lines, text_of_lines}
use Rattle.certificate_text.specs.Items.{item_text}
use Rattle.certificate_text.specs.Texts.{certificate_line, end_line, count_line, atom_line, body, certificate_lines, certificate_text}
use Rattle.certificate_text.specs.Reading.{opening, atom_in, reading, fault, certificate_of}
use Rattle.certificate_text.specs.CodeValues.{IsAtom, IsItem, IsCertificate}
use Rattle.certificate_text.specs.Limits.{IsWithinLimits}
use Rattle.certificate_text.proofs.LineLaws.{HasNoFeed, lines_of-text}
use Rattle.certificate_text.proofs.Characters.{is_printable, printable-graphic, decimal-graphic, no_feed}
use Rattle.certificate_text.proofs.Prefixes.{prefix_unended}
use Rattle.certificate_text.proofs.ReadsBack.{lines_read, steps_from}
use Rattle.certificate_text.proofs.WrittenAtoms.{written}

atoms_read : (table : Table) (atoms : List Atom) → is_table table ≡ true → list_all (atom_fits table) atoms ≡ true → AllByRecursion IsAtom atoms → AllByRecursion (λ a. atom_in table (atom_line table a) ≡ Ok a) atoms
atoms_read table [] made fit is = tt
atoms_read table (a ∷ atoms) made fit is = let p = and_parts (atom_fits table a) (list_all (atom_fits table) atoms) fit in ((written table a made p.0 is.0).reads, atoms_read table atoms made p.1 is.1)

labelled-printable : (label : List ℕ) (n : ℕ) → list_all is_printable label ≡ true → n < 2 ^ 64 → list_all is_printable (label ++ decimal n) ≡ true
labelled-printable label n h small = list_all-append is_printable label (decimal n) ∙ and_from _ _ h (printable-graphic (decimal n) (decimal-graphic n small))

item-printable : (item : Item) → IsItem item → list_all is_printable (item_text item) ≡ true
item-printable (Split n) h = labelled-printable (codes "split ") n refl (omega arith)
item-printable (Void n) h = labelled-printable (codes "void ") n refl (omega arith)
item-printable (Want n) h = labelled-printable (codes "want ") n refl (omega arith)
item-printable (Bar n) h = labelled-printable (codes "bar ") n refl (omega arith)
item-printable Goal h = refl
item-printable Todo h = refl

item_lines : (items : List Item) → AllByRecursion IsItem items → AllByRecursion HasNoFeed (map item_text items ++ end_line ∷ [])
item_lines [] is = (no_feed end_line refl, tt)
item_lines (item ∷ items) is = (no_feed (item_text item) (item-printable item is.0), item_lines items is.1)

atom_lines : (table : Table) (atoms : List Atom) (last : List (List ℕ)) → is_table table ≡ true → list_all (atom_fits table) atoms ≡ true → AllByRecursion IsAtom atoms → AllByRecursion HasNoFeed last → AllByRecursion HasNoFeed (map (atom_line table) atoms ++ last)
atom_lines table [] last made fit is rest = rest
atom_lines table (a ∷ atoms) last made fit is rest = let p = and_parts (atom_fits table a) (list_all (atom_fits table) atoms) fit in (no_feed (atom_line table a) (written table a made p.0 is.0).printable, atom_lines table atoms last made p.1 is.1 rest)

pub reads_back : (table : Table) (c : Certificate) → is_table table ≡ true → list_all (atom_fits table) c.atoms ≡ true → IsCertificate c → IsWithinLimits c → certificate_of table (certificate_text table c) ≡ Ok c
reads_back table c made fit is within =
    let none : AllByRecursion HasNoFeed (certificate_lines table c) =
    (no_feed certificate_line refl, (no_feed (count_line (length c.atoms)) (labelled-printable (codes "atoms ") (length c.atoms) refl (omega (arith, within.few_atoms))), atom_lines table c.atoms (map item_text c.items ++ end_line ∷ []) made fit is.atoms (item_lines c.items is.items))) in
    ap (λ (ls : Lines). reading table opening 1 ls.ended ls.rest) (lines_of-text (certificate_lines table c) none)
    ∙ lines_read table c (atoms_read table c.atoms made fit is.atoms) (steps_from c.items is.items within.steps) within.few_atoms within.few_items

-- A proper prefix of what was written is unended.
pub prefix_written : (table : Table) (front rest : List ℕ) (c : Certificate) → is_table table ≡ true → list_all (atom_fits table) c.atoms ≡ true → IsCertificate c → IsWithinLimits c → front ++ rest ≡ certificate_text table c → (rest ≡ [] → ⊥)
    → certificate_of table front ≡ Err (fault (count_by (λ b. eqb b 10) front + 1) 3)
prefix_written table front rest c made fit is within whole more = prefix_unended table front rest c (ap (certificate_of table) whole ∙ reads_back table c made fit is within) more

-- What was written of a certificate's atoms and items reads back.
pub written_reads : {E : Type 0} (table : Table) (c : Certificate) (atoms : List Atom) (items : List Item) (r : Result (List ℕ) E) → atoms ≡ c.atoms → items ≡ c.items
    → is_table table ≡ true → list_all (atom_fits table) c.atoms ≡ true → IfOk r (λ t. t ≡ text_of_lines (certificate_line ∷ body table atoms items)) → OnOk r (AllByRecursion IsAtom atoms) → OnOk r (AllByRecursion IsItem items)
    → IfOk r (λ t. IsWithinLimits c → certificate_of table t ≡ Ok c)
written_reads table c atoms items (Ok t) a i made fit text of_atoms of_items = λ within.
    let whole : t ≡ certificate_text table c =
    text ∙ ap (λ (xs : List Atom). text_of_lines (certificate_line ∷ body table xs items)) a ∙ ap (λ (ys : List Item). text_of_lines (certificate_line ∷ body table c.atoms ys)) i
    in
    ap (certificate_of table) whole
    ∙ reads_back table c made fit (record { atoms = subst (AllByRecursion IsAtom) a of_atoms; items = subst (AllByRecursion IsItem) i of_items }) within
written_reads table c atoms items (Err e) a i made fit text of_atoms of_items = tt
