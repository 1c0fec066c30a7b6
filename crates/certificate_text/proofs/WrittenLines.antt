-- The text of lines, and of fields, one behind the other.
use Rattle.std.proofs.Common.{◌≡◌, ℕ, List, [], ◌∷◌, ◌++◌, length, map, Some, unwrap_or, refl, ap, sym, ◌∙◌, append_assoc}
use Rattle.std.specs.Prelude.{codes}
use Rattle.std.specs.List.{flat_map, join_with_byte}
use Rattle.std.proofs.lemmas.List.Concat.{flat_map-cons}
use Rattle.std.proofs.lemmas.List.{append-nil}
use Rattle.key_table.specs.declared.atom.Atom.{Atom}
use Rattle.key_table.specs.Tables.{Table, name_at, variants_at}
use Rattle.rule_problem.specs.declared.certificate.Item.{Item}
use Rattle.certificate_text.specs.Lines.{text_of_lines}
use Rattle.certificate_text.specs.Named.{sub_text, quantifier_text, test_text}
use Rattle.certificate_text.specs.Numbered.{named_test}
use Rattle.certificate_text.specs.Items.{item_text}
use Rattle.certificate_text.specs.Texts.{atom_line, body, count_line, end_line}

-- ---- lines

line_text : (line : List ℕ) (lines : List (List ℕ)) → text_of_lines (line ∷ lines) ≡ (line ++ 10 ∷ []) ++ text_of_lines lines
line_text line lines = flat_map-cons (λ (l : List ℕ). l ++ 10 ∷ []) line lines

mapped_text : {X : Type 0} (f : X → List ℕ) (xs : List X) (more : List (List ℕ)) → text_of_lines (map f xs ++ more) ≡ flat_map (λ x. f x ++ 10 ∷ []) xs ++ text_of_lines more
mapped_text f [] more = refl
mapped_text f (x ∷ xs) more =
    line_text (f x) (map f xs ++ more)
    ∙ ap (λ t. (f x ++ 10 ∷ []) ++ t) (mapped_text f xs more)
    ∙ sym (append_assoc (f x ++ 10 ∷ []) (flat_map (λ x. f x ++ 10 ∷ []) xs) (text_of_lines more))
    ∙ ap (λ t. t ++ text_of_lines more) (sym (flat_map-cons (λ x. f x ++ 10 ∷ []) x xs))

-- the lines after the first, part by part
body_text : (table : Table) (atoms : List Atom) (items : List Item) → text_of_lines (body table atoms items)
    ≡ (count_line (length atoms) ++ 10 ∷ []) ++ (flat_map (λ a. atom_line table a ++ 10 ∷ []) atoms ++ (flat_map (λ i. item_text i ++ 10 ∷ []) items ++ codes "end\n"))
body_text table atoms items =
    line_text (count_line (length atoms)) (map (atom_line table) atoms ++ (map item_text items ++ end_line ∷ []))
    ∙ ap (λ t. (count_line (length atoms) ++ 10 ∷ []) ++ t)
    (mapped_text (atom_line table) atoms (map item_text items ++ end_line ∷ [])
    ∙ ap (λ t. flat_map (λ a. atom_line table a ++ 10 ∷ []) atoms ++ t) (mapped_text item_text items (end_line ∷ [])))

-- the first line and the others, part by part
pub file_text : (table : Table) (first : List ℕ) (atoms : List Atom) (items : List Item) → text_of_lines (first ∷ body table atoms items)
    ≡ (first ++ 10 ∷ (count_line (length atoms) ++ 10 ∷ [])) ++ (flat_map (λ a. atom_line table a ++ 10 ∷ []) atoms ++ (flat_map (λ i. item_text i ++ 10 ∷ []) items ++ codes "end\n"))
file_text table first atoms items =
    let count = count_line (length atoms) ++ 10 ∷ [] in
    let rest = flat_map (λ a. atom_line table a ++ 10 ∷ []) atoms ++ (flat_map (λ i. item_text i ++ 10 ∷ []) items ++ codes "end\n") in
    line_text first (body table atoms items)
    ∙ ap (λ t. (first ++ 10 ∷ []) ++ t) (body_text table atoms items)
    ∙ sym (append_assoc (first ++ 10 ∷ []) count rest)
    ∙ ap (λ t. t ++ rest) (append_assoc first (10 ∷ []) count)

-- ---- fields

-- fields, each with a space before it
pub joined : (field : List ℕ) (fields : List (List ℕ)) → join_with_byte 32 (field ∷ fields) ≡ field ++ flat_map (λ f. 32 ∷ f) fields
joined field [] = sym (append-nil field)
joined field (next ∷ fields) = ap (λ t. field ++ 32 ∷ t) (joined next fields) ∙ ap (λ t. field ++ t) (sym (flat_map-cons (λ (f : List ℕ). 32 ∷ f) next fields))

mapped_fields : {X Y : Type 0} (text : Y → List ℕ) (named : X → Y) (xs : List X) → flat_map (λ f. 32 ∷ f) (map text (map named xs)) ≡ flat_map (λ x. 32 ∷ text (named x)) xs
mapped_fields text named [] = refl
mapped_fields text named (x ∷ xs) = ap (λ t. 32 ∷ (text (named x) ++ t)) (mapped_fields text named xs)

-- the line of an atom with its line feed, field by field
pub atom_line_parts : (table : Table) (atom : Atom) (key : List ℕ) → name_at atom.slot.key table ≡ Some key → atom_line table atom ++ 10 ∷ []
    ≡ key ++ ((32 ∷ sub_text atom.slot.sub) ++ ((32 ∷ quantifier_text atom.none_of) ++ (flat_map (λ t. 32 ∷ test_text (named_test (variants_at atom.slot.key table) t)) atom.tests ++ 10 ∷ [])))
unfolding atom_line
atom_line_parts table atom key is =
    let name : unwrap_or (name_at atom.slot.key table) [] ≡ key = ap (λ o. unwrap_or o []) is in
    let sub = 32 ∷ sub_text atom.slot.sub in
    let quantifier = 32 ∷ quantifier_text atom.none_of in
    let tests = map test_text (map (named_test (variants_at atom.slot.key table)) atom.tests) in
    let spaced = flat_map (λ f. 32 ∷ f) tests in
    ap (λ k. join_with_byte 32 (k ∷ sub_text atom.slot.sub ∷ quantifier_text atom.none_of ∷ tests) ++ 10 ∷ []) name
    ∙ ap (λ t. t ++ 10 ∷ []) (joined key (sub_text atom.slot.sub ∷ quantifier_text atom.none_of ∷ tests))
    ∙ append_assoc key (sub ++ (quantifier ++ spaced)) (10 ∷ [])
    ∙ ap (λ t. key ++ t) (append_assoc sub (quantifier ++ spaced) (10 ∷ []) ∙ ap (λ t. sub ++ t) (append_assoc quantifier spaced (10 ∷ [])))
    ∙ ap (λ t. key ++ (sub ++ (quantifier ++ (t ++ 10 ∷ [])))) (mapped_fields test_text (named_test (variants_at atom.slot.key table)) atom.tests)

-- what is written behind what was written
pub then : (a b p q c : List ℕ) → b ≡ a ++ p → c ≡ b ++ q → c ≡ a ++ (p ++ q)
then a b p q c first second = second ∙ ap (λ t. t ++ q) first ∙ append_assoc a p q
