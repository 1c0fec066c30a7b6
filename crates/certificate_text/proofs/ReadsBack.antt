-- What was written reads back.
use Rattle.std.proofs.Common.{◌≡◌, ℕ, ◌+◌, ◌<◌, ◌≤◌, List, [], ◌∷◌, ◌++◌, length, map, true, false, leb, ltb, bytes_eq, Option, Some, None, Result, Ok, refl, ap, sym, ◌∙◌, append_assoc, arith}
use Rattle.std.specs.Prelude.{ℤ, codes, option_map, option_and_then}
use Rattle.std.specs.Option.{option_map_or}
use Rattle.std.specs.List.{list_all, AllByRecursion}
use Rattle.std.specs.Fmt.{decimal, signed_decimal}
use Rattle.std.proofs.lemmas.Bool.{lt-ltb, le-leb, true≢false}
use Rattle.std.proofs.lemmas.List.{append-nil, length_push}
use Rattle.hex.specs.Hex.{encode_lower}
use Rattle.key_table.specs.declared.atom.Op.{Op}
use Rattle.key_table.specs.declared.atom.Op.TheVariants.{Equal, NotEqual, Less, LessEqual, Greater, GreaterEqual}
use Rattle.key_table.specs.declared.atom.Atom.{Atom}
use Rattle.key_table.specs.Names.{is_word}
use Rattle.key_table.specs.Tables.{Table}
use Rattle.key_table.specs.Answers.{◌>>=◌, or_fault, provided}
use Rattle.rule_problem.specs.declared.certificate.Item.{Item}
use Rattle.rule_problem.specs.declared.certificate.Item.TheVariants.{Split, Void, Want, Bar, Goal, Todo}
use Rattle.rule_problem.specs.declared.certificate.Certificate.{Certificate}
use Rattle.certificate_text.specs.declared.error.CertError.{CertError}
use Rattle.certificate_text.specs.Spelled.{number_of, bytes_of, word_of}
use Rattle.key_table.specs.Integers.{is_signed}
use Rattle.certificate_text.specs.Named.{NamedTest, variant, text, number, op_label, test_text, after, number_test_of, test_of}
use Rattle.certificate_text.specs.Items.{item_text, item_of}
use Rattle.certificate_text.specs.Texts.{end_line, count_line, atom_line, certificate_lines}
use Rattle.certificate_text.specs.Reading.{opening, naming, proving, on_line, item_step, item_in, count_of, atom_in, reading}
use Rattle.certificate_text.specs.CodeValues.{IsItem}
use Rattle.certificate_text.specs.Limits.{is_step}
use Rattle.certificate_text.proofs.Spellings.{number_again, signed_again, bytes_again}
use Rattle.certificate_text.proofs.Options.{after_again}

-- ---- tests

-- what has a text: a word, bytes, a signed 64-bit number
abbrev pub IsNamedTest : NamedTest → Type 0
IsNamedTest (variant name) = is_word name ≡ true
IsNamedTest (text bytes) = AllByRecursion (λ b. b < 256) bytes
IsNamedTest (number op n) = is_signed n ≡ true

number_again_at : (op : Op) (n : ℤ) → is_signed n ≡ true → number_test_of (op_label op ++ signed_decimal n) ≡ Some (number op n)
unfolding number_test_of
number_again_at Equal n h = ap (option_map (number Equal)) (signed_again n h)
number_again_at NotEqual n h = ap (option_map (number NotEqual)) (signed_again n h)
number_again_at Less n h = ap (option_map (number Less)) (signed_again n h)
number_again_at LessEqual n h = ap (option_map (number LessEqual)) (signed_again n h)
number_again_at Greater n h = ap (option_map (number Greater)) (signed_again n h)
number_again_at GreaterEqual n h = ap (option_map (number GreaterEqual)) (signed_again n h)

chosen_after : {A : Type 0} (label rest : List ℕ) (read : List ℕ → Option A) (other : Option A) → option_map_or read (after label (label ++ rest)) other ≡ read rest
chosen_after label rest read other = ap (λ o. option_map_or read o other) (after_again label rest)

abbrev texts : List ℕ → Option NamedTest
texts field = option_map_or (λ digits. option_map text (bytes_of digits)) (after (codes "t:") field) (number_test_of field)

pub word_again : (name : List ℕ) → is_word name ≡ true → word_of name ≡ Some name
word_again name h = rw h refl

pub test_again : (t : NamedTest) → IsNamedTest t → test_of (test_text t) ≡ Some t
unfolding test_of
test_again (variant name) h = chosen_after (codes "v:") name (λ name. option_map variant (word_of name)) (texts (codes "v:" ++ name)) ∙ ap (option_map variant) (word_again name h)
test_again (text bytes) h = chosen_after (codes "t:") (encode_lower bytes) (λ digits. option_map text (bytes_of digits)) (number_test_of (codes "t:" ++ encode_lower bytes)) ∙ ap (option_map text) (bytes_again bytes h)
test_again (number Equal n) h = number_again_at Equal n h
test_again (number NotEqual n) h = number_again_at NotEqual n h
test_again (number Less n) h = number_again_at Less n h
test_again (number LessEqual n) h = number_again_at LessEqual n h
test_again (number Greater n) h = number_again_at Greater n h
test_again (number GreaterEqual n) h = number_again_at GreaterEqual n h

-- ---- items

-- what has a text in a certificate
abbrev IsStep : Item → Type 0
IsStep Todo = ⊥
IsStep item = IsItem item

pub steps_from : (items : List Item) → AllByRecursion IsItem items → list_all is_step items ≡ true → AllByRecursion IsStep items
steps_from [] is steps = tt
steps_from (Split n ∷ items) is steps = (is.0, steps_from items is.1 steps)
steps_from (Void n ∷ items) is steps = (is.0, steps_from items is.1 steps)
steps_from (Want n ∷ items) is steps = (is.0, steps_from items is.1 steps)
steps_from (Bar n ∷ items) is steps = (is.0, steps_from items is.1 steps)
steps_from (Goal ∷ items) is steps = (is.0, steps_from items is.1 steps)
steps_from (Todo ∷ items) is steps = absurd (true≢false (sym steps))

abbrev bars : List ℕ → Option Item
bars line = option_map_or (λ n. option_map Bar (number_of n)) (after (codes "bar ") line) None

abbrev wants : List ℕ → Option Item
wants line = option_map_or (λ n. option_map Want (number_of n)) (after (codes "want ") line) (bars line)

abbrev voids : List ℕ → Option Item
voids line = option_map_or (λ n. option_map Void (number_of n)) (after (codes "void ") line) (wants line)

pub item_again : (item : Item) → IsStep item → item_of (item_text item) ≡ Some item
unfolding item_of
item_again (Split n) h = chosen_after (codes "split ") (decimal n) (λ n. option_map Split (number_of n)) (voids (codes "split " ++ decimal n)) ∙ ap (option_map Split) (number_again n h)
item_again (Void n) h = chosen_after (codes "void ") (decimal n) (λ n. option_map Void (number_of n)) (wants (codes "void " ++ decimal n)) ∙ ap (option_map Void) (number_again n h)
item_again (Want n) h = chosen_after (codes "want ") (decimal n) (λ n. option_map Want (number_of n)) (bars (codes "want " ++ decimal n)) ∙ ap (option_map Want) (number_again n h)
item_again (Bar n) h = chosen_after (codes "bar ") (decimal n) (λ n. option_map Bar (number_of n)) None ∙ ap (option_map Bar) (number_again n h)
item_again Goal h = refl
item_again Todo h = absurd h

pub count_again : (n : ℕ) → n ≤ 65536 → count_of (count_line n) ≡ Ok n
unfolding count_of
count_again n few =
    let t : leb n 65536 ≡ true = le-leb n 65536 few in
    ap (λ o. or_fault 1 (option_and_then number_of o) >>= λ n. provided 5 (leb n 65536) >>= λ _. Ok n) (after_again (codes "atoms ") (decimal n))
    ∙ ap (λ o. or_fault 1 o >>= λ n. provided 5 (leb n 65536) >>= λ _. Ok n) (number_again n (omega arith)) ∙ ap (λ b. provided 5 b >>= λ _. Ok n) t

-- ---- from line to line

not_end : (item : Item) → IsStep item → bytes_eq (item_text item) end_line ≡ false
not_end (Split n) h = refl
not_end (Void n) h = refl
not_end (Want n) h = refl
not_end (Bar n) h = refl
not_end Goal h = refl
not_end Todo h = absurd h

item_in_again : (count : ℕ) (item : Item) → IsStep item → count < 131073 → item_in count (item_text item) ≡ Ok item
item_in_again count item h few =
    let t : ltb count 131073 ≡ true = lt-ltb count 131073 few in
    ap (λ o. or_fault 1 o >>= λ i. provided 5 (ltb count 131073) >>= λ _. Ok i) (item_again item h) ∙ ap (λ b. provided 5 b >>= λ _. Ok item) t

abbrev whole : Certificate → Result Certificate CertError
whole c = Ok c

reading_items : (table : Table) (atoms : List Atom) (before items : List Item) (n : ℕ) → AllByRecursion IsStep items → length before + length items ≤ 131073
    → reading table (proving atoms before) n (map item_text items ++ end_line ∷ []) [] ≡ Ok (record { atoms = atoms; items = before ++ items })
reading_items table atoms before [] n all few = ap (λ (xs : List Item). whole (record { atoms = atoms; items = xs })) (sym (append-nil before))
reading_items table atoms before (item ∷ items) n all few =
    let one : item_step atoms before (item_text item) ≡ Ok (proving atoms (before ++ item ∷ [])) = rw (not_end item all.0, item_in_again (length before) item all.0 (omega arith)) refl in
    ap (λ r. on_line n r >>= λ next. reading table next (n + 1) (map item_text items ++ end_line ∷ []) []) one
    ∙ reading_items table atoms (before ++ item ∷ []) items (n + 1) all.1 (omega (arith, length_push before item))
    ∙ ap (λ (xs : List Item). whole (record { atoms = atoms; items = xs })) (append_assoc before (item ∷ []) items)

naming_zero : (table : Table) (atoms : List Atom) (n : ℕ) (ended : List (List ℕ)) → reading table (naming 0 atoms) n ended [] ≡ reading table (proving atoms []) n ended []
naming_zero table atoms n [] = refl
naming_zero table atoms n (line ∷ ended) = refl

reading_atoms : (table : Table) (before atoms : List Atom) (last : List (List ℕ)) (c : Certificate) → AllByRecursion (λ a. atom_in table (atom_line table a) ≡ Ok a) atoms
    → ((n : ℕ) → reading table (naming 0 (before ++ atoms)) n last [] ≡ Ok c) → (n : ℕ) → reading table (naming (length atoms) before) n (map (atom_line table) atoms ++ last) [] ≡ Ok c
reading_atoms table before [] last c all end n = ap (λ (xs : List Atom). reading table (naming 0 xs) n last []) (sym (append-nil before)) ∙ end n
reading_atoms table before (atom ∷ atoms) last c all end n =
    ap (λ r. on_line n (r >>= λ a. Ok (naming (length atoms) (before ++ a ∷ []))) >>= λ next. reading table next (n + 1) (map (atom_line table) atoms ++ last) []) all.0
    ∙ reading_atoms table (before ++ atom ∷ []) atoms last c all.1 (λ k. ap (λ (xs : List Atom). reading table (naming 0 xs) k last []) (append_assoc before (atom ∷ []) atoms) ∙ end k) (n + 1)

-- The lines of a certificate read as the certificate, where each atom line reads as its atom.
pub lines_read : (table : Table) (c : Certificate) → AllByRecursion (λ a. atom_in table (atom_line table a) ≡ Ok a) c.atoms → AllByRecursion IsStep c.items → length c.atoms ≤ 65536 → length c.items ≤ 131073
    → reading table opening 1 (certificate_lines table c) [] ≡ Ok c
lines_read table c atoms items few_atoms few_items =
    let last = map item_text c.items ++ end_line ∷ [] in
    ap (λ r. on_line 2 (r >>= λ n. Ok (naming n [])) >>= λ next. reading table next 3 (map (atom_line table) c.atoms ++ last) []) (count_again (length c.atoms) few_atoms)
    ∙ reading_atoms table [] c.atoms last c atoms (λ n. naming_zero table c.atoms n last ∙ reading_items table c.atoms [] c.items n items (omega arith)) 3
