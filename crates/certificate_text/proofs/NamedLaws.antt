-- A line is the text of one named atom or of one item.
use Rattle.std.proofs.Common.{◌≡◌, ℕ, ◌≤◌, inl, inr, List, [], ◌∷◌, ◌++◌, map, take, drop, Bool, true, false, eqb, leb, ltb, Option, Some, None, Ok, refl, ap, sym, subst, ◌∙◌}
use Rattle.std.specs.Prelude.{option_map, option_and_then, codes}
use Rattle.std.specs.Option.{option_map_or}
use Rattle.std.specs.List.{join_with_byte, slice_split}
use Rattle.std.specs.Fmt.{decimal, signed_decimal}
use Rattle.std.proofs.lemmas.List.{take-append-drop}
use Rattle.std.proofs.lemmas.Bool.{leb-true}
use Rattle.std.proofs.lemmas.List.Splits.{join_with_byte-slice_split}
use Rattle.key_table.specs.declared.atom.Op.{Op}
use Rattle.key_table.specs.declared.atom.Op.TheVariants.{Equal, NotEqual, Less, LessEqual, Greater, GreaterEqual}
use Rattle.key_table.specs.Names.{is_word}
use Rattle.key_table.specs.Answers.{◌>>=◌, or_fault, provided}
use Rattle.rule_problem.specs.declared.certificate.Item.{Item}
use Rattle.rule_problem.specs.declared.certificate.Item.TheVariants.{Split, Void, Want, Bar, Goal}
use Rattle.certificate_text.specs.Spelled.{number_of, signed_of, bytes_of, word_of}
use Rattle.certificate_text.specs.Named.{NamedTest, variant, text, number, NamedAtom, op_label, test_text, sub_text, quantifier_text, atom_text, after, op_of, number_test_of, test_of, sub_of, quantifier_of, each, Head, head_of, with_tests, of_fields, atom_of}
use Rattle.certificate_text.specs.Items.{item_text, item_of}
use Rattle.certificate_text.specs.Reading.{count_of, item_in}
use Rattle.certificate_text.specs.Texts.{count_line}
use Rattle.certificate_text.proofs.Spellings.{cond_some, number_only, signed_only, bytes_only}
use Rattle.certificate_text.proofs.Options.{map_some, then_some, then_ok, ok_is, or_fault_ok, provided_ok, chosen, labelled, after_only, each_only}

pub word_only : (field word : List ℕ) → word_of field ≡ Some word → word ≡ field
word_only field word e = sym (cond_some (is_word field) field word e).1

op_only : (label : List ℕ) (op : Op) → op_of label ≡ Some op → op_label op ≡ label
op_only label op e =
    let at : (o : Op) → label ≡ op_label o → o ≡ op → op_label op ≡ label = λ o is same. ap op_label (sym same) ∙ sym is in
    elim (chosen label (op_label Equal) Equal op _ e) [
      | inl w ↦ at Equal w.0 w.1
      | inr e ↦
          elim (chosen label (op_label NotEqual) NotEqual op _ e) [
            | inl w ↦ at NotEqual w.0 w.1
            | inr e ↦
                elim (chosen label (op_label Less) Less op _ e) [
                  | inl w ↦ at Less w.0 w.1
                  | inr e ↦
                      elim (chosen label (op_label LessEqual) LessEqual op _ e) [
                        | inl w ↦ at LessEqual w.0 w.1
                        | inr e ↦
                            elim (chosen label (op_label Greater) Greater op _ e) [
                              | inl w ↦ at Greater w.0 w.1
                              | inr e ↦
                                  elim (chosen label (op_label GreaterEqual) GreaterEqual op None e) [ inl w ↦ at GreaterEqual w.0 w.1 | inr e ↦ absurd cc ]
                            ]
                      ]
                ]
          ]
    ]

number_test_only : (field : List ℕ) (t : NamedTest) → number_test_of field ≡ Some t → test_text t ≡ field
unfolding number_test_of
number_test_only field t e =
    let a = then_some (λ op. option_map (number op) (signed_of (drop 3 field))) (op_of (take 3 field)) t e in
    let b = map_some (number a.0) (signed_of (drop 3 field)) t a.2 in
    let label = op_only (take 3 field) a.0 a.1 in
    let digits = (signed_only (drop 3 field) b.0 b.1).0 in
    ap test_text (sym b.2) ∙ ap (λ x. x ++ signed_decimal b.0) label ∙ ap (λ x. take 3 field ++ x) digits ∙ take-append-drop 3 field

pub test_only : (field : List ℕ) (t : NamedTest) → test_of field ≡ Some t → test_text t ≡ field
unfolding test_of
test_only field t e =
    let texts : Option NamedTest = option_map_or (λ digits. option_map text (bytes_of digits)) (after (codes "t:") field) (number_test_of field) in
    elim (labelled (codes "v:") field (λ name. option_map variant (word_of name)) texts t e) [
      | inl w ↦ (let m = map_some variant (word_of w.0) t w.2 in ap test_text (sym m.2) ∙ ap (λ x. codes "v:" ++ x) (word_only w.0 m.0 m.1) ∙ w.1)
      | inr e ↦ elim (labelled (codes "t:") field (λ digits. option_map text (bytes_of digits)) (number_test_of field) t e) [
        | inl w ↦ (let m = map_some text (bytes_of w.0) t w.2 in ap test_text (sym m.2) ∙ ap (λ x. codes "t:" ++ x) (bytes_only w.0 m.0 m.1) ∙ w.1)
        | inr e ↦ number_test_only field t e
      ]
    ]

sub_only : (field : List ℕ) (sub : Option (List ℕ)) → sub_of field ≡ Some sub → sub_text sub ≡ field
unfolding sub_of
sub_only field sub e =
    elim (chosen field (codes "-") None sub _ e) [
      | inl w ↦ ap sub_text (sym w.1) ∙ sym w.0
      | inr e ↦
          let a = then_some (λ digits. option_map (λ (name : List ℕ). Some name) (bytes_of digits)) (after (codes "x") field) sub e in
          let b = map_some (λ (name : List ℕ). Some name) (bytes_of a.0) sub a.2 in
          ap sub_text (sym b.2) ∙ ap (λ x. codes "x" ++ x) (bytes_only a.0 b.0 b.1) ∙ after_only (codes "x") field a.0 a.1
    ]

quantifier_only : (field : List ℕ) (none_of : Bool) → quantifier_of field ≡ Some none_of → quantifier_text none_of ≡ field
unfolding quantifier_of
quantifier_only field none_of e =
    elim (chosen field (codes "any") false none_of _ e) [
      | inl w ↦ ap quantifier_text (sym w.1) ∙ sym w.0
      | inr e ↦ elim (chosen field (codes "none") true none_of None e) [ inl w ↦ ap quantifier_text (sym w.1) ∙ sym w.0 | inr e ↦ absurd cc ]
    ]

head_only : (key sub quantifier : List ℕ) (head : Head) → head_of key sub quantifier ≡ Some head → (head.0 ≡ key) × (sub_text head.1 ≡ sub) × (quantifier_text head.2 ≡ quantifier)
unfolding head_of
head_only key sub quantifier head e =
    let a = then_some (λ k. option_and_then (λ s. option_map (λ q. (k, s, q)) (quantifier_of quantifier)) (sub_of sub)) (word_of key) head e in
    let b = then_some (λ s. option_map (λ q. (a.0, s, q)) (quantifier_of quantifier)) (sub_of sub) head a.2 in
    let d = map_some (λ q. (a.0, b.0, q)) (quantifier_of quantifier) head b.2 in
    (ap (λ (h : Head). h.0) (sym d.2) ∙ word_only key a.0 a.1, ap (λ (h : Head). sub_text h.1) (sym d.2) ∙ sub_only sub b.0 b.1, ap (λ (h : Head). quantifier_text h.2) (sym d.2) ∙ quantifier_only quantifier d.0 d.1)

fields_only : (fields : List (List ℕ)) (atom : NamedAtom) → of_fields fields ≡ Some atom → atom.key ∷ sub_text atom.sub ∷ quantifier_text atom.none_of ∷ map test_text atom.tests ≡ fields
fields_only (key ∷ sub ∷ quantifier ∷ tests) atom e =
    let a = then_some (λ head. option_map (with_tests head) (each test_of tests)) (head_of key sub quantifier) atom e in
    let b = map_some (with_tests a.0) (each test_of tests) atom a.2 in
    let h = head_only key sub quantifier a.0 a.1 in
    let t = each_only test_of test_text test_only tests b.0 b.1 in
    let P : NamedAtom → Type 0 = λ x. x.key ∷ sub_text x.sub ∷ quantifier_text x.none_of ∷ map test_text x.tests ≡ key ∷ sub ∷ quantifier ∷ tests in
    subst P b.2 (ap (λ x. x ∷ sub_text a.0.1 ∷ quantifier_text a.0.2 ∷ map test_text b.0) h.0 ∙ ap (λ x. key ∷ x ∷ quantifier_text a.0.2 ∷ map test_text b.0) h.1 ∙ ap (λ x. key ∷ sub ∷ x ∷ map test_text b.0) h.2 ∙ ap (λ x. key ∷ sub ∷ quantifier ∷ x) t)
fields_only [] atom e = absurd cc
fields_only (a ∷ []) atom e = absurd cc
fields_only (a ∷ b ∷ []) atom e = absurd cc

pub atom_only : (line : List ℕ) (atom : NamedAtom) → atom_of line ≡ Some atom → atom_text atom ≡ line
unfolding atom_of
atom_only line atom e = ap (join_with_byte 32) (fields_only (slice_split (λ b. eqb b 32) line) atom e) ∙ join_with_byte-slice_split 32 line

-- ---- items and the number of atoms

pub item_only : (line : List ℕ) (item : Item) → item_of line ≡ Some item → item_text item ≡ line
unfolding item_of
item_only line item e =
    let at : (label : List ℕ) (make : ℕ → Item) → ((n : ℕ) → item_text (make n) ≡ label ++ decimal n) → (rest : List ℕ) → label ++ rest ≡ line → option_map make (number_of rest) ≡ Some item → item_text item ≡ line =
    λ label make texts rest is e. let m = map_some make (number_of rest) item e in ap item_text (sym m.2) ∙ texts m.0 ∙ ap (λ x. label ++ x) (number_only rest m.0 m.1).0 ∙ is in
    elim (chosen line (codes "goal") Goal item _ e) [
      | inl w ↦ ap item_text (sym w.1) ∙ sym w.0
      | inr e ↦
          elim (labelled (codes "split ") line (λ n. option_map Split (number_of n)) _ item e) [
            | inl w ↦ at (codes "split ") Split (λ n. refl) w.0 w.1 w.2
            | inr e ↦
                elim (labelled (codes "void ") line (λ n. option_map Void (number_of n)) _ item e) [
                  | inl w ↦ at (codes "void ") Void (λ n. refl) w.0 w.1 w.2
                  | inr e ↦
                      elim (labelled (codes "want ") line (λ n. option_map Want (number_of n)) _ item e) [
                        | inl w ↦ at (codes "want ") Want (λ n. refl) w.0 w.1 w.2
                        | inr e ↦
                            elim (labelled (codes "bar ") line (λ n. option_map Bar (number_of n)) None item e) [ inl w ↦ at (codes "bar ") Bar (λ n. refl) w.0 w.1 w.2 | inr e ↦ absurd cc ]
                      ]
                ]
          ]
    ]

pub item_in_only : (count : ℕ) (line : List ℕ) (item : Item) → item_in count line ≡ Ok item → item_text item ≡ line
item_in_only count line item e =
    let a = then_ok (or_fault 1 (item_of line)) (λ i. provided 5 (ltb count 131073) >>= λ _. Ok i) item e in
    let b = provided_ok 5 (ltb count 131073) (Ok a.0) item a.2 in
    ap item_text (sym (ok_is a.0 item b.1)) ∙ item_only line a.0 (or_fault_ok 1 (item_of line) a.0 a.1)

pub count_only : (line : List ℕ) (n : ℕ) → count_of line ≡ Ok n → (count_line n ≡ line) × (n ≤ 65536)
unfolding count_of
count_only line n e =
    let a = then_ok (or_fault 1 (option_and_then number_of (after (codes "atoms ") line))) (λ n. provided 5 (leb n 65536) >>= λ _. Ok n) n e in
    let b = provided_ok 5 (leb a.0 65536) (Ok a.0) n a.2 in
    let same = ok_is a.0 n b.1 in
    let s = then_some number_of (after (codes "atoms ") line) a.0 (or_fault_ok 1 (option_and_then number_of (after (codes "atoms ") line)) a.0 a.1) in
    (ap count_line (sym same) ∙ ap (λ x. codes "atoms " ++ x) (number_only s.0 a.0 s.2).0 ∙ after_only (codes "atoms ") line s.0 s.1, subst (λ k. k ≤ 65536) same (leb-true a.0 65536 b.0))
