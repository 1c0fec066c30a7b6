-- Slots, tests and atoms that are found equal are equal.
use Rattle.std.proofs.Common.{◌≡◌, ℕ, List, [], ◌∷◌, Bool, true, ◌&&◌, ◌==◌, Option, Some, None, refl, ap, ◌∙◌, rules}
use Rattle.std.specs.Option.{option_eq}
use Rattle.std.specs.Str.{bytes_eq}
use Rattle.std.specs.Cmp.Lexicographic.{pointwise}
use Rattle.std.specs.Bool.{beq}
use Rattle.std.proofs.lemmas.Bool.{and_parts, eqb-true}
use Rattle.std.proofs.lemmas.Slice.Eq.{bytes_eq-Decides}
use Rattle.key_table.specs.declared.slot.Slot.{Slot}
use Rattle.key_table.specs.Slots.{at}
use Rattle.key_table.specs.declared.atom.Test.{Test}
use Rattle.key_table.specs.declared.atom.Test.TheVariants.{Variant, Text, Number}
use Rattle.key_table.specs.declared.atom.Atom.{Atom}
use Rattle.key_table.proofs.ContextLemmas.{same_truth}
use Rattle.key_table.specs.contracts.slot.SlotPartialEq.TheImpl as by_slot
use Rattle.key_table.specs.contracts.atom.TestPartialEq.TheImpl as by_test
use Rattle.key_table.specs.contracts.atom.AtomPartialEq.TheImpl as by_atom

test_equal : (a b : Test) → by_test.eq-value.it a b ≡ true → a ≡ b
test_equal (Variant m) (Variant n) h = ap Variant (eqb-true m n h)
test_equal (Variant m) (Text t) h = cc
test_equal (Variant m) (Number op z) h = cc
test_equal (Text s) (Variant n) h = cc
test_equal (Text s) (Text t) h = ap Text ((bytes_eq-Decides s t).0 h)
test_equal (Text s) (Number op z) h = cc
test_equal (Number op y) (Variant n) h = cc
test_equal (Number op y) (Text t) h = cc
test_equal (Number op y) (Number o z) h = search rules

each_equal : {X : Type 0} (E : X → X → Bool) → ((x y : X) → E x y ≡ true → x ≡ y) → (xs ys : List X) → pointwise E xs ys ≡ true → xs ≡ ys
each_equal E same [] [] h = refl
each_equal E same [] (y ∷ ys) h = cc
each_equal E same (x ∷ xs) [] h = cc
each_equal E same (x ∷ xs) (y ∷ ys) h =
    let parts = and_parts (E x y) (pointwise E xs ys) h in
    ap (λ z. z ∷ xs) (same x y parts.0) ∙ ap (λ zs. y ∷ zs) (each_equal E same xs ys parts.1)

same_maybe : (x y : Option (List ℕ)) → option_eq bytes_eq x y ≡ true → x ≡ y
same_maybe None None h = refl
same_maybe None (Some t) h = cc
same_maybe (Some s) None h = cc
same_maybe (Some s) (Some t) h = ap (λ u. Some u) ((bytes_eq-Decides s t).0 h)

slot_equal : (s t : Slot) → by_slot.eq-value.it s t ≡ true → s ≡ t
slot_equal s t h =
    let parts = and_parts (s.key == t.key) (option_eq bytes_eq s.sub t.sub) h in
    ap (λ k. at k s.sub) (eqb-true s.key t.key parts.0) ∙ ap (λ u. at t.key u) (same_maybe s.sub t.sub parts.1)

same_atom : (a b : Atom) → a.slot ≡ b.slot → a.none_of ≡ b.none_of → a.tests ≡ b.tests → a ≡ b
same_atom a b slot none_of tests i = record { slot = slot i; none_of = none_of i; tests = tests i }

pub atom_equal : (a b : Atom) → by_atom.eq-value.it a b ≡ true → a ≡ b
atom_equal a b h =
    let halves = and_parts (by_slot.eq-value.it a.slot b.slot) (beq a.none_of b.none_of && pointwise by_test.eq-value.it a.tests b.tests) h in
    let ends = and_parts (beq a.none_of b.none_of) (pointwise by_test.eq-value.it a.tests b.tests) halves.1 in
    same_atom a b (slot_equal a.slot b.slot halves.0) (same_truth a.none_of b.none_of ends.0) (each_equal by_test.eq-value.it test_equal a.tests b.tests ends.1)
