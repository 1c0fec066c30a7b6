-- The names of a numbered atom are those that it was found by.
use Rattle.std.proofs.Common.{◌≡◌, ℕ, zero, suc, ◌+◌, ◌<◌, List, [], ◌∷◌, length, map, get_or, true, false, not, cond, ltb, bytes_eq, Option, Some, None, Ok, refl, ap, sym, subst, ◌∙◌, arith, slice_get, position}
use Rattle.std.specs.Prelude.{option_and_then}
use Rattle.std.specs.Option.{unwrap_or}
use Rattle.std.specs.List.{position_or_len}
use Rattle.std.specs.Str.{is_utf8}
use Rattle.std.proofs.lemmas.Bool.{ltb-true}
use Rattle.std.proofs.lemmas.Slice.Eq.{bytes_eq-Decides}
use Rattle.key_table.specs.declared.atom.Test.{Test}
use Rattle.key_table.specs.declared.atom.Test.TheVariants.{Variant, Text, Number}
use Rattle.key_table.specs.declared.atom.Atom.{Atom}
use Rattle.key_table.specs.Tables.{Key, Table, find_key, name_at, variants_at, find_variant}
use Rattle.key_table.specs.Atoms.{atom_fits}
use Rattle.key_table.specs.Answers.{◌>>=◌, or_fault, provided}
use Rattle.certificate_text.specs.Named.{NamedTest, variant, text, number, NamedAtom, each, atom_of, is_within, atom_text}
use Rattle.certificate_text.specs.Numbered.{named_test, named, utf8, test_numbered, sub_numbered, fitting, atom_with, numbered}
use Rattle.certificate_text.specs.Texts.{atom_line}
use Rattle.certificate_text.specs.Reading.{atom_in}
use Rattle.certificate_text.proofs.Spellings.{cond_some}
use Rattle.certificate_text.proofs.Options.{map_some, then_some, then_ok, or_fault_ok, provided_ok, some_is, each_only}
use Rattle.certificate_text.proofs.NamedLaws.{atom_only}

-- the first of the names that is this one
first_named : {X : Type 0} (f : X → List ℕ) (name : List ℕ) (xs : List X) → position_or_len (λ x. bytes_eq name (f x)) xs < length xs → (x : X) × (slice_get xs (position_or_len (λ x. bytes_eq name (f x)) xs) ≡ Some x) × (f x ≡ name)
first_named f name [] lt = absurd (omega arith)
first_named f name (y ∷ ys) lt =
    let goal : ℕ → Type 0 = λ n. (x : _) × (slice_get (y ∷ ys) n ≡ Some x) × (f x ≡ name) in
    elim (bytes_eq name (f y)) as (λ b. bytes_eq name (f y) ≡ b → cond (not b) (1 + position_or_len (λ x. bytes_eq name (f x)) ys) 0 < length (y ∷ ys) → goal (cond (not b) (1 + position_or_len (λ x. bytes_eq name (f x)) ys) 0)) [
      | true ↦ (λ h l. (y, refl, sym ((bytes_eq-Decides name (f y)).0 h)))
      | false ↦ (λ h l.
          let ih = first_named f name ys (omega arith) in
          let next : 1 + position_or_len (λ x. bytes_eq name (f x)) ys ≡ suc (position_or_len (λ x. bytes_eq name (f x)) ys) = omega arith in
          subst goal (sym next) (ih.0, ih.1, ih.2))
    ] refl lt

found_named : {X : Type 0} (f : X → List ℕ) (name : List ℕ) (xs : List X) (n : ℕ) → position (λ x. bytes_eq name (f x)) xs ≡ Some n → (x : X) × (slice_get xs n ≡ Some x) × (f x ≡ name)
found_named f name xs n e =
    let p = position_or_len (λ x. bytes_eq name (f x)) xs in
    let g = cond_some (ltb p (length xs)) p n e in
    subst (λ k. (x : _) × (slice_get xs k ≡ Some x) × (f x ≡ name)) g.1 (first_named f name xs (ltb-true p (length xs) g.0))

key_named : (table : Table) (key : ℕ) (name : List ℕ) → find_key name table ≡ Some key → unwrap_or (name_at key table) [] ≡ name
key_named table key name e =
    let f = found_named (λ (k : Key). k.name) name table key e in
    rw f.1 f.2

index_of_get : (names : List (List ℕ)) (n : ℕ) (name : List ℕ) → slice_get names n ≡ Some name → get_or names n [] ≡ name
index_of_get [] n name e = absurd cc
index_of_get (x ∷ names) zero name e = cc
index_of_get (x ∷ names) (suc n) name e = index_of_get names n name e

utf8_is : (bytes same : List ℕ) → utf8 bytes ≡ Some same → same ≡ bytes
utf8_is bytes same e = sym (cond_some (is_utf8 bytes) bytes same e).1

test_named : (table : Table) (key : ℕ) (t : NamedTest) (test : Test) → test_numbered table key t ≡ Some test → named_test (variants_at key table) test ≡ t
test_named table key (variant name) test e =
    let m = map_some Variant (find_variant key name table) test e in
    let f = found_named (λ n. n) name (variants_at key table) m.0 m.1 in
    ap (named_test (variants_at key table)) (sym m.2) ∙ ap (λ x. variant x) (index_of_get (variants_at key table) m.0 f.0 f.1 ∙ f.2)
test_named table key (text bytes) test e =
    let m = map_some Text (utf8 bytes) test e in
    ap (named_test (variants_at key table)) (sym m.2) ∙ ap (λ x. text x) (utf8_is bytes m.0 m.1)
test_named table key (number op n) test e = ap (named_test (variants_at key table)) (sym (some_is (Number op n) test e))

sub_named : (sub same : Option (List ℕ)) → sub_numbered sub ≡ Some same → same ≡ sub
sub_named None same e = sym (some_is None same e)
sub_named (Some name) same e =
    let m = map_some (λ (n : List ℕ). Some n) (utf8 name) same e in
    sym m.2 ∙ ap (λ x. Some x) (utf8_is name m.0 m.1)

named_parts : (table : Table) (key : ℕ) (sub : Option (List ℕ)) (tests : List Test) (a : NamedAtom) → unwrap_or (name_at key table) [] ≡ a.key → sub ≡ a.sub → map (named_test (variants_at key table)) tests ≡ a.tests → named table (atom_with key sub a.none_of tests) ≡ a
named_parts table key sub tests a k s t =
    ap (λ (x : List ℕ). (let r : NamedAtom = record { key = x; sub = sub; none_of = a.none_of; tests = map (named_test (variants_at key table)) tests } in r)) k
    ∙ ap (λ (x : Option (List ℕ)). (let r : NamedAtom = record { key = a.key; sub = x; none_of = a.none_of; tests = map (named_test (variants_at key table)) tests } in r)) s
    ∙ ap (λ (x : List NamedTest). (let r : NamedAtom = record { key = a.key; sub = a.sub; none_of = a.none_of; tests = x } in r)) t

-- what the numbers of an atom are
pub record HasNumbers (table : Table) (a : NamedAtom) (atom : Atom) : Type 0 where
  pub key : ℕ
  pub sub : Option (List ℕ)
  pub tests : List Test
  pub key_is : find_key a.key table ≡ Some key
  pub sub_is : sub_numbered a.sub ≡ Some sub
  pub tests_are : each (test_numbered table key) a.tests ≡ Some tests
  pub fits : atom_fits table (atom_with key sub a.none_of tests) ≡ true
  pub whole : atom_with key sub a.none_of tests ≡ atom

pub has_numbers : (table : Table) (a : NamedAtom) (atom : Atom) → numbered table a ≡ Some atom → HasNumbers table a atom
unfolding numbered
has_numbers table a atom e =
    let k = then_some (λ key. option_and_then (λ sub. option_and_then (λ tests. fitting table (atom_with key sub a.none_of tests)) (each (test_numbered table key) a.tests)) (sub_numbered a.sub)) (find_key a.key table) atom e in
    let s = then_some (λ sub. option_and_then (λ tests. fitting table (atom_with k.0 sub a.none_of tests)) (each (test_numbered table k.0) a.tests)) (sub_numbered a.sub) atom k.2 in
    let t = then_some (λ tests. fitting table (atom_with k.0 s.0 a.none_of tests)) (each (test_numbered table k.0) a.tests) atom s.2 in
    let f = cond_some (atom_fits table (atom_with k.0 s.0 a.none_of t.0)) (atom_with k.0 s.0 a.none_of t.0) atom t.2 in
    record { key = k.0; sub = s.0; tests = t.0; key_is = k.1; sub_is = s.1; tests_are = t.1; fits = f.0; whole = f.1 }

pub numbered_only : (table : Table) (a : NamedAtom) (atom : Atom) → numbered table a ≡ Some atom → named table atom ≡ a
numbered_only table a atom e =
    let p = has_numbers table a atom e in
    subst (λ x. named table x ≡ a) p.whole (named_parts table p.key p.sub p.tests a (key_named table p.key a.key p.key_is) (sub_named a.sub p.sub p.sub_is) (each_only (test_numbered table p.key) (named_test (variants_at p.key table)) (test_named table p.key) a.tests p.tests p.tests_are))

pub atom_in_only : (table : Table) (line : List ℕ) (atom : Atom) → atom_in table line ≡ Ok atom → atom_line table atom ≡ line
unfolding atom_in atom_line
atom_in_only table line atom e =
    let a = then_ok (or_fault 1 (atom_of line)) (λ atom. provided 5 (is_within atom) >>= λ _. or_fault 2 (numbered table atom)) atom e in
    let b = provided_ok 5 (is_within a.0) (or_fault 2 (numbered table a.0)) atom a.2 in
    ap atom_text (numbered_only table a.0 atom (or_fault_ok 2 (numbered table a.0) atom b.1)) ∙ atom_only line a.0 (or_fault_ok 1 (atom_of line) a.0 a.1)
