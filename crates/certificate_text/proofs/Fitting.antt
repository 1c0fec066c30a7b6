-- What an atom that fits a table has.
use Rattle.std.proofs.Common.{◌≡◌, ℕ, ◌<◌, List, [], ◌∷◌, length, map, true, false, ◌&&◌, leb, Option, Some, None, Ok, refl, ap, sym, subst, ◌∙◌, slice_get}
use Rattle.std.specs.Prelude.{nat_le, option_map}
use Rattle.std.specs.Option.{option_map_or}
use Rattle.std.specs.List.{list_all}
use Rattle.std.proofs.lemmas.Bool.{and_parts, and_from, ltb-true, lt-ltb, true≢false}
use Rattle.std.proofs.lemmas.List.{length-map}
use Rattle.key_table.specs.declared.atom.Test.{Test}
use Rattle.key_table.specs.declared.atom.Test.TheVariants as test
use Rattle.key_table.specs.declared.atom.Atom.{Atom}
use Rattle.key_table.specs.Tables.{Domain, variants, bounds, text, metadata, Key, Table, names_of, variants_at, has_sub}
use Rattle.key_table.specs.Atoms.{atom_fits, test_fits}
use Rattle.certificate_text.specs.Named as form
use Rattle.certificate_text.specs.Named.{NamedAtom, is_short, test_within, each}
use Rattle.certificate_text.specs.Numbered.{named_test, is_named, named, numbered}
use Rattle.certificate_text.specs.Reading.{atom_in}
use Rattle.key_table.specs.Answers.{◌>>=◌, or_fault, provided}
use Rattle.certificate_text.proofs.NumberedLaws.{has_numbers}
use Rattle.certificate_text.proofs.Options.{then_ok, provided_ok, or_fault_ok}

pub record Fits (table : Table) (atom : Atom) : Type 0 where
  pub key : Key
  pub there : slice_get table atom.slot.key ≡ Some key
  pub sub : has_sub key.domain atom.slot.sub ≡ true
  pub few : nat_le (length atom.tests) 4096 ≡ true
  pub tests : list_all (test_fits key.domain) atom.tests ≡ true

fits_at : (table : Table) (atom : Atom) (o : Option Key) → slice_get table atom.slot.key ≡ o
    → option_map_or (λ domain. has_sub domain atom.slot.sub && (nat_le (length atom.tests) 4096 && list_all (test_fits domain) atom.tests)) (option_map (λ k. k.domain) o) false ≡ true → Fits table atom
fits_at table atom None e h = absurd (true≢false (sym h))
fits_at table atom (Some k) e h =
    let p = and_parts (has_sub k.domain atom.slot.sub) (nat_le (length atom.tests) 4096 && list_all (test_fits k.domain) atom.tests) h in
    let q = and_parts (nat_le (length atom.tests) 4096) (list_all (test_fits k.domain) atom.tests) p.1 in
    record { key = k; there = e; sub = p.0; few = q.0; tests = q.1 }

pub fits : (table : Table) (atom : Atom) → atom_fits table atom ≡ true → Fits table atom
fits table atom h = fits_at table atom (slice_get table atom.slot.key) refl h

pub variant_within : (d : Domain) (n : ℕ) → test_fits d (test.Variant n) ≡ true → n < length (names_of d)
variant_within (variants names) n h = ltb-true n (length names) h
variant_within (bounds least greatest) n h = absurd (true≢false (sym h))
variant_within text n h = absurd (true≢false (sym h))
variant_within metadata n h = absurd (true≢false (sym h))

-- each variant that a fitting atom's tests name is there
all_named : (d : Domain) (names : List (List ℕ)) (ts : List Test) → names ≡ names_of d → list_all (test_fits d) ts ≡ true → list_all (is_named names) ts ≡ true
all_named d names [] is fit = refl
all_named d names (test.Variant n ∷ ts) is fit =
    let p = and_parts (test_fits d (test.Variant n)) (list_all (test_fits d) ts) fit in
    let within : n < length names = subst (λ ns. n < length ns) (sym is) (variant_within d n p.0) in
    and_from _ _ (lt-ltb n (length names) within) (all_named d names ts is p.1)
all_named d names (test.Text t ∷ ts) is fit = all_named d names ts is (and_parts (test_fits d (test.Text t)) (list_all (test_fits d) ts) fit).1
all_named d names (test.Number op n ∷ ts) is fit = all_named d names ts is (and_parts (test_fits d (test.Number op n)) (list_all (test_fits d) ts) fit).1

pub tests_named : (table : Table) (atom : Atom) → atom_fits table atom ≡ true → list_all (is_named (variants_at atom.slot.key table)) atom.tests ≡ true
tests_named table atom fit = let f = fits table atom fit in all_named f.key.domain (variants_at atom.slot.key table) atom.tests (rw f.there refl) f.tests

text_short : (d : Domain) (t : List ℕ) → test_fits d (test.Text t) ≡ true → is_short t ≡ true
text_short (variants names) t h = absurd (true≢false (sym h))
text_short (bounds least greatest) t h = absurd (true≢false (sym h))
text_short text t h = h
text_short metadata t h = h

sub_short : (d : Domain) (sub : Option (List ℕ)) → has_sub d sub ≡ true → form.sub_within sub ≡ true
sub_short d None h = refl
sub_short (variants names) (Some name) h = absurd (true≢false (sym h))
sub_short (bounds least greatest) (Some name) h = absurd (true≢false (sym h))
sub_short text (Some name) h = absurd (true≢false (sym h))
sub_short metadata (Some name) h = h

-- its names are within the limits
tests_within : (d : Domain) (names : List (List ℕ)) (ts : List Test) → list_all (test_fits d) ts ≡ true → list_all test_within (map (named_test names) ts) ≡ true
tests_within d names [] fit = refl
tests_within d names (test.Variant n ∷ ts) fit = tests_within d names ts (and_parts (test_fits d (test.Variant n)) (list_all (test_fits d) ts) fit).1
tests_within d names (test.Text t ∷ ts) fit = let p = and_parts (test_fits d (test.Text t)) (list_all (test_fits d) ts) fit in and_from _ _ (text_short d t p.0) (tests_within d names ts p.1)
tests_within d names (test.Number op n ∷ ts) fit = tests_within d names ts (and_parts (test_fits d (test.Number op n)) (list_all (test_fits d) ts) fit).1

pub named_within : (table : Table) (atom : Atom) → atom_fits table atom ≡ true → form.is_within (named table atom) ≡ true
named_within table atom fit =
    let f = fits table atom fit in
    let names = variants_at atom.slot.key table in
    and_from _ _ (ap (λ n. leb n 4096) (length-map atom.tests (named_test names)) ∙ f.few) (and_from _ _ (sub_short f.key.domain atom.slot.sub f.sub) (tests_within f.key.domain names atom.tests f.tests))

-- the atom of a named one fits
pub numbered_fits : (table : Table) (a : NamedAtom) (atom : Atom) → numbered table a ≡ Some atom → atom_fits table atom ≡ true
numbered_fits table a atom e = let p = has_numbers table a atom e in subst (λ x. atom_fits table x ≡ true) p.whole p.fits

-- the atom that a line is fits
pub atom_in_fits : (table : Table) (line : List ℕ) (atom : Atom) → atom_in table line ≡ Ok atom → atom_fits table atom ≡ true
unfolding atom_in
atom_in_fits table line atom e =
    let a = then_ok (or_fault 1 (form.atom_of line)) (λ atom. provided 5 (form.is_within atom) >>= λ _. or_fault 2 (numbered table atom)) atom e in
    let b = provided_ok 5 (form.is_within a.0) (or_fault 2 (numbered table a.0)) atom a.2 in
    numbered_fits table a.0 atom (or_fault_ok 2 (numbered table a.0) atom b.1)
