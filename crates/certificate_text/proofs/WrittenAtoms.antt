-- The line of an atom that fits reads as the atom.
use Rattle.std.proofs.Common.{◌≡◌, ℕ, suc, ◌<◌, List, [], ◌∷◌, length, map, get_or, Bool, true, false, cond, Option, Some, None, Ok, refl, ap, sym, subst, ◌∙◌, arith, slice_get}
use Rattle.std.specs.Prelude.{ℤ, pos, negsuc, option_map, option_and_then, codes, nat_le}
use Rattle.std.specs.Option.{unwrap_or}
use Rattle.std.specs.List.{list_all, AllByRecursion}
use Rattle.std.specs.Fmt.{signed_decimal}
use Rattle.std.proofs.lemmas.Bool.{and_parts, and_from, ltb-true}
use Rattle.std.proofs.lemmas.Option.{slice_get-get_or}
use Rattle.std.proofs.lemmas.Str.{is_utf8-from_IsUtf8}
use Rattle.hex.specs.Hex.{encode_lower}
use Rattle.key_table.specs.declared.atom.Op.{Op}
use Rattle.key_table.specs.declared.atom.Op.TheVariants.{Equal, NotEqual, Less, LessEqual, Greater, GreaterEqual}
use Rattle.key_table.specs.declared.atom.Test.{Test}
use Rattle.key_table.specs.declared.atom.Test.TheVariants as test
use Rattle.key_table.specs.declared.atom.Atom.{Atom}
use Rattle.key_table.specs.Names.{is_word, is_name}
use Rattle.key_table.specs.Tables.{Key, Table, is_table, names_of, names_in, name_at, variants_at, find_key}
use Rattle.key_table.specs.Atoms.{atom_fits, test_fits}
use Rattle.certificate_text.specs.Spelled.{bytes_of}
use Rattle.key_table.specs.Integers.{is_signed}
use Rattle.certificate_text.specs.Named as form
use Rattle.certificate_text.specs.Named.{NamedTest, NamedAtom, op_label, test_text, is_short, test_within, test_of, each}
use Rattle.certificate_text.specs.Numbered.{named_test, named, test_numbered, sub_numbered, fitting, atom_with, numbered}
use Rattle.certificate_text.specs.CodeValues.{IsTest, IsSub, IsAtom}
use Rattle.certificate_text.proofs.Characters.{is_graphic, is_printable, joined-printable, split-joined, word-graphic, decimal-graphic, hex-graphic, joined-graphic}
use Rattle.certificate_text.proofs.Distinct.{key_found, variant_found}
use Rattle.certificate_text.proofs.Fitting.{fits, variant_within, named_within}
use Rattle.certificate_text.proofs.Names.{all_at, are_names-distinct, are_names-named, table-names, map_get, variants_named}
use Rattle.certificate_text.proofs.ReadsBack.{IsNamedTest, test_again, word_again}
use Rattle.certificate_text.proofs.Options.{after_again, each_again}
use Rattle.certificate_text.proofs.Spellings.{bytes_again}
use Rattle.certificate_text.proofs.Utf8Bytes.{text_bytes}
use Rattle.certificate_text.specs.Reading.{atom_in}
use Rattle.certificate_text.specs.Texts.{atom_line}

-- ---- one test

-- a test of a table's key that has a text, and which is found by it
pub record Writes (table : Table) (key : ℕ) (t : Test) : Type 0 where
  pub form : IsNamedTest (named_test (variants_at key table) t)
  pub graphic : list_all is_graphic (test_text (named_test (variants_at key table) t)) ≡ true
  pub number : test_numbered table key (named_test (variants_at key table) t) ≡ Some t

label-graphic : (op : Op) → list_all is_graphic (op_label op) ≡ true
label-graphic Equal = refl
label-graphic NotEqual = refl
label-graphic Less = refl
label-graphic LessEqual = refl
label-graphic Greater = refl
label-graphic GreaterEqual = refl

signed-graphic : (n : ℤ) → is_signed n ≡ true → list_all is_graphic (signed_decimal n) ≡ true
signed-graphic (pos n) h = let small : n < 9223372036854775808 = ltb-true _ _ h in decimal-graphic n (omega arith)
signed-graphic (negsuc n) h = let small : n < 9223372036854775808 = ltb-true _ _ h in decimal-graphic (suc n) (omega arith)

writes : (table : Table) (key : ℕ) (k : Key) (t : Test) → is_table table ≡ true → slice_get table key ≡ Some k → test_fits k.domain t ≡ true → IsTest t → Writes table key t
writes table key k (test.Variant n) made there fit is =
    let names : variants_at key table ≡ names_of k.domain = rw there refl in
    let within : n < length (variants_at key table) = subst (λ ns. n < length ns) (sym names) (variant_within k.domain n fit) in
    let name = get_or (variants_at key table) n [] in
    let at = slice_get-get_or (variants_at key table) n [] within in
    let well = variants_named table key n name made at in
    let word = (and_parts (is_word name) (nat_le (length name) 255) (all_at is_name (variants_at key table) n name (are_names-named (variants_at key table) well) at)).0 in
    record {
      form = word;
      graphic = joined-graphic (codes "v:") name refl (word-graphic name word);
      number = ap (option_map test.Variant) (variant_found table key n name (are_names-distinct (variants_at key table) well) at);
    }
writes table key k (test.Text t) made there fit is =
    record {
      form = text_bytes t is;
      graphic = joined-graphic (codes "t:") (encode_lower t) refl (hex-graphic t (text_bytes t is));
      number = ap (option_map test.Text) (ap (λ b. cond b (Some t) None) (is_utf8-from_IsUtf8 t is));
    }
writes table key k (test.Number op n) made there fit is =
    record {
      form = is;
      graphic = joined-graphic (op_label op) (signed_decimal n) (label-graphic op) (signed-graphic n is);
      number = refl;
    }

pub all_write : (table : Table) (key : ℕ) (k : Key) (ts : List Test) → is_table table ≡ true → slice_get table key ≡ Some k → list_all (test_fits k.domain) ts ≡ true → AllByRecursion IsTest ts → AllByRecursion (Writes table key) ts
all_write table key k [] made there fit is = tt
all_write table key k (t ∷ ts) made there fit is =
    let p = and_parts (test_fits k.domain t) (list_all (test_fits k.domain) ts) fit in
    (writes table key k t made there p.0 is.0, all_write table key k ts made there p.1 is.1)

-- ---- one atom

tests_form : (names : List (List ℕ)) (table : Table) (key : ℕ) (ts : List Test) → AllByRecursion (Writes table key) ts → AllByRecursion (λ t. test_of (test_text t) ≡ Some t) (map (named_test (variants_at key table)) ts)
tests_form names table key [] all = tt
tests_form names table key (t ∷ ts) all = (test_again (named_test (variants_at key table) t) all.0.form, tests_form names table key ts all.1)

tests_graphic : (table : Table) (key : ℕ) (ts : List Test) → AllByRecursion (Writes table key) ts → list_all (list_all is_graphic) (map test_text (map (named_test (variants_at key table)) ts)) ≡ true
tests_graphic table key [] all = refl
tests_graphic table key (t ∷ ts) all = and_from _ _ all.0.graphic (tests_graphic table key ts all.1)

tests_number : (table : Table) (key : ℕ) (ts : List Test) → AllByRecursion (Writes table key) ts → AllByRecursion (λ t. test_numbered table key (named_test (variants_at key table) t) ≡ Some t) ts
tests_number table key [] all = tt
tests_number table key (t ∷ ts) all = (all.0.number, tests_number table key ts all.1)

sub_again : (sub : Option (List ℕ)) → IsSub sub → form.sub_of (form.sub_text sub) ≡ Some sub
unfolding form.sub_of
sub_again None is = refl
sub_again (Some name) is = ap (option_and_then (λ digits. option_map (λ (n : List ℕ). Some n) (bytes_of digits))) (after_again (codes "x") (encode_lower name)) ∙ ap (option_map (λ (n : List ℕ). Some n)) (bytes_again name (text_bytes name is))

sub_graphic : (sub : Option (List ℕ)) → IsSub sub → list_all is_graphic (form.sub_text sub) ≡ true
sub_graphic None is = refl
sub_graphic (Some name) is = joined-graphic (codes "x") (encode_lower name) refl (hex-graphic name (text_bytes name is))

sub_number : (sub : Option (List ℕ)) → IsSub sub → sub_numbered sub ≡ Some sub
sub_number None is = refl
sub_number (Some name) is = ap (option_map (λ (n : List ℕ). Some n)) (ap (λ b. cond b (Some name) None) (is_utf8-from_IsUtf8 name is))

quantifier_again : (q : Bool) → form.quantifier_of (form.quantifier_text q) ≡ Some q
unfolding form.quantifier_of
quantifier_again true = refl
quantifier_again false = refl

quantifier_graphic : (q : Bool) → list_all is_graphic (form.quantifier_text q) ≡ true
quantifier_graphic true = refl
quantifier_graphic false = refl

abbrev named_key : Table → Atom → List ℕ
named_key table atom = unwrap_or (name_at atom.slot.key table) []

head_again : (key : List ℕ) (sub : Option (List ℕ)) (q : Bool) → is_word key ≡ true → IsSub sub → form.head_of key (form.sub_text sub) (form.quantifier_text q) ≡ Some (key, sub, q)
unfolding form.head_of
head_again key sub q w is =
    let a = word_again key w in
    let b = sub_again sub is in
    let c = quantifier_again q in
    rw (a, b, c) refl

atom_of_again : (a : NamedAtom) → is_word a.key ≡ true → IsSub a.sub → list_all (list_all is_graphic) (map test_text a.tests) ≡ true → AllByRecursion (λ t. test_of (test_text t) ≡ Some t) a.tests → form.atom_of (form.atom_text a) ≡ Some a
unfolding form.atom_of
atom_of_again a w is graphic tests =
    let rest = form.sub_text a.sub ∷ form.quantifier_text a.none_of ∷ map test_text a.tests in
    ap form.of_fields (split-joined a.key rest (and_from _ _ (word-graphic a.key w) (and_from _ _ (sub_graphic a.sub is) (and_from _ _ (quantifier_graphic a.none_of) graphic))))
    ∙ ap (option_and_then (λ head. option_map (form.with_tests head) (each test_of (map test_text a.tests)))) (head_again a.key a.sub a.none_of w is)
    ∙ ap (option_map (form.with_tests (a.key, a.sub, a.none_of))) (each_again test_of test_text a.tests tests)

numbered_again : (table : Table) (atom : Atom) (key : List ℕ) → named_key table atom ≡ key → find_key key table ≡ Some atom.slot.key → IsSub atom.slot.sub
    → AllByRecursion (λ t. test_numbered table atom.slot.key (named_test (variants_at atom.slot.key table) t) ≡ Some t) atom.tests → atom_fits table atom ≡ true → numbered table (named table atom) ≡ Some atom
unfolding numbered
numbered_again table atom key name find is tests fit =
    let found : find_key (named_key table atom) table ≡ Some atom.slot.key = ap (λ n. find_key n table) name ∙ find in
    let s = sub_number atom.slot.sub is in
    let t = each_again (test_numbered table atom.slot.key) (named_test (variants_at atom.slot.key table)) atom.tests tests in
    ap (option_and_then (λ k. option_and_then (λ sub. option_and_then (λ ts. fitting table (atom_with k sub atom.none_of ts)) (each (test_numbered table k) (map (named_test (variants_at atom.slot.key table)) atom.tests))) (sub_numbered atom.slot.sub))) found
    ∙ ap (option_and_then (λ sub. option_and_then (λ ts. fitting table (atom_with atom.slot.key sub atom.none_of ts)) (each (test_numbered table atom.slot.key) (map (named_test (variants_at atom.slot.key table)) atom.tests)))) s
    ∙ ap (option_and_then (λ ts. fitting table (atom_with atom.slot.key atom.slot.sub atom.none_of ts))) t
    ∙ ap (λ b. cond b (Some atom) None) fit

atom_in_again : (table : Table) (line : List ℕ) (a : NamedAtom) (atom : Atom) → form.atom_of line ≡ Some a → form.is_within a ≡ true → numbered table a ≡ Some atom → atom_in table line ≡ Ok atom
unfolding atom_in
atom_in_again table line a atom spells within numbers = rw (spells, within, numbers) refl

pub record Written (table : Table) (atom : Atom) : Type 0 where
  pub reads : atom_in table (atom_line table atom) ≡ Ok atom
  pub printable : list_all is_printable (atom_line table atom) ≡ true

pub written : (table : Table) (atom : Atom) → is_table table ≡ true → atom_fits table atom ≡ true → IsAtom atom → Written table atom
unfolding atom_line
written table atom made fit is =
    let f = fits table atom fit in
    let at : name_at atom.slot.key table ≡ Some f.key.name = rw f.there refl in
    let name : named_key table atom ≡ f.key.name = rw at refl in
    let well = table-names table made in
    let named_well = (and_parts (is_word f.key.name) (nat_le (length f.key.name) 255) (all_at is_name (names_in table) atom.slot.key f.key.name (are_names-named (names_in table) well) (map_get table atom.slot.key ∙ at))).0 in
    let word : is_word (named_key table atom) ≡ true = ap is_word name ∙ named_well in
    let all = all_write table atom.slot.key f.key atom.tests made f.there f.tests is.1 in
    let graphic = tests_graphic table atom.slot.key atom.tests all in
    let one = atom_of_again (named table atom) word is.0 graphic (tests_form [] table atom.slot.key atom.tests all) in
    let within = named_within table atom fit in
    let two = numbered_again table atom f.key.name name (key_found table atom.slot.key f.key.name (are_names-distinct (names_in table) well) at) is.0 (tests_number table atom.slot.key atom.tests all) fit in
    record {
      reads = atom_in_again table (atom_line table atom) (named table atom) atom one within two;
      printable = joined-printable (named_key table atom ∷ form.sub_text atom.slot.sub ∷ form.quantifier_text atom.none_of ∷ map test_text (named table atom).tests) (and_from _ _ (word-graphic (named_key table atom) word) (and_from _ _ (sub_graphic atom.slot.sub is.0) (and_from _ _ (quantifier_graphic atom.none_of) graphic)));
    }
