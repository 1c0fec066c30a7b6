-- The fields of a line are judged one by one as the whole line is.
use Rattle.std.proofs.Common.{◌≡◌, ℕ, suc, ◌/◌, ◌⊎◌, inl, inr, List, [], ◌∷◌, ◌++◌, length, true, false, ◌&&◌, cond, leb, Option, Some, None, Result, Ok, Err, refl, ap, sym, subst, ◌∙◌, arith, append_assoc}
use Rattle.std.specs.Prelude.{option_map, option_and_then, is_some}
use Rattle.std.specs.Option.{option_map_or}
use Rattle.std.specs.List.{list_all}
use Rattle.std.proofs.lemmas.Bool.{true≢false}
use Rattle.hex.specs.Hex.{lower_digits, decode_of}
use Rattle.hex.specs.declared.error.FromHexError.{FromHexError}
use Rattle.hex.specs.declared.error.FromHexError.TheVariants.{OutOfMemory}
use Rattle.hex.proofs.HexLemmas.{length-encode_with}
use Rattle.key_table.specs.declared.atom.Atom.{Atom}
use Rattle.key_table.specs.Tables.{Table, find_key}
use Rattle.key_table.specs.Answers.{◌>>=◌, or_fault}
use Rattle.certificate_text.specs.Forms.{is_hex}
use Rattle.certificate_text.specs.Spelled.{bytes_of}
use Rattle.certificate_text.specs.Named.{NamedTest, Head, with_tests, test_of, atom_of, each, is_within, test_within, sub_within}
use Rattle.certificate_text.specs.Numbered.{numbered, test_numbered, sub_numbered, fitting, atom_with}
use Rattle.certificate_text.specs.Reading.{atom_in}
use Rattle.certificate_text.specs.Views.{unhex, is_test, field_within, field_numbered, numbered_in, line_view, fields_within, fault_code}
use Rattle.certificate_text.proofs.Spellings.{bytes_only}
use Rattle.certificate_text.proofs.Hexes.{hex_known, decoded}
use Rattle.certificate_text.proofs.Options.{or_fault_ok}
use Rattle.certificate_text.proofs.NumberedLaws.{numbered_only}
use Rattle.certificate_text.proofs.Fitting.{named_within, numbered_fits}

-- ---- each of a list

pub each_none : {A B : Type 0} (f : A → Option B) (xs : List A) → list_all (λ x. is_some (f x)) xs ≡ false → each f xs ≡ None
each_none f [] h = absurd (true≢false h)
each_none f (x ∷ xs) h =
    elim (f x) as (λ o. (is_some o && list_all (λ x. is_some (f x)) xs) ≡ false → option_and_then (λ y. option_map (λ ys. y ∷ ys) (each f xs)) o ≡ None) [
      | None ↦ (λ h. refl)
      | Some y ↦ (λ h. ap (option_map (λ ys. y ∷ ys)) (each_none f xs h))
    ] h

pub each_some : {A B : Type 0} (f : A → Option B) (xs : List A) → list_all (λ x. is_some (f x)) xs ≡ true → (ys : List B) × (each f xs ≡ Some ys)
each_some f [] h = ([], refl)
each_some f (x ∷ xs) h =
    elim (f x) as (λ o. (is_some o && list_all (λ x. is_some (f x)) xs) ≡ true → (ys : List _) × (option_and_then (λ y. option_map (λ ys. y ∷ ys) (each f xs)) o ≡ Some ys)) [
      | None ↦ (λ h. absurd (true≢false (sym h)))
      | Some y ↦ (λ h. let rest = each_some f xs h in (y ∷ rest.0, ap (option_map (λ ys. y ∷ ys)) rest.1))
    ] h

-- what each field is, where all of them are something
pub record Reads (fields : List (List ℕ)) (tests : List NamedTest) : Type 0 where
  pub same : length fields ≡ length tests
  pub within : list_all field_within fields ≡ list_all test_within tests
  pub numbers : (table : Table) (key : ℕ) → each (field_numbered table key) fields ≡ each (test_numbered table key) tests

reads_more : (field : List ℕ) (test : NamedTest) (fields : List (List ℕ)) (tests : List NamedTest) → test_of field ≡ Some test → Reads fields tests → Reads (field ∷ fields) (test ∷ tests)
reads_more field test fields tests e r = record {
  same = ap suc r.same;
  within = ap (λ o. option_map_or test_within o false && list_all field_within fields) e ∙ ap (λ b. test_within test && b) r.within;
  numbers = λ table key. ap (λ o. option_and_then (λ y. option_map (λ ys. y ∷ ys) (each (field_numbered table key) fields)) (option_and_then (test_numbered table key) o)) e ∙ ap (λ w. option_and_then (λ y. option_map (λ ys. y ∷ ys) w) (test_numbered table key test)) (r.numbers table key);
}

reads : (fields : List (List ℕ)) (tests : List NamedTest) → each test_of fields ≡ Some tests → Reads fields tests
reads [] [] e = record { same = refl; within = refl; numbers = λ table key. refl }
reads [] (t ∷ tests) e = absurd cc
reads (field ∷ fields) tests e =
    elim (test_of field) as (λ o. test_of field ≡ o → option_and_then (λ y. option_map (λ ys. y ∷ ys) (each test_of fields)) o ≡ Some tests → Reads (field ∷ fields) tests) [
      | None ↦ (λ h g. absurd cc)
      | Some test ↦ (λ h g.
          elim (each test_of fields) as (λ o. each test_of fields ≡ o → option_map (λ ys. test ∷ ys) o ≡ Some tests → Reads (field ∷ fields) tests) [
            | None ↦ (λ i g. absurd cc)
            | Some more ↦ (λ i g. let same : test ∷ more ≡ tests = cc in subst (Reads (field ∷ fields)) same (reads_more field test fields more h (reads fields more i)))
          ] refl g)
    ] refl e

-- ---- a line by its fields

numbered_same : (table : Table) (head : Head) (fields : List (List ℕ)) (tests : List NamedTest) → Reads fields tests → or_fault {E = ℕ} 2 (numbered table (with_tests head tests)) ≡ numbered_in table head fields
unfolding numbered numbered_in
numbered_same table head fields tests r =
    elim (find_key head.0 table) as (λ k. or_fault {E = ℕ} 2 (option_and_then (λ key. option_and_then (λ sub. option_and_then (λ ts. fitting table (atom_with key sub head.2 ts)) (each (test_numbered table key) tests)) (sub_numbered head.1)) k)
    ≡ (or_fault {E = ℕ} 2 k >>= λ key. or_fault {E = ℕ} 2 (sub_numbered head.1) >>= λ sub. or_fault {E = ℕ} 2 (each (field_numbered table key) fields) >>= λ ts. or_fault {E = ℕ} 2 (fitting table (atom_with key sub head.2 ts)))) [
      | None ↦ refl
      | Some key ↦ elim (sub_numbered head.1) as (λ s. or_fault {E = ℕ} 2 (option_and_then (λ sub. option_and_then (λ ts. fitting table (atom_with key sub head.2 ts)) (each (test_numbered table key) tests)) s)
          ≡ (or_fault {E = ℕ} 2 s >>= λ sub. or_fault {E = ℕ} 2 (each (field_numbered table key) fields) >>= λ ts. or_fault {E = ℕ} 2 (fitting table (atom_with key sub head.2 ts)))) [
            | None ↦ refl
            | Some sub ↦ rw (r.numbers table key) (elim (each (test_numbered table key) tests) as (λ t. or_fault {E = ℕ} 2 (option_and_then (λ ts. fitting table (atom_with key sub head.2 ts)) t) ≡ (or_fault {E = ℕ} 2 t >>= λ ts. or_fault {E = ℕ} 2 (fitting table (atom_with key sub head.2 ts)))) [ None ↦ refl | Some ts ↦ refl ])
          ]
    ]

by_form : (table : Table) (line : List ℕ) (head : Head) (fields : List (List ℕ)) → atom_of line ≡ line_view head fields → list_all is_test fields ≡ false → atom_in table line ≡ Err 1
unfolding atom_in
by_form table line head fields e bad = rw (e, each_none test_of fields bad) refl

within_same : (head : Head) (fields : List (List ℕ)) (tests : List NamedTest) → Reads fields tests → is_within (with_tests head tests) ≡ fields_within head fields
within_same head fields tests r = sym (ap (λ n. leb n 4096 && (sub_within head.1 && list_all field_within fields)) r.same ∙ ap (λ b. leb (length tests) 4096 && (sub_within head.1 && b)) r.within)

by_limit : (table : Table) (line : List ℕ) (head : Head) (fields : List (List ℕ)) → atom_of line ≡ line_view head fields → list_all is_test fields ≡ true → fields_within head fields ≡ false → atom_in table line ≡ Err 5
unfolding atom_in
by_limit table line head fields e form over =
    let t = each_some test_of fields form in
    let r = reads fields t.0 t.1 in
    let w = within_same head fields t.0 r ∙ over in
    rw (e, t.1, w) refl

by_table : (table : Table) (line : List ℕ) (head : Head) (fields : List (List ℕ)) → atom_of line ≡ line_view head fields → list_all is_test fields ≡ true → fields_within head fields ≡ true → atom_in table line ≡ numbered_in table head fields
unfolding atom_in
by_table table line head fields e form fine =
    let t = each_some test_of fields form in
    let r = reads fields t.0 t.1 in
    let w = within_same head fields t.0 r ∙ fine in
    rw (e, t.1, w) (numbered_same table head fields t.0 r)

-- fields that are no tests have no numbers
each_through : {A B C : Type 0} (f : A → Option B) (g : B → Option C) (xs : List A) → list_all (λ x. is_some (f x)) xs ≡ false → each (λ x. option_and_then g (f x)) xs ≡ None
each_through f g [] h = absurd (true≢false h)
each_through f g (x ∷ xs) h =
    let rest = each (λ x. option_and_then g (f x)) xs in
    elim (f x) as (λ o. (is_some o && list_all (λ x. is_some (f x)) xs) ≡ false → option_and_then (λ z. option_map (λ zs. z ∷ zs) rest) (option_and_then g o) ≡ None) [
      | None ↦ (λ h. refl)
      | Some y ↦ (λ h. elim (g y) as (λ o. option_and_then (λ z. option_map (λ zs. z ∷ zs) rest) o ≡ None) [ None ↦ refl | Some z ↦ ap (option_map (λ zs. z ∷ zs)) (each_through f g xs h) ])
    ] h

abbrev numberless : Result Atom ℕ
numberless = Err 2

none_numbered : (table : Table) (head : Head) (fields : List (List ℕ)) → list_all is_test fields ≡ false → numbered_in table head fields ≡ numberless
unfolding numbered_in
none_numbered table head fields bad =
    elim (find_key head.0 table) as (λ k. (or_fault {E = ℕ} 2 k >>= λ key. or_fault {E = ℕ} 2 (sub_numbered head.1) >>= λ sub. or_fault {E = ℕ} 2 (each (field_numbered table key) fields) >>= λ ts. or_fault {E = ℕ} 2 (fitting table (atom_with key sub head.2 ts))) ≡ numberless) [
      | None ↦ refl
      | Some key ↦ elim (sub_numbered head.1) as (λ s. (or_fault {E = ℕ} 2 s >>= λ sub. or_fault {E = ℕ} 2 (each (field_numbered table key) fields) >>= λ ts. or_fault {E = ℕ} 2 (fitting table (atom_with key sub head.2 ts))) ≡ numberless) [
        | None ↦ refl
        | Some sub ↦ rw (each_through test_of (test_numbered table key) fields bad) refl
      ]
    ]

only_two : (o : Option Atom) (code : ℕ) → or_fault {E = ℕ} 2 o ≡ Err code → code ≡ 2
only_two None code e = cc
only_two (Some a) code e = absurd cc

-- An atom with its numbers is one that the line is.
pub known : (table : Table) (line : List ℕ) (head : Head) (fields : List (List ℕ)) (atom : Atom) → atom_of line ≡ line_view head fields → numbered_in table head fields ≡ Ok atom → atom_in table line ≡ Ok atom
unfolding atom_in
known table line head fields atom e is =
    elim (list_all is_test fields) as (λ b. list_all is_test fields ≡ b → atom_in table line ≡ Ok atom) [
      | false ↦ (λ bad. let other = sym (none_numbered table head fields bad) ∙ is in absurd cc)
      | true ↦ (λ form.
          let t = each_some test_of fields form in
          let r = reads fields t.0 t.1 in
          let there = or_fault_ok 2 (numbered table (with_tests head t.0)) atom (numbered_same table head fields t.0 r ∙ is) in
          let w : is_within (with_tests head t.0) ≡ true = ap is_within (sym (numbered_only table (with_tests head t.0) atom there)) ∙ named_within table atom (numbered_fits table (with_tests head t.0) atom there) in
          rw (e, t.1, w, there) refl)
    ] refl

-- A line that has no numbers has its fault: that of its form, then of the limits, then of what the table has.
pub unknown : (table : Table) (line : List ℕ) (head : Head) (fields : List (List ℕ)) (code : ℕ) → atom_of line ≡ line_view head fields → numbered_in table head fields ≡ Err code → atom_in table line ≡ Err (fault_code head fields)
unknown table line head fields code e is =
    elim (list_all is_test fields) as (λ b. list_all is_test fields ≡ b → atom_in table line ≡ Err (cond b (cond (fields_within head fields) 2 5) 1)) [
      | false ↦ (λ bad. by_form table line head fields e bad)
      | true ↦ (λ form. elim (fields_within head fields) as (λ b. fields_within head fields ≡ b → atom_in table line ≡ Err (cond b 2 5)) [
        | false ↦ (λ over. by_limit table line head fields e form over)
        | true ↦ (λ fine.
            let t = each_some test_of fields form in
            let two = only_two (numbered table (with_tests head t.0)) code (numbered_same table head fields t.0 (reads fields t.0 t.1) ∙ is) in
            by_table table line head fields e form fine ∙ is ∙ ap (λ c. Err c) two)
      ] refl)
    ] refl

-- ---- the bytes of hexadecimal digits

pub unhex_length : (digits : List ℕ) → is_hex digits ≡ true → length (unhex digits) ≡ length digits / 2
unhex_length digits h =
    let text = bytes_only digits (unhex digits) (hex_known digits h) in
    omega (arith, length-encode_with lower_digits (unhex digits), ap length text)

pub unhex_decoded : (digits bytes : List ℕ) → is_hex digits ≡ true → decode_of digits ≡ Ok bytes → bytes ≡ unhex digits
unfolding bytes_of
unhex_decoded digits bytes h e =
    let same = decoded digits (unhex digits) (decode_of digits) (hex_known digits h) in
    let both : Ok bytes ≡ decode_of digits = sym e in cc

-- ---- a list of tests that grows

pub each_more : {A B : Type 0} (f : A → Option B) (front : List B) (x : A) (xs : List A) (y : B) → f x ≡ Some y → option_map (λ ys. front ++ ys) (each f (x ∷ xs)) ≡ option_map (λ ys. (front ++ y ∷ []) ++ ys) (each f xs)
each_more f front x xs y e =
    ap (λ o. option_map (λ ys. front ++ ys) (option_and_then (λ y. option_map (λ ys. y ∷ ys) (each f xs)) o)) e
    ∙ elim (each f xs) as (λ o. option_map (λ ys. front ++ ys) (option_map (λ ys. y ∷ ys) o) ≡ option_map (λ ys. (front ++ y ∷ []) ++ ys) o) [
      | None ↦ refl
      | Some ys ↦ ap (λ zs. Some zs) (sym (append_assoc front (y ∷ []) ys))
    ]

pub each_stops : {A B : Type 0} (f : A → Option B) (front : List B) (x : A) (xs : List A) → f x ≡ None → option_map (λ ys. front ++ ys) (each f (x ∷ xs)) ≡ None
each_stops f front x xs e = ap (λ o. option_map (λ ys. front ++ ys) (option_and_then (λ y. option_map (λ ys. y ∷ ys) (each f xs)) o)) e

pub unhex_decodes : (digits : List ℕ) → is_hex digits ≡ true → decode_of digits ≡ Ok (unhex digits)
unfolding bytes_of
unhex_decodes digits h = decoded digits (unhex digits) (decode_of digits) (hex_known digits h)

pub only_memory : (digits : List ℕ) (e : FromHexError) → is_hex digits ≡ true → (e ≡ OutOfMemory) ⊎ (decode_of digits ≡ Err e) → e ≡ OutOfMemory
only_memory digits e h (inl is) = is
only_memory digits e h (inr bad) = let good = unhex_decodes digits h in absurd cc
