-- Some option of a slot has all truths exactly where one of those that are tried has.
use Rattle.std.proofs.Common.{◌≡◌, ℕ, ⊎_elim, List, [], ◌∷◌, length, nat_le, Bool, true, false, ◌&&◌, ◌||◌, Option, Some, None, refl, ◌∙◌, ℤ, pos, ◌+ℤ◌, int_lt, int_le, arith}
use Rattle.std.specs.List.{list_any, list_all}
use Rattle.std.proofs.lemmas.Int.{ints}
use Rattle.std.proofs.lemmas.Bool.{or_parts, or_cases, and_parts, and_from, false_from_ne_true, both_ways, leb-true, le-leb, lt-ltb, ltb-true}
use Rattle.key_table.specs.declared.atom.Test.{Test}
use Rattle.key_table.specs.declared.atom.Test.TheVariants as test
use Rattle.key_table.specs.declared.slot.Datum.{Datum}
use Rattle.key_table.specs.declared.slot.Datum.TheVariants as datum
use Rattle.key_table.specs.Tables.{Domain, variants, bounds, text, metadata, allows}
use Rattle.key_table.specs.Contexts.{Assumption, Context}
use Rattle.contradiction_checker.specs.Candidates.{untested_has_truth}
use Rattle.contradiction_checker.specs.Tries.{values_of, meets_all, number_meets, from_meets, next_meets, tested_meets, some_test, untested_meets, some_option}
use Rattle.contradiction_checker.specs.Representatives.{is_short, long_text, may_be}
use Rattle.contradiction_checker.proofs.Numbers.{le_true, le_fact, lt_fact}
use Rattle.contradiction_checker.proofs.NumberLaw.{no_number}
use Rattle.contradiction_checker.proofs.TextLaw.{no_text, are_short, length_long_text, long_untested, meets_untested}
use Rattle.contradiction_checker.proofs.Variants.{some_variant_at, some_variant_is}

no_value : (domain : Domain) (es : Context) (d : Datum) → untested_meets (values_of domain) es ≡ false → some_test (tested_meets (values_of domain) es) es ≡ false → allows domain d ≡ true → meets_all es (Some d) ≡ false
no_value (variants names) es (datum.Variant v) untested tried legal = false_from_ne_true (meets_all es (Some (datum.Variant v))) (λ met. both_ways _ untested (some_variant_at (length names) v es (ltb-true v (length names) legal) met))
no_value (variants names) es (datum.Number z) untested tried legal = cc
no_value (variants names) es (datum.Text t) untested tried legal = cc
no_value (bounds least greatest) es (datum.Number z) untested tried legal =
    let parts = and_parts (int_le least z) (int_le z greatest) legal in
    no_number es least greatest z (le_fact least z parts.0) (le_fact z greatest parts.1) untested tried
no_value (bounds least greatest) es (datum.Variant v) untested tried legal = cc
no_value (bounds least greatest) es (datum.Text t) untested tried legal = cc
no_value text es (datum.Text t) untested tried legal = no_text es t untested tried
no_value text es (datum.Variant v) untested tried legal = cc
no_value text es (datum.Number z) untested tried legal = cc
no_value metadata es (datum.Text t) untested tried legal = no_text es t untested tried
no_value metadata es (datum.Variant v) untested tried legal = cc
no_value metadata es (datum.Number z) untested tried legal = cc

-- Where none of the options that are tried has all truths, no option has.
pub no_option : (domain : Domain) (es : Context) (option : Option Datum) → some_option (values_of domain) es ≡ false → may_be domain option ≡ true → meets_all es option ≡ false
no_option domain es None none legal = (or_parts (meets_all es None) (untested_meets (values_of domain) es || some_test (tested_meets (values_of domain) es) es) none).0
no_option domain es (Some d) none legal =
    let values = (or_parts (meets_all es None) (untested_meets (values_of domain) es || some_test (tested_meets (values_of domain) es) es) none).1 in
    let parts = or_parts (untested_meets (values_of domain) es) (some_test (tested_meets (values_of domain) es) es) values in
    no_value domain es d parts.0 parts.1 legal

-- An option that may stand there and has all truths.
abbrev pub HasOption : Domain → Context → Type 0
HasOption domain es = (option : Option Datum) × (may_be domain option ≡ true) × (meets_all es option ≡ true)

a_number : (es : Context) (least greatest z : ℤ) → number_meets least greatest es z ≡ true → HasOption (bounds least greatest) es
a_number es least greatest z met =
    let low = and_parts (int_le least z) (int_le z greatest && meets_all es (Some (datum.Number z))) met in
    let high = and_parts (int_le z greatest) (meets_all es (Some (datum.Number z))) low.1 in
    (Some (datum.Number z), and_from (int_le least z) (int_le z greatest) low.0 high.0, high.1)

a_next : (es : Context) (least greatest z : ℤ) → next_meets least greatest es z ≡ true → HasOption (bounds least greatest) es
a_next es least greatest z met =
    let under = and_parts (int_lt z greatest) (from_meets least es (z +ℤ pos 1)) met in
    let low = and_parts (int_le least (z +ℤ pos 1)) (meets_all es (Some (datum.Number (z +ℤ pos 1)))) under.1 in
    let less = lt_fact z greatest under.0 in
    (Some (datum.Number (z +ℤ pos 1)), and_from (int_le least (z +ℤ pos 1)) (int_le (z +ℤ pos 1) greatest) low.0 (le_true (z +ℤ pos 1) greatest (omega (arith, ints))), low.1)

short_text : (es : Context) (t : List ℕ) → nat_le (length t) 255 ≡ true → meets_all es (Some (datum.Text t)) ≡ true → (option : Option Datum) × (may_be text option ≡ true) × (meets_all es option ≡ true)
short_text es t short met = (Some (datum.Text t), le-leb (length t) 1024 (omega (arith, leb-true (length t) 255 short)), met)

tested : (domain : Domain) (es : Context) (t : Test) → tested_meets (values_of domain) es t ≡ true → is_short t ≡ true → HasOption domain es
tested (bounds least greatest) es (test.Number op z) met short = ⊎_elim (a_number es least greatest z) (a_next es least greatest z) (or_cases (number_meets least greatest es z) (next_meets least greatest es z) met)
tested (bounds least greatest) es (test.Variant v) met short = cc
tested (bounds least greatest) es (test.Text t) met short = cc
tested text es (test.Text t) met short = short_text es t short met
tested text es (test.Variant v) met short = cc
tested text es (test.Number op z) met short = cc
tested metadata es (test.Text t) met short = short_text es t short met
tested metadata es (test.Variant v) met short = cc
tested metadata es (test.Number op z) met short = cc
tested (variants names) es t met short = cc

-- an item that passes, where all have another property too
pub one_with : {X : Type 0} (f g : X → Bool) (xs : List X) → list_any f xs ≡ true → list_all g xs ≡ true → (x : X) × (f x ≡ true) × (g x ≡ true)
one_with f g [] some all = cc
one_with f g (x ∷ xs) some all =
    let parts = and_parts (g x) (list_all g xs) all in
    ⊎_elim (λ (here : f x ≡ true). (x, here, parts.0)) (λ (later : list_any f xs ≡ true). one_with f g xs later parts.1) (or_cases (f x) (list_any f xs) some)

a_long_text : (es : Context) → are_short es ≡ true → list_all untested_has_truth es ≡ true → (option : Option Datum) × (may_be text option ≡ true) × (meets_all es option ≡ true)
a_long_text es short met = (Some (datum.Text long_text), le-leb (length long_text) 1024 (omega (arith, length_long_text)), meets_untested long_text es (long_untested es short) ∙ met)

untested : (domain : Domain) (es : Context) → are_short es ≡ true → untested_meets (values_of domain) es ≡ true → HasOption domain es
untested (variants names) es short met =
    let v = some_variant_is (length names) es met in
    (Some (datum.Variant v.0), lt-ltb v.0 (length names) v.1, v.2)
untested (bounds least greatest) es short met = a_number es least greatest least met
untested text es short met = a_long_text es short met
untested metadata es short met = a_long_text es short met

-- Where one of the options that are tried has all truths, there is such an option.
pub an_option : (domain : Domain) (es : Context) → are_short es ≡ true → some_option (values_of domain) es ≡ true → HasOption domain es
an_option domain es short some =
    ⊎_elim
    (λ (absent : meets_all es None ≡ true). (None, refl, absent))
    (λ (value : (untested_meets (values_of domain) es || some_test (tested_meets (values_of domain) es) es) ≡ true). ⊎_elim
    (λ (met : untested_meets (values_of domain) es ≡ true). untested domain es short met)
    (λ (met : some_test (tested_meets (values_of domain) es) es ≡ true).
    let a = one_with (λ (a : Assumption). list_any (tested_meets (values_of domain) es) a.atom.tests) (λ (a : Assumption). list_all is_short a.atom.tests) es met short in
    let t = one_with (tested_meets (values_of domain) es) is_short (a.0).atom.tests a.1 a.2 in
    tested domain es t.0 t.1 t.2)
    (or_cases (untested_meets (values_of domain) es) (some_test (tested_meets (values_of domain) es) es) value))
    (or_cases (meets_all es None) (untested_meets (values_of domain) es || some_test (tested_meets (values_of domain) es) es) some)
