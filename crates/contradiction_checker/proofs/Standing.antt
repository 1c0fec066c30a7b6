-- Each option has a representative.
use Rattle.std.proofs.Common.{◌≡◌, ℕ, zero, suc, ◌<◌, ◌⊎◌, inl, inr, ⊎_elim, List, [], ◌∷◌, ◌++◌, length, Bool, true, false, bytes_eq, Option, Some, None, refl, ap, sym, ◌∙◌, ℤ, pos, ◌+ℤ◌, ◌≤ℤ◌, int_le, arith}
use Rattle.std.specs.List.{list_all, flat_map, AllByRecursion}
use Rattle.std.proofs.lemmas.Int.{ints}
use Rattle.std.proofs.lemmas.Bool.{and_parts, and_from, cases_Bool, cases_eq, le-leb, ltb-true}
use Rattle.std.proofs.lemmas.Slice.Eq.{bytes_eq-Decides}
use Rattle.key_table.specs.declared.atom.Test.{Test}
use Rattle.key_table.specs.declared.atom.Test.TheVariants as test
use Rattle.key_table.specs.declared.slot.Datum.{Datum}
use Rattle.key_table.specs.declared.slot.Datum.TheVariants as datum
use Rattle.key_table.specs.Tables.{Domain, variants, bounds, text, metadata}
use Rattle.key_table.specs.Atoms.{test_holds}
use Rattle.rule_problem.specs.Quantifiers.{AnyByRecursion}
use Rattle.contradiction_checker.specs.Representatives.{long_text, is_short, may_be, is_true_of, variants_below, tested_of, representatives, HasRepresentative}
use Rattle.contradiction_checker.proofs.Numbers.{le_true, le_fact}
use Rattle.contradiction_checker.proofs.NumberLaw.{Tried, a_number_like}
use Rattle.contradiction_checker.proofs.TextLaw.{length_long_text, long_each}

abbrev Among : Option Datum → List (Option Datum) → Type 0
Among r rs = AnyByRecursion (λ s. s ≡ r) rs

among_left : (r : Option Datum) (xs ys : List (Option Datum)) → Among r xs → Among r (xs ++ ys)
among_left r [] ys none = absurd none
among_left r (x ∷ xs) ys some = ⊎_elim (λ (here : x ≡ r). inl here) (λ (later : Among r xs). inr (among_left r xs ys later)) some

among_right : (r : Option Datum) (xs ys : List (Option Datum)) → Among r ys → Among r (xs ++ ys)
among_right r [] ys h = h
among_right r (x ∷ xs) ys h = inr (among_right r xs ys h)

variant_among : (count v : ℕ) → v < count → Among (Some (datum.Variant v)) (variants_below count)
variant_among zero v below = absurd (omega arith)
variant_among (suc n) v below =
    ⊎_elim
    (λ (e : v ≡ n). inl (ap (λ (k : ℕ). Some (datum.Variant k)) (sym e)))
    (λ (ne : v ≡ n → ⊥). inr (variant_among n v (omega arith)))
    (cases_eq v n)

tried_one : (reps : List (Option Datum)) (least greatest : ℤ) (t : Test) → ((r : Option Datum) → Among r (tested_of t) → Among r reps) → Tried (λ z. Among (Some (datum.Number z)) reps) least greatest t
tried_one reps least greatest (test.Number op n) within = (λ low high. within (Some (datum.Number n)) (inl refl), λ low under. within (Some (datum.Number (n +ℤ pos 1))) (inr (inl refl)))
tried_one reps least greatest (test.Variant v) within = tt
tried_one reps least greatest (test.Text t) within = tt

tried_all : (reps : List (Option Datum)) (least greatest : ℤ) (ts : List Test) → ((r : Option Datum) → Among r (flat_map tested_of ts) → Among r reps) → AllByRecursion (Tried (λ z. Among (Some (datum.Number z)) reps) least greatest) ts
tried_all reps least greatest [] within = tt
tried_all reps least greatest (t ∷ ts) within = (
  tried_one reps least greatest t (λ r h. within r (among_left r (tested_of t) (flat_map tested_of ts) h)),
  tried_all reps least greatest ts (λ r h. within r (among_right r (tested_of t) (flat_map tested_of ts) h)),
)

same_each : {X : Type 0} (f : X → Bool) (xs : List X) → AllByRecursion (λ x. f x ≡ f x) xs
same_each f [] = tt
same_each f (x ∷ xs) = (refl, same_each f xs)

both_false : {X : Type 0} (f g : X → Bool) (xs : List X) → AllByRecursion (λ x. f x ≡ false) xs → AllByRecursion (λ x. g x ≡ false) xs → AllByRecursion (λ x. f x ≡ g x) xs
both_false f g [] h k = tt
both_false f g (x ∷ xs) h k = (h.0 ∙ sym k.0, both_false f g xs h.1 k.1)

-- A text is the text of a test, or no test is true of it.
abbrev Named : List ℕ → List Test → Type 0
Named u ts = Among (Some (datum.Text u)) (flat_map tested_of ts) ⊎ AllByRecursion (λ t. test_holds (datum.Text u) t ≡ false) ts

named_after : (u : List ℕ) (t : Test) (ts : List Test) → test_holds (datum.Text u) t ≡ false → Named u ts → Named u (t ∷ ts)
named_after u t ts other named =
    ⊎_elim
    (λ (later : Among (Some (datum.Text u)) (flat_map tested_of ts)). inl (among_right (Some (datum.Text u)) (tested_of t) (flat_map tested_of ts) later))
    (λ (none : AllByRecursion (λ t. test_holds (datum.Text u) t ≡ false) ts). inr (other, none))
    named

named : (u : List ℕ) (ts : List Test) → Named u ts
named u [] = inr tt
named u (test.Text t ∷ ts) =
    ⊎_elim
    (λ (is : bytes_eq u t ≡ true). inl (inl (ap (λ (v : List ℕ). Some (datum.Text v)) (sym ((bytes_eq-Decides u t).0 is)))))
    (λ (other : bytes_eq u t ≡ false). named_after u (test.Text t) ts other (named u ts))
    (cases_Bool (bytes_eq u t))
named u (test.Variant v ∷ ts) = named_after u (test.Variant v) ts refl (named u ts)
named u (test.Number op n ∷ ts) = named_after u (test.Number op n) ts refl (named u ts)

-- An option that is a representative itself.
itself : (domain : Domain) (tests : List Test) (option : Option Datum) → Among option (representatives domain tests) → may_be domain option ≡ true → HasRepresentative domain tests option
itself domain tests option among legal = record { stands = option; among = among; legal = legal; same = same_each (is_true_of option) tests }

of_number : (tests : List Test) (least greatest x : ℤ) → least ≤ℤ x → x ≤ℤ greatest → HasRepresentative (bounds least greatest) tests (Some (datum.Number x))
of_number tests least greatest x low high =
    let reps = representatives (bounds least greatest) tests in
    let like = a_number_like (λ z. Among (Some (datum.Number z)) reps) least greatest x low high (inr (inl refl)) tests (tried_all reps least greatest tests (λ r h. inr (inr h))) in
    record {
      stands = Some (datum.Number like.0);
      among = like.3;
      legal = and_from (int_le least like.0) (int_le like.0 greatest) (le_true least like.0 like.1) (le_true like.0 greatest (omega (arith, ints, like.2)));
      same = like.4;
    }

of_text : (tests : List Test) (u : List ℕ) → list_all is_short tests ≡ true → may_be text (Some (datum.Text u)) ≡ true → HasRepresentative text tests (Some (datum.Text u))
of_text tests u short legal =
    ⊎_elim
    (λ (among : Among (Some (datum.Text u)) (flat_map tested_of tests)). itself text tests (Some (datum.Text u)) (inr (inr among)) legal)
    (λ (none : AllByRecursion (λ t. test_holds (datum.Text u) t ≡ false) tests). record {
      stands = Some (datum.Text long_text);
      among = inr (inl refl);
      legal = le-leb (length long_text) 1024 (omega (arith, length_long_text));
      same = both_false (test_holds (datum.Text u)) (test_holds (datum.Text long_text)) tests none (long_each tests short);
    })
    (named u tests)

as_metadata : (option : Option Datum) → may_be text option ≡ true → may_be metadata option ≡ true
as_metadata None legal = refl
as_metadata (Some (datum.Text t)) legal = legal
as_metadata (Some (datum.Variant v)) legal = legal
as_metadata (Some (datum.Number z)) legal = legal

pub has_representative : (domain : Domain) (tests : List Test) (option : Option Datum) → list_all is_short tests ≡ true → may_be domain option ≡ true → HasRepresentative domain tests option
has_representative domain tests None short legal = itself domain tests None (inl refl) refl
has_representative (variants names) tests (Some (datum.Variant v)) short legal = itself (variants names) tests (Some (datum.Variant v)) (inr (among_left (Some (datum.Variant v)) (variants_below (length names)) (flat_map tested_of tests) (variant_among (length names) v (ltb-true v (length names) legal)))) legal
has_representative (variants names) tests (Some (datum.Number z)) short legal = cc
has_representative (variants names) tests (Some (datum.Text t)) short legal = cc
has_representative (bounds least greatest) tests (Some (datum.Number x)) short legal =
    let parts = and_parts (int_le least x) (int_le x greatest) legal in
    of_number tests least greatest x (le_fact least x parts.0) (le_fact x greatest parts.1)
has_representative (bounds least greatest) tests (Some (datum.Variant v)) short legal = cc
has_representative (bounds least greatest) tests (Some (datum.Text t)) short legal = cc
has_representative text tests (Some (datum.Text u)) short legal = of_text tests u short legal
has_representative text tests (Some (datum.Variant v)) short legal = cc
has_representative text tests (Some (datum.Number z)) short legal = cc
has_representative metadata tests (Some (datum.Text u)) short legal =
    let r = of_text tests u short legal in
    record { stands = r.stands; among = r.among; legal = as_metadata r.stands r.legal; same = r.same }
has_representative metadata tests (Some (datum.Variant v)) short legal = cc
has_representative metadata tests (Some (datum.Number z)) short legal = cc
