-- Each text has the truths of a text that a test names, or of one that no test names.
use Rattle.std.proofs.Common.{◌≡◌, ℕ, ◌⊎◌, inl, inr, ⊎_elim, List, [], ◌∷◌, length, Bool, true, false, not, ◌&&◌, cond, bytes_eq, Some, refl, ap, sym, ◌∙◌, subst, arith}
use Rattle.std.specs.List.{list_any, list_all, AllByRecursion}
use Rattle.std.specs.Bool.{beq}
use Rattle.std.proofs.lemmas.Bool.{or_parts, and_parts, cases_Bool, false_from_ne_true, leb-true}
use Rattle.std.proofs.lemmas.List.{length-replicate}
use Rattle.std.proofs.lemmas.Slice.Eq.{bytes_eq-Decides}
use Rattle.key_table.specs.declared.atom.Test.{Test}
use Rattle.key_table.specs.declared.atom.Test.TheVariants as test
use Rattle.key_table.specs.declared.slot.Datum.TheVariants as datum
use Rattle.key_table.specs.Atoms.{test_holds}
use Rattle.key_table.specs.Contexts.{Assumption, Context}
use Rattle.contradiction_checker.specs.declared.options.Values.TheVariants.{Texts}
use Rattle.contradiction_checker.specs.Candidates.{untested_has_truth}
use Rattle.contradiction_checker.specs.Tries.{meets_all, tested_meets, some_test}
use Rattle.contradiction_checker.specs.Representatives.{is_short, long_text}
use Rattle.contradiction_checker.proofs.Agreement.{EachTest}

-- A text has not all truths, or P holds.
abbrev Or : Context → List ℕ → Type 0 → Type 0
Or es u P = (meets_all es (Some (datum.Text u)) ≡ false) ⊎ P

both : {P Q : Type 0} (es : Context) (u : List ℕ) → Or es u P → Or es u Q → Or es u (P × Q)
both es u p q = ⊎_elim (λ fails. inl fails) (λ here. ⊎_elim (λ fails. inl fails) (λ there. inr (here, there)) q) p

-- No test is true of a text.
abbrev pub AreFalse : List ℕ → Context → Type 0
AreFalse u es = EachTest (λ t. test_holds (datum.Text u) t ≡ false) es

one : (es : Context) (u : List ℕ) (t : Test) → tested_meets Texts es t ≡ false → Or es u (test_holds (datum.Text u) t ≡ false)
one es u (test.Text t) tried =
    ⊎_elim
    (λ (is : bytes_eq u t ≡ true). let P : List ℕ → Type 0 = λ v. meets_all es (Some (datum.Text v)) ≡ false in inl (subst P (sym ((bytes_eq-Decides u t).0 is)) tried))
    (λ (other : bytes_eq u t ≡ false). inr other)
    (cases_Bool (bytes_eq u t))
one es u (test.Variant v) tried = inr refl
one es u (test.Number op n) tried = inr refl

over_tests : (es : Context) (u : List ℕ) (ts : List Test) → list_any (tested_meets Texts es) ts ≡ false → Or es u (AllByRecursion (λ t. test_holds (datum.Text u) t ≡ false) ts)
over_tests es u [] tried = inr tt
over_tests es u (t ∷ ts) tried =
    let parts = or_parts (tested_meets Texts es t) (list_any (tested_meets Texts es) ts) tried in
    both es u (one es u t parts.0) (over_tests es u ts parts.1)

over_context : (es : Context) (u : List ℕ) (given : Context) → some_test (tested_meets Texts es) given ≡ false → Or es u (AreFalse u given)
over_context es u [] tried = inr tt
over_context es u (a ∷ given) tried =
    let parts = or_parts (list_any (tested_meets Texts es) a.atom.tests) (some_test (tested_meets Texts es) given) tried in
    both es u (over_tests es u a.atom.tests parts.0) (over_context es u given parts.1)

none_true : (p : Test → Bool) (ts : List Test) → AllByRecursion (λ t. p t ≡ false) ts → list_any p ts ≡ false
none_true p [] h = refl
none_true p (t ∷ ts) h = rw h.0 (none_true p ts h.1)

cond_self : (b : Bool) → cond b (not false) false ≡ b
cond_self true = refl
cond_self false = refl

-- Where no test is true of a text, it has the truths of every such text.
pub meets_untested : (u : List ℕ) (es : Context) → AreFalse u es → meets_all es (Some (datum.Text u)) ≡ list_all untested_has_truth es
meets_untested u [] h = refl
meets_untested u (a ∷ es) h =
    let tests = none_true (test_holds (datum.Text u)) a.atom.tests h.0 in
    let here = ap (λ (b : Bool). beq (cond a.atom.none_of (not b) b) a.truth) tests ∙ ap (λ (b : Bool). beq b a.truth) (cond_self a.atom.none_of) in
    rw (meets_untested u es h.1) (ap (λ (b : Bool). b && list_all untested_has_truth es) here)

-- Where none of the texts that are tried has all truths, no text has.
pub no_text : (es : Context) (u : List ℕ) → list_all untested_has_truth es ≡ false → some_test (tested_meets Texts es) es ≡ false → meets_all es (Some (datum.Text u)) ≡ false
no_text es u untested tried = ⊎_elim (λ fails. fails) (λ are_false. meets_untested u es are_false ∙ untested) (over_context es u es tried)

abbrev pub are_short : Context → Bool
are_short es = list_all (λ (a : Assumption). list_all is_short a.atom.tests) es

pub length_long_text : length long_text ≡ 256
unfolding long_text
length_long_text = length-replicate {A = ℕ} 256 97

long_false : (t : Test) → is_short t ≡ true → test_holds (datum.Text long_text) t ≡ false
long_false (test.Text t) short = false_from_ne_true (bytes_eq long_text t) (λ is. absurd (omega (arith, leb-true (length t) 255 short, ap length ((bytes_eq-Decides long_text t).0 is), length_long_text)))
long_false (test.Variant v) short = refl
long_false (test.Number op n) short = refl

pub long_each : (ts : List Test) → list_all is_short ts ≡ true → AllByRecursion (λ t. test_holds (datum.Text long_text) t ≡ false) ts
long_each [] short = tt
long_each (t ∷ ts) short =
    let parts = and_parts (is_short t) (list_all is_short ts) short in
    (long_false t parts.0, long_each ts parts.1)

-- No test of at most 255 bytes is true of it.
pub long_untested : (es : Context) → are_short es ≡ true → AreFalse long_text es
long_untested [] short = tt
long_untested (a ∷ es) short =
    let parts = and_parts (list_all is_short a.atom.tests) (are_short es) short in
    (long_each a.atom.tests parts.0, long_untested es parts.1)
