-- Each number within the bounds has the truths of one of few: the least, the numbers of the tests, and those one above them.
use Rattle.std.proofs.Common.{◌≡◌, ◌⊎◌, ⊎_elim, List, [], ◌∷◌, Bool, true, false, ◌&&◌, Some, refl, ap, sym, ◌∙◌, subst, ℤ, pos, ◌+ℤ◌, ◌≤ℤ◌, ◌<ℤ◌, int_lt, int_le, arith}
use Rattle.std.specs.List.{list_any, AllByRecursion}
use Rattle.std.proofs.lemmas.Int.{ints, by_lt_z}
use Rattle.std.proofs.lemmas.Bool.{or_parts}
use Rattle.key_table.specs.declared.atom.Test.{Test}
use Rattle.key_table.specs.declared.atom.Test.TheVariants as test
use Rattle.key_table.specs.declared.slot.Datum.TheVariants as datum
use Rattle.key_table.specs.Atoms.{test_holds, relates}
use Rattle.key_table.specs.Contexts.{Assumption, Context}
use Rattle.contradiction_checker.specs.declared.options.Values.TheVariants.{Numbers}
use Rattle.contradiction_checker.specs.Tries.{meets_all, number_meets, next_meets, tested_meets, some_test}
use Rattle.contradiction_checker.proofs.Agreement.{EachTest, each_map, meets_same}
use Rattle.contradiction_checker.proofs.Numbers.{relates_alike, above, below, between, sides, le_true, lt_true}

-- A test has on x the answer that it has on each number from z up to x.
abbrev Settled : ℤ → ℤ → Test → Type 0
Settled x z t = (y : ℤ) → z ≤ℤ y → y ≤ℤ x → test_holds (datum.Number x) t ≡ test_holds (datum.Number y) t

raise : (x z w : ℤ) → z ≤ℤ w → (t : Test) → Settled x z t → Settled x w t
raise x z w up t settled = λ y wy yx. settled y (omega (arith, ints)) yx

-- A number from z up to x of which F holds, and at which S holds.
abbrev Near : (ℤ → Type 0) → ℤ → ℤ → (ℤ → Type 0) → Type 0
Near F x z S = (y : ℤ) × (z ≤ℤ y) × (y ≤ℤ x) × F y × S y

-- F holds of the number of a test and of the one above it, where these are within the bounds.
abbrev pub Tried : (ℤ → Type 0) → ℤ → ℤ → Test → Type 0
Tried F least greatest (test.Number op n) = (least ≤ℤ n → n ≤ℤ greatest → F n) × (least ≤ℤ (n +ℤ pos 1) → n <ℤ greatest → F (n +ℤ pos 1))
Tried F least greatest _ = Unit {0}

step : (F : ℤ → Type 0) (least greatest x z : ℤ) → least ≤ℤ z → z ≤ℤ x → x ≤ℤ greatest → F z → (t : Test) → Tried F least greatest t → Near F x z (λ y. Settled x y t)
step F least greatest x z low mid high holds (test.Number op n) tried =
    ⊎_elim
    (λ (less : x <ℤ n). (z, omega (arith, ints), mid, holds, λ y zy yx. relates_alike op x y n (below x y n less (omega (arith, ints)))))
    (λ (not_less : (n <ℤ x) ⊎ (x ≡ n)). ⊎_elim
    (λ (more : n <ℤ x). by_lt_z n z
    (λ past. (z, omega (arith, ints), mid, holds, λ y zy yx. relates_alike op x y n (above x y n more (omega (arith, ints)))))
    (λ under. (n +ℤ pos 1, omega (arith, ints), omega (arith, ints), tried.1 (omega (arith, ints)) (omega (arith, ints)), λ y zy yx. relates_alike op x y n (above x y n more (omega (arith, ints))))))
    (λ (same : x ≡ n). (x, mid, omega (arith, ints), subst F (sym same) (tried.0 (omega (arith, ints)) (omega (arith, ints))), λ y zy yx. ap (λ v. relates op v n) (between x y zy yx)))
    not_less)
    (sides x n)
step F least greatest x z low mid high holds (test.Variant v) tried = (z, omega (arith, ints), mid, holds, λ y zy yx. refl)
step F least greatest x z low mid high holds (test.Text t) tried = (z, omega (arith, ints), mid, holds, λ y zy yx. refl)

over_tests : (F : ℤ → Type 0) (least greatest x z : ℤ) → least ≤ℤ z → z ≤ℤ x → x ≤ℤ greatest → F z → (ts : List Test) → AllByRecursion (Tried F least greatest) ts → Near F x z (λ y. AllByRecursion (Settled x y) ts)
over_tests F least greatest x z low mid high holds [] tried = (z, omega (arith, ints), mid, holds, tt)
over_tests F least greatest x z low mid high holds (t ∷ ts) tried =
    let s = step F least greatest x z low mid high holds t tried.0 in
    let r = over_tests F least greatest x s.0 (omega (arith, ints, s.1)) s.2 high s.3 ts tried.1 in
    (r.0, omega (arith, ints, s.1, r.1), r.2, r.3, (raise x s.0 r.0 r.1 t s.4, r.4))

over_context : (F : ℤ → Type 0) (least greatest x z : ℤ) → least ≤ℤ z → z ≤ℤ x → x ≤ℤ greatest → F z → (given : Context) → EachTest (Tried F least greatest) given → Near F x z (λ y. EachTest (Settled x y) given)
over_context F least greatest x z low mid high holds [] tried = (z, omega (arith, ints), mid, holds, tt)
over_context F least greatest x z low mid high holds (a ∷ given) tried =
    let s = over_tests F least greatest x z low mid high holds a.atom.tests tried.0 in
    let r = over_context F least greatest x s.0 (omega (arith, ints, s.1)) s.2 high s.3 given tried.1 in
    (r.0, omega (arith, ints, s.1, r.1), r.2, r.3, (each_map (raise x s.0 r.0 r.1) a.atom.tests s.4, r.4))

-- What holds of the least number and of the numbers that are tried holds of one within the bounds on which the same tests are true as on x.
abbrev pub Like : (ℤ → Type 0) → ℤ → ℤ → List Test → Type 0
Like F least x tests = (y : ℤ) × (least ≤ℤ y) × (y ≤ℤ x) × F y × AllByRecursion (λ t. test_holds (datum.Number x) t ≡ test_holds (datum.Number y) t) tests

pub a_number_like : (F : ℤ → Type 0) (least greatest x : ℤ) → least ≤ℤ x → x ≤ℤ greatest → F least → (tests : List Test) → AllByRecursion (Tried F least greatest) tests → Like F least x tests
a_number_like F least greatest x low high holds tests tried =
    let r = over_tests F least greatest x least (omega (arith, ints)) low high holds tests tried in
    let P : Test → Type 0 = λ t. test_holds (datum.Number x) t ≡ test_holds (datum.Number r.0) t in
    let at_last : (t : Test) → Settled x r.0 t → P t = λ t settled. settled r.0 (omega (arith, ints)) r.2 in
    (r.0, r.1, r.2, r.3, each_map at_last tests r.4)

-- two tests that pass, in front of one that doesn't
third : (a b c : Bool) → (a && (b && c)) ≡ false → a ≡ true → b ≡ true → c ≡ false
third true true c h a b = h
third true false c h a b = cc
third false b c h a b' = cc

-- A number has not all truths.
abbrev Fails : Context → ℤ → Type 0
Fails es y = meets_all es (Some (datum.Number y)) ≡ false

tried_of : (es : Context) (least greatest : ℤ) (t : Test) → tested_meets (Numbers least greatest) es t ≡ false → Tried (Fails es) least greatest t
tried_of es least greatest (test.Number op n) tried =
    let parts = or_parts (number_meets least greatest es n) (next_meets least greatest es n) tried in (
      λ low high. third (int_le least n) (int_le n greatest) (meets_all es (Some (datum.Number n))) parts.0 (le_true least n low) (le_true n greatest high),
      λ low under. third (int_lt n greatest) (int_le least (n +ℤ pos 1)) (meets_all es (Some (datum.Number (n +ℤ pos 1)))) parts.1 (lt_true n greatest under) (le_true least (n +ℤ pos 1) low),
    )
tried_of es least greatest (test.Variant v) tried = tt
tried_of es least greatest (test.Text t) tried = tt

-- a test that is true of none
pub none_each : {X : Type 0} (p : X → Bool) (xs : List X) → list_any p xs ≡ false → AllByRecursion (λ x. p x ≡ false) xs
none_each p [] h = tt
none_each p (x ∷ xs) h = let parts = or_parts (p x) (list_any p xs) h in (parts.0, none_each p xs parts.1)

-- Where none of the numbers that are tried has all truths, no number within the bounds has.
pub no_number : (es : Context) (least greatest x : ℤ) → least ≤ℤ x → x ≤ℤ greatest → number_meets least greatest es least ≡ false → some_test (tested_meets (Numbers least greatest) es) es ≡ false → meets_all es (Some (datum.Number x)) ≡ false
no_number es least greatest x low high first tried =
    let fails = third (int_le least least) (int_le least greatest) _ first (le_true least least (omega (arith, ints))) (le_true least greatest (omega (arith, ints))) in
    let meets = tested_meets (Numbers least greatest) es in
    let each_of : (a : Assumption) → list_any meets a.atom.tests ≡ false → AllByRecursion (Tried (Fails es) least greatest) a.atom.tests = λ a none. each_map (tried_of es least greatest) a.atom.tests (none_each meets a.atom.tests none) in
    let r = over_context (Fails es) least greatest x least (omega (arith, ints)) low high fails es (each_map each_of es (none_each (λ (a : Assumption). list_any meets a.atom.tests) es tried)) in
    let P : Test → Type 0 = λ t. test_holds (datum.Number x) t ≡ test_holds (datum.Number r.0) t in
    let at_last : (t : Test) → Settled x r.0 t → P t = λ t settled. settled r.0 (omega (arith, ints)) r.2 in
    let of_one : (a : Assumption) → AllByRecursion (Settled x r.0) a.atom.tests → AllByRecursion P a.atom.tests = λ a h. each_map at_last a.atom.tests h in
    meets_same (datum.Number x) (datum.Number r.0) es (each_map of_one es r.4) ∙ r.3
