-- Values on which the same tests are true have the same truths.
use Rattle.std.proofs.Common.{◌≡◌, List, [], ◌∷◌, Bool, not, ◌&&◌, cond, Some, refl, ap}
use Rattle.std.specs.List.{list_any, AllByRecursion}
use Rattle.std.specs.Bool.{beq}
use Rattle.key_table.specs.declared.atom.Test.{Test}
use Rattle.key_table.specs.declared.slot.Datum.{Datum}
use Rattle.key_table.specs.Atoms.{test_holds}
use Rattle.key_table.specs.Contexts.{Assumption, Context}
use Rattle.contradiction_checker.specs.Tries.{meets_all}

-- what holds of each test of each assumption
abbrev pub EachTest : (Test → Type 0) → Context → Type 0
EachTest P assumptions = AllByRecursion (λ (a : Assumption). AllByRecursion P a.atom.tests) assumptions

pub any_same : {X : Type 0} (f g : X → Bool) (xs : List X) → AllByRecursion (λ x. f x ≡ g x) xs → list_any f xs ≡ list_any g xs
any_same f g [] h = refl
any_same f g (x ∷ xs) h = rw (h.0, any_same f g xs h.1) refl

pub each_map : {X : Type 0} {P Q : X → Type 0} → ((x : X) → P x → Q x) → (xs : List X) → AllByRecursion P xs → AllByRecursion Q xs
each_map f [] h = tt
each_map f (x ∷ xs) h = (f x h.0, each_map f xs h.1)

-- Two values with the same tests true have the same truths.
pub meets_same : (d e : Datum) (es : Context) → EachTest (λ t. test_holds d t ≡ test_holds e t) es → meets_all es (Some d) ≡ meets_all es (Some e)
meets_same d e [] h = refl
meets_same d e (a ∷ es) h =
    let tests = any_same (test_holds d) (test_holds e) a.atom.tests h.0 in
    let here = ap (λ (b : Bool). beq (cond a.atom.none_of (not b) b) a.truth) tests in
    rw (meets_same d e es h.1) (ap (λ (b : Bool). b && meets_all es (Some e)) here)
