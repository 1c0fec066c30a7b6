-- Going on to the false side of the last split whose true side stands.
use Rattle.std.specs.Prelude.{◌≡◌, ℕ, List, [], ◌∷◌, ◌++◌, Bool, true, false}
use Rattle.std.specs.List.{AllByRecursion}
use Rattle.contradiction_checker.specs.declared.options.Assumed.{Assumed}

-- an atom by its number, with a truth
abbrev pub with_truth : ℕ → Bool → Assumed
with_truth atom truth = record { atom = atom; truth = truth }

-- Each assumption is one of a false side.
abbrev pub AreFalse : List Assumed → Type 0
AreFalse assumed = AllByRecursion (λ (a : Assumed). a.truth ≡ false) assumed

-- The last assumption that was true is false now, and those after it are gone.
pub record AreTurned (old new : List Assumed) : Type 0 where
  pub front : List Assumed
  pub atom : ℕ
  pub back : List Assumed
  pub was : old ≡ front ++ with_truth atom true ∷ back
  pub done : AreFalse back
  pub is : new ≡ front ++ with_truth atom false ∷ []

-- Either there was such an assumption, or all were false.
abbrev pub Turns : Bool → List Assumed → List Assumed → Type 0
Turns true old new = AreTurned old new
Turns false old new = AreFalse old
