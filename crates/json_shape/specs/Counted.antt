-- Reading with a count that goes on from one place to the next, in the order in which they are visited.
use Rattle.std.specs.Prelude.{ℕ, ◌+◌, List, [], ◌∷◌, Result, Ok}
use Rattle.serde_json.specs.Data.{Data}
use Rattle.key_table.specs.Answers as answers
use Rattle.json_shape.specs.declared.error.ShapeError.{ShapeError}
use Rattle.json_shape.specs.Paths.{item_step}

-- what is read after so much was counted, and how much was counted then
abbrev pub Reading : Type 0 → Type 0 → Type 0
Reading S X = S → Result (X × S) ShapeError

-- what is read second, after what was counted at the first
infixl 10 ◌>>=◌
abbrev pub ◌>>=◌ : {S A B : Type 0} → Reading S A → (A → Reading S B) → Reading S B
(reading >>= next) s = answers.◌>>=◌ (reading s) (λ x. next x.0 x.1)

-- a value, with nothing counted for it
abbrev pub pure : {S A : Type 0} → A → Reading S A
pure x s = Ok (x, s)

-- what is read with nothing counted for it
abbrev pub plain : {S A : Type 0} → Result A ShapeError → Reading S A
plain right s = answers.◌>>=◌ right (λ x. Ok (x, s))

-- what the JSON at a path is and how much was counted then, or its first fault
abbrev pub Reader : Type 0 → Type 0 → Type 0
Reader S X = List ℕ → Data → Reading S X

-- each of these, which are the items of the array at a path from a number on
unfoldable pub each : {S X : Type 0} → Reader S X → List ℕ → ℕ → List Data → Reading S (List X)
each read path i [] = pure []
each read path i (d ∷ ds) = do
  x ← read (item_step path i) d
  xs ← each read path (i + 1) ds
  pure (x ∷ xs)
