-- Reading the items of an array, one after another.
use Rattle.std.specs.Prelude.{ℕ, ◌+◌, List, [], ◌∷◌, Result, Ok}
use Rattle.serde_json.specs.Data.{Data}
use Rattle.key_table.specs.Answers.{◌>>=◌}
use Rattle.json_shape.specs.declared.error.ShapeError.{ShapeError}
use Rattle.json_shape.specs.Paths.{item_step}

-- what the JSON at a path is, or its first fault
abbrev pub Reader : Type 0 → Type 0
Reader X = List ℕ → Data → Result X ShapeError

-- each of these, which are the items of the array at a path from a number on
unfoldable pub each : {X : Type 0} → Reader X → List ℕ → ℕ → List Data → Result (List X) ShapeError
each read path i [] = Ok []
each read path i (d ∷ ds) = do
  x ← read (item_step path i) d
  xs ← each read path (i + 1) ds
  Ok (x ∷ xs)
