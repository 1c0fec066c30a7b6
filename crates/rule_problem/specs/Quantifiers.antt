-- What holds of some item of a list.
use Rattle.std.specs.Prelude.{List, [], ◌∷◌, ◌⊎◌}

-- Some item is such a one.
abbrev pub AnyByRecursion : {X : Type 0} → (X → Type 0) → List X → Type 0
AnyByRecursion P [] = ⊥
AnyByRecursion P (x ∷ xs) = P x ⊎ AnyByRecursion P xs
