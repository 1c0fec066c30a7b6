-- Digits without a plus sign and without a leading zero.
use Rattle.std.specs.Prelude.{ℕ, List, [], ◌∷◌, length, Bool, false, not, ◌&&◌, ◌||◌, ◌==◌}

abbrev pub is_unpadded : List ℕ → Bool
is_unpadded [] = false
is_unpadded (d ∷ ds) = not (d == 43) && (not (d == 48) || length (d ∷ ds) == 1)
