-- The path before a step is shorter than the path with the step, so that each walk to the root ends.
use Rattle.std.specs.Prelude.{ℕ, suc, ◌+◌, ◌≤◌, max, List, [], ◌∷◌, ◌++◌, length, decimal}
use Rattle.std.proofs.Common.{suc-le-suc, zero-le, add-one, sym, ◌∙◌, subst}
use Rattle.std.proofs.Math.Nat.{max-zero}
use Rattle.json_shape.specs.declared.path.Step.{Step}
use Rattle.json_shape.specs.declared.path.Step.TheVariants.{Root, Name, Item}
use Rattle.json_shape.specs.declared.path.Path.TheDeep.{deep-Step}
use Rattle.json_shape.specs.Paths.{escaped}
use Rattle.json_shape.specs.PathViews.{pointer_of}

-- Bytes are shorter than they are with a byte more and what follows.
shorter : (front : List ℕ) (c : ℕ) (rest : List ℕ) → suc (length front) ≤ length (front ++ c ∷ rest)
shorter [] c rest = suc-le-suc zero-le
shorter (x ∷ front) c rest = suc-le-suc (shorter front c rest)

-- One more than a length, as the depth of a step counts it.
depth-le : (n m : ℕ) → suc n ≤ m → max (max (n + 1) 0) 0 ≤ m
depth-le n m below =
    let P : ℕ → Type 0 = λ k. k ≤ m in
    subst P (sym (max-zero (max (n + 1) 0) ∙ max-zero (n + 1) ∙ add-one n)) below

-- The depth of a step is at most the length of its pointer.
pub before_is_shorter : (s : Step) → max (deep-Step s) 0 ≤ length (pointer_of s)
before_is_shorter (Root alloc) = zero-le
before_is_shorter (Name before name) = depth-le (length before.now) _ (shorter before.now 47 (escaped name.now))
before_is_shorter (Item before number) = depth-le (length before.now) _ (shorter before.now 47 (decimal number))
