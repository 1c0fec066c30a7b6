-- What holds of each item of a list, of some item, or of one that may be there, where something weaker is asked.
use Rattle.std.proofs.Common.{ℕ, zero, suc, List, [], ◌∷◌, inl, inr, Option, Some, None, slice_get}
use Rattle.std.specs.Option.{IsSomeAnd}
use Rattle.std.specs.List.{AllByRecursion}
use Rattle.rule_problem.specs.Quantifiers.{AnyByRecursion}

module _ {X : Type 0} (P Q : X → Type 0) (f : (x : X) → P x → Q x) where
  pub all_weaker : (xs : List X) → AllByRecursion P xs → AllByRecursion Q xs
  all_weaker [] h = tt
  all_weaker (x ∷ xs) h = (f x h.0, all_weaker xs h.1)

  pub any_weaker : (xs : List X) → AnyByRecursion P xs → AnyByRecursion Q xs
  any_weaker [] h = h
  any_weaker (x ∷ xs) (inl h) = inl (f x h)
  any_weaker (x ∷ xs) (inr h) = inr (any_weaker xs h)

  pub some_weaker : (o : Option X) → IsSomeAnd o P → IsSomeAnd o Q
  some_weaker None h = h
  some_weaker (Some x) h = f x h

-- What holds of none by its number holds of none.
pub each_not : {X : Type 0} (P : X → Type 0) (xs : List X) → ((i : ℕ) → IsSomeAnd (slice_get xs i) P → ⊥) → AllByRecursion (λ x. P x → ⊥) xs
each_not P [] none = tt
each_not P (x ∷ xs) none = (none zero, each_not P xs (λ i. none (suc i)))
