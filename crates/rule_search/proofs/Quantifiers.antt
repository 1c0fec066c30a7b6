-- What holds of each item of a list, and of some item, as tests tell it.
use Rattle.std.proofs.Common.{◌≡◌, true, Bool, ltb, slice_get, refl, sym, ℕ, zero, suc, ◌+◌, ◌<◌, ◌≤◌, List, [], ◌∷◌, length, take, get_or, inl, inr, Option, Some, None, subst, take_all, arith}
use Rattle.std.proofs.lemmas.Bool.{ltb-true, and_parts, and_from, or_left, or_right, or_cases, false≢true}
use Rattle.std.proofs.lemmas.Option.{slice_get_read, slice_get_past}
use Rattle.std.proofs.lemmas.List.Elements.{All-more, All-from_recursion, recursion_from_All}
use Rattle.std.specs.Option.{IsSomeAnd}
use Rattle.std.specs.List.{AllByRecursion, list_all, list_any}
use Rattle.rule_problem.specs.Quantifiers.{AnyByRecursion}

module _ {X : Type 0} (P : X → Type 0) (p : X → Bool) where
  pub all_yes : ((x : X) → p x ≡ true → P x) → (xs : List X) → list_all p xs ≡ true → AllByRecursion P xs
  all_yes f [] h = tt
  all_yes f (x ∷ xs) h = let both = and_parts (p x) (list_all p xs) h in (f x both.0, all_yes f xs both.1)

  pub all_back : ((x : X) → P x → p x ≡ true) → (xs : List X) → AllByRecursion P xs → list_all p xs ≡ true
  all_back f [] h = refl
  all_back f (x ∷ xs) h = and_from (p x) (list_all p xs) (f x h.0) (all_back f xs h.1)

  pub any_yes : ((x : X) → p x ≡ true → P x) → (xs : List X) → list_any p xs ≡ true → AnyByRecursion P xs
  any_yes f [] h = absurd (false≢true h)
  any_yes f (x ∷ xs) h = elim (or_cases (p x) (list_any p xs) h) [ inl here ↦ inl (f x here) | inr rest ↦ inr (any_yes f xs rest) ]

  pub any_back : ((x : X) → P x → p x ≡ true) → (xs : List X) → AnyByRecursion P xs → list_any p xs ≡ true
  any_back f [] h = absurd h
  any_back f (x ∷ xs) (inl h) = or_left (p x) (list_any p xs) (f x h)
  any_back f (x ∷ xs) (inr h) = or_right (p x) (list_any p xs) (any_back f xs h)

pub some_weaker : {X : Type 0} (P Q : X → Type 0) → ((x : X) → P x → Q x) → (o : Option X) → IsSomeAnd o P → IsSomeAnd o Q
some_weaker P Q f None h = h
some_weaker P Q f (Some x) h = f x h

-- One item more.
pub taken_more : {X : Type 0} (P : X → Type 0) (xs : List X) (i : ℕ) (d : X) → i < length xs → AllByRecursion P (take i xs) → P (get_or xs i d) → AllByRecursion P (take (i + 1) xs)
taken_more P xs i d within h last = recursion_from_All P (take (i + 1) xs) (All-more P xs i d within (All-from_recursion P (take i xs) h) last)

pub whole : {X : Type 0} (P : X → Type 0) (xs : List X) (i : ℕ) → length xs ≤ i → AllByRecursion P (take i xs) → AllByRecursion P xs
whole P xs i past h = subst (λ ys. AllByRecursion P ys) (take_all i xs past) h

-- the item that stands at a number
pub any_here : {X : Type 0} (P : X → Type 0) (xs : List X) (i : ℕ) (d : X) → i < length xs → P (get_or xs i d) → AnyByRecursion P xs
any_here P [] i d within h = absurd (omega arith)
any_here P (x ∷ xs) zero d within h = inl h
any_here P (x ∷ xs) (suc i) d within h = inr (any_here P xs i d (omega arith) h)

-- the item that a `get` gave
pub got : {X : Type 0} (xs ys : List X) (i : ℕ) (x : X) → true ≡ ltb i (length ys) → x ≡ get_or ys i x → ys ≡ xs → slice_get xs i ≡ Some x
got xs ys i x within is same = rw (sym same) (slice_get_read ys (length ys) i x refl (ltb-true i (length ys) (sym within)) is)

-- what holds of the item at a number, and what holds of none
pub some_from : {X : Type 0} (P : X → Type 0) (o : Option X) (x : X) → o ≡ Some x → P x → IsSomeAnd o P
some_from {X = X} P o x is h = subst (λ (o : Option X). IsSomeAnd o P) (sym is) h

pub some_at : {X : Type 0} (P : X → Type 0) (o : Option X) (x : X) → o ≡ Some x → IsSomeAnd o P → P x
some_at {X = X} P o x is h = subst (λ (o : Option X). IsSomeAnd o P) is h

pub some_item : {X : Type 0} (P : X → Type 0) (o : Option X) → IsSomeAnd o P → (x : X) × (o ≡ Some x) × P x
some_item P None h = absurd h
some_item P (Some x) h = (x, refl, h)

-- where a `get` gave nothing
pub got_none : {X : Type 0} (P : X → Type 0) (xs ys : List X) (i : ℕ) → length ys ≤ i → ys ≡ xs → IsSomeAnd (slice_get xs i) P → ⊥
got_none {X = X} P xs ys i past is h =
    let none : slice_get xs i ≡ None = slice_get_past xs i (subst (λ (zs : List X). length zs ≤ i) is past) in
    subst (λ (o : Option X). IsSomeAnd o P) none h
