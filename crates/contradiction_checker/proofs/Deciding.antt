-- Tests that decide facts, over lists and options.
use Rattle.std.proofs.Common.{◌≡◌, ℕ, zero, suc, inl, inr, ⊎_elim, List, [], ◌∷◌, Bool, true, false, Option, Some, None, slice_get}
use Rattle.std.specs.List.{list_any, list_all, AllByRecursion, Contains}
use Rattle.std.proofs.lemmas.List.Elements.{All-contains}
use Rattle.std.proofs.lemmas.List.Sums.{AllPass-from_list_all}
use Rattle.std.specs.Option.{option_map_or, IsSomeAnd}
use Rattle.std.proofs.lemmas.Bool.{and_parts, and_cases, or_parts, or_cases}
use Rattle.rule_problem.specs.Quantifiers.{AnyByRecursion}

-- A test is true where the fact holds, and false where it doesn't.
abbrev pub Exact : Bool → Type 0 → Type 0
Exact b P = (b ≡ true → P) × (b ≡ false → P → ⊥)

pub any_exact : {X : Type 0} (f : X → Bool) (P : X → Type 0) → ((x : X) → Exact (f x) (P x)) → (xs : List X) → Exact (list_any f xs) (AnyByRecursion P xs)
any_exact f P exact [] = (λ h. cc, λ h none. none)
any_exact f P exact (x ∷ xs) =
    let rest = any_exact f P exact xs in (
      λ h. ⊎_elim (λ (here : f x ≡ true). inl ((exact x).0 here)) (λ (later : list_any f xs ≡ true). inr (rest.0 later)) (or_cases (f x) (list_any f xs) h),
      λ h some. let parts = or_parts (f x) (list_any f xs) h in ⊎_elim (λ (here : P x). (exact x).1 parts.0 here) (λ (later : AnyByRecursion P xs). rest.1 parts.1 later) some,
    )

pub all_exact : {X : Type 0} (f : X → Bool) (P : X → Type 0) → ((x : X) → Exact (f x) (P x)) → (xs : List X) → Exact (list_all f xs) (AllByRecursion P xs)
all_exact f P exact [] = (λ h. tt, λ h all. cc)
all_exact f P exact (x ∷ xs) =
    let rest = all_exact f P exact xs in (
      λ h. let parts = and_parts (f x) (list_all f xs) h in ((exact x).0 parts.0, rest.0 parts.1),
      λ h all. ⊎_elim (λ (here : f x ≡ false). (exact x).1 here all.0) (λ (later : list_all f xs ≡ false). rest.1 later all.1) (and_cases (f x) (list_all f xs) h),
    )

pub some_exact : {X : Type 0} (f : X → Bool) (P : X → Type 0) → ((x : X) → Exact (f x) (P x)) → (o : Option X) → Exact (option_map_or f o false) (IsSomeAnd o P)
some_exact f P exact None = (λ h. cc, λ h none. none)
some_exact f P exact (Some x) = exact x

-- A test that is true of all is true of the one at a place.
abbrev pub OfSome : {X : Type 0} → (X → Bool) → Option X → Type 0
OfSome f None = Unit {0}
OfSome f (Some x) = f x ≡ true

pub all_at : {X : Type 0} (f : X → Bool) (xs : List X) (i : ℕ) → list_all f xs ≡ true → OfSome f (slice_get xs i)
all_at f [] i h = tt
all_at f (x ∷ xs) zero h = (and_parts (f x) (list_all f xs) h).0
all_at f (x ∷ xs) (suc i) h = all_at f xs i (and_parts (f x) (list_all f xs) h).1

pub some_exact_of : {X : Type 0} (f g : X → Bool) (P : X → Type 0) → ((x : X) → g x ≡ true → Exact (f x) (P x)) → (o : Option X) → OfSome g o → Exact (option_map_or f o false) (IsSomeAnd o P)
some_exact_of f g P exact None of = (λ h. cc, λ h none. none)
some_exact_of f g P exact (Some x) of = exact x of

-- A test that is true of all is true of one that stands there.
pub list_all-contains : {X : Type 0} (f : X → Bool) (xs : List X) (x : X) → list_all f xs ≡ true → Contains xs x → f x ≡ true
list_all-contains f xs x all there = All-contains (λ y. f y ≡ true) xs x (AllPass-from_list_all f xs all) there
