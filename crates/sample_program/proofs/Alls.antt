-- What holds of each item of a list.
use Rattle.std.proofs.Common.{◌≡◌, ℕ, zero, suc, ◌≤◌, ◌⊎◌, List, [], ◌∷◌, ◌++◌, length, take, Option, Some, None, slice_get, refl, subst, suc-le-suc, zero-le, arith}
use Rattle.std.specs.List.{AllByRecursion, Contains, cons_option, filter_map, flat_map}
use Rattle.std.specs.Option.{option_to_list}

-- An item is one of these.
abbrev pub Among : {X : Type 0} → List X → X → Type 0
Among [] a = ⊥
Among (x ∷ xs) a = (a ≡ x) ⊎ Among xs a

pub all_at : {X : Type 0} (P : X → Type 0) (xs : List X) (k : ℕ) (x : X) → AllByRecursion P xs → slice_get xs k ≡ Some x → P x
all_at P [] k x all is = cc
all_at P (y ∷ ys) zero x all is = let same : y ≡ x = cc in subst P same all.0
all_at P (y ∷ ys) (suc k) x all is = all_at P ys k x all.1 is

pub all_append : {X : Type 0} (P : X → Type 0) (xs ys : List X) → AllByRecursion P xs → AllByRecursion P ys → AllByRecursion P (xs ++ ys)
all_append P [] ys first second = second
all_append P (x ∷ xs) ys first second = (first.0, all_append P xs ys first.1 second)

pub all_joined : {X Y : Type 0} (P : Y → Type 0) (f : X → List Y) (xs : List X) → AllByRecursion (λ x. AllByRecursion P (f x)) xs → AllByRecursion P (flat_map f xs)
all_joined P f [] all = tt
all_joined P f (x ∷ xs) all = all_append P (f x) (flat_map f xs) all.0 (all_joined P f xs all.1)

pub all_taken : {X : Type 0} (P : X → Type 0) (k : ℕ) (xs : List X) → AllByRecursion P xs → AllByRecursion P (take k xs)
all_taken P zero [] all = tt
all_taken P zero (x ∷ xs) all = tt
all_taken P (suc k) [] all = tt
all_taken P (suc k) (x ∷ xs) all = (all.0, all_taken P k xs all.1)

pub all_found : {X : Type 0} (P : X → Type 0) (xs : List X) (k : ℕ) → AllByRecursion P xs → AllByRecursion P (option_to_list (slice_get xs k))
all_found P [] k all = tt
all_found P (x ∷ xs) zero all = (all.0, tt)
all_found P (x ∷ xs) (suc k) all = all_found P xs k all.1

-- what holds of each item holds of those that are picked by numbers
pub all_picked : {X : Type 0} (P : X → Type 0) (xs : List X) (numbers : List ℕ) → AllByRecursion P xs → AllByRecursion P (filter_map (slice_get xs) numbers)
all_picked P xs [] all = tt
all_picked P xs (n ∷ numbers) all =
    elim (slice_get xs n) as (λ o. slice_get xs n ≡ o → AllByRecursion P (cons_option o (filter_map (slice_get xs) numbers))) [
      | None ↦ (λ is. all_picked P xs numbers all)
      | Some x ↦ (λ is. (all_at P xs n x all is, all_picked P xs numbers all))
    ] refl

pub length_picked : {X Y : Type 0} (f : X → Option Y) (xs : List X) → length (filter_map f xs) ≤ length xs
length_picked f [] = zero-le
length_picked f (x ∷ xs) =
    let rest : length (filter_map f xs) ≤ length xs = length_picked f xs in
    elim (f x) as (λ o. length (cons_option o (filter_map f xs)) ≤ suc (length xs)) [
      | None ↦ omega arith
      | Some y ↦ suc-le-suc rest
    ]

-- what holds of each item that a list contains holds of each of its items, and the other way round
pub all_contained : {X : Type 0} (P : X → Type 0) (xs : List X) → ((x : X) → Contains xs x → P x) → AllByRecursion P xs
all_contained P [] each = tt
all_contained P (y ∷ ys) each =
    (each y (zero, suc-le-suc zero-le, refl), all_contained P ys (λ x (k, within, is). each x (suc k, suc-le-suc within, is)))

pub contained_all : {X : Type 0} (P : X → Type 0) (xs : List X) (x : X) → AllByRecursion P xs → Contains xs x → P x
contained_all P [] x all (k, within, is) = absurd (omega arith)
contained_all P (y ∷ ys) x all (zero, within, is) = subst P is all.0
contained_all P (y ∷ ys) x all (suc k, within, is) = contained_all P ys x all.1 (k, omega arith, is)
