-- What holds of all items of a list.
use Rattle.std.proofs.Common.{◌≡◌, ℕ, zero, suc, List, [], ◌∷◌, ◌++◌, map, Some, slice_get, subst}
use Rattle.std.specs.List.{All, flat_map}
use Rattle.std.proofs.lemmas.List.Elements.{All-nil, All-cons, All-head, All-tail}

pub all_left : {X : Type 0} (P : X → Type 0) (xs ys : List X) → All P (xs ++ ys) → All P xs
all_left P [] ys h = All-nil P
all_left P (x ∷ xs) ys h = All-cons P x xs (All-head P x (xs ++ ys) h) (all_left P xs ys (All-tail P x (xs ++ ys) h))

pub all_right : {X : Type 0} (P : X → Type 0) (xs ys : List X) → All P (xs ++ ys) → All P ys
all_right P [] ys h = h
all_right P (x ∷ xs) ys h = all_right P xs ys (All-tail P x (xs ++ ys) h)

pub each_flat : {X Y : Type 0} (P : Y → Type 0) (f : X → List Y) (xs : List X) → All P (flat_map f xs) → All (λ x. All P (f x)) xs
each_flat P f [] h = All-nil (λ x. All P (f x))
each_flat P f (x ∷ xs) h = All-cons (λ x. All P (f x)) x xs (all_left P (f x) (flat_map f xs) h) (each_flat P f xs (all_right P (f x) (flat_map f xs) h))

pub from_map : {X Y : Type 0} (P : Y → Type 0) (f : X → Y) (xs : List X) → All P (map f xs) → All (λ x. P (f x)) xs
from_map P f [] h = All-nil (λ x. P (f x))
from_map P f (x ∷ xs) h = All-cons (λ x. P (f x)) x xs (All-head P (f x) (map f xs) h) (from_map P f xs (All-tail P (f x) (map f xs) h))

pub at : {X : Type 0} (P : X → Type 0) (xs : List X) (i : ℕ) (x : X) → All P xs → slice_get xs i ≡ Some x → P x
at P [] i x h is = cc
at P (y ∷ ys) zero x h is = let same : y ≡ x = cc in subst P same (All-head P y ys h)
at P (y ∷ ys) (suc i) x h is = at P ys i x (All-tail P y ys h) is
