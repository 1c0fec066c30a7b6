-- Tests of the items of a list.
use Rattle.std.proofs.Common.{◌≡◌, ℕ, ◌+◌, ◌≤◌, ◌<◌, suc, max, List, [], ◌∷◌, map, Bool, true, false, ◌&&◌, leb, ◌⊎◌, inl, inr, refl, ap, sym, ◌∙◌, arith, add-one}
use Rattle.std.specs.List.{list_all, flat_map, fold, AllByRecursion}
use Rattle.std.proofs.Math.Bool.{and-true}
use Rattle.std.proofs.Math.Dec.{leb-suc-suc}
use Rattle.std.proofs.lemmas.Bool.{le-leb, lt-leb, and_parts}
use Rattle.std.proofs.lemmas.Bool.Decides.{leb_tells}
use Rattle.std.proofs.lemmas.List.Folds.{list_all-append}

-- what a test says of each item
pub all_from : {X : Type 0} (f : X → Bool) (P : X → Type 0) → ((x : X) → f x ≡ true → P x) → (xs : List X) → list_all f xs ≡ true → AllByRecursion P xs
all_from f P each [] fits = tt
all_from f P each (x ∷ xs) fits = let parts = and_parts (f x) (list_all f xs) fits in (each x parts.0, all_from f P each xs parts.1)

exchanged : (a b c d : Bool) → ((a && b) && (c && d)) ≡ ((a && c) && (b && d))
exchanged false b c d = refl
exchanged true true c d = refl
exchanged true false true d = refl
exchanged true false false d = refl

regrouped : (a b c : Bool) → ((a && b) && c) ≡ (a && (b && c))
regrouped true b c = refl
regrouped false b c = refl

-- two tests of each item
pub list_all-both : {X : Type 0} (f g : X → Bool) (xs : List X) → list_all (λ x. f x && g x) xs ≡ (list_all f xs && list_all g xs)
list_all-both f g [] = refl
list_all-both f g (x ∷ xs) = ap (λ b. (f x && g x) && b) (list_all-both f g xs) ∙ exchanged (f x) (g x) (list_all f xs) (list_all g xs)

-- a test of each item of each list
pub list_all-flat_map : {X Y : Type 0} (f : Y → Bool) (lists : X → List Y) (xs : List X) → list_all f (flat_map lists xs) ≡ list_all (λ x. list_all f (lists x)) xs
list_all-flat_map f lists [] = refl
list_all-flat_map f lists (x ∷ xs) = list_all-append f (lists x) (flat_map lists xs) ∙ ap (λ b. list_all f (lists x) && b) (list_all-flat_map f lists xs)

pub leb-add_one : (n m : ℕ) → leb (n + 1) (suc m) ≡ leb n m
leb-add_one n m = ap (λ k. leb k (suc m)) (add-one n) ∙ leb-suc-suc n m

leb_max-by : (a b m : ℕ) → ((leb a m ≡ true) × (a ≤ m)) ⊎ ((leb a m ≡ false) × (m < a)) → ((leb b m ≡ true) × (b ≤ m)) ⊎ ((leb b m ≡ false) × (m < b)) → leb (max a b) m ≡ (leb a m && leb b m)
leb_max-by a b m (inl (p, h)) (inl (q, g)) = rw (p, q) (le-leb (max a b) m (omega (arith, h, g)))
leb_max-by a b m (inl (p, h)) (inr (q, g)) = rw (p, q) (lt-leb (max a b) m (omega (arith, g)))
leb_max-by a b m (inr (p, h)) other = rw p (lt-leb (max a b) m (omega (arith, h)))

leb_max : (a b m : ℕ) → leb (max a b) m ≡ (leb a m && leb b m)
leb_max a b m = leb_max-by a b m (leb_tells a m) (leb_tells b m)

-- the largest of some numbers is at most so much
pub leb-fold_max : {X : Type 0} (f : X → ℕ) (m a : ℕ) (xs : List X) → leb (fold max a (map f xs)) m ≡ (leb a m && list_all (λ x. leb (f x) m) xs)
leb-fold_max f m a [] = sym (and-true (leb a m))
leb-fold_max f m a (x ∷ xs) =
    leb-fold_max f m (max a (f x)) xs ∙ ap (λ b. b && list_all (λ y. leb (f y) m) xs) (leb_max a (f x) m) ∙ regrouped (leb a m) (leb (f x) m) (list_all (λ y. leb (f y) m) xs)
