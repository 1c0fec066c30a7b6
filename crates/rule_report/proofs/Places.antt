-- Tests over lists of lists, and the first place at which a test passes.
use Rattle.std.proofs.Common.{◌≡◌, ℕ, zero, suc, ◌+◌, ◌<◌, nat_lt, List, [], ◌∷◌, length, take, map, Bool, true, false, not, ◌&&◌, ◌||◌, cond, Option, Some, None, option_map, refl, ap, sym, ◌∙◌, slice_get, position, arith}
use Rattle.std.specs.List.{list_any, flat_map, position_or_len}
use Rattle.std.specs.Option.{option_map_or}
use Rattle.std.proofs.lemmas.List.Folds.{list_any-append}
use Rattle.std.proofs.lemmas.Bool.{false≢true}
use Rattle.std.proofs.lemmas.Grind.{common_steps}

pub list_any-map : {X Y : Type 0} (p : Y → Bool) (f : X → Y) (xs : List X) → list_any p (map f xs) ≡ list_any (λ x. p (f x)) xs
list_any-map p f [] = refl
list_any-map p f (x ∷ xs) = ap (λ b. p (f x) || b) (list_any-map p f xs)

pub list_any-flat_map : {X Y : Type 0} (p : Y → Bool) (f : X → List Y) (xs : List X) → list_any p (flat_map f xs) ≡ list_any (λ x. list_any p (f x)) xs
list_any-flat_map p f [] = refl
list_any-flat_map p f (x ∷ xs) = list_any-append p (f x) (flat_map f xs) ∙ ap (λ b. list_any p (f x) || b) (list_any-flat_map p f xs)

-- the place of the first that passes, by cases
abbrev pub first : {X : Type 0} → (X → Bool) → List X → Option ℕ
first p [] = None
first p (x ∷ xs) = cond (p x) (Some 0) (option_map (λ n. suc n) (first p xs))

lt-suc : (q n : ℕ) → nat_lt (1 + q) (suc n) ≡ nat_lt q n
lt-suc q n = grind (arith, common_steps)

lt-zero : (n : ℕ) → nat_lt 0 (suc n) ≡ true
lt-zero n = grind (arith, common_steps)

abbrev nowhere : Option ℕ
nowhere = None

next : (b c : Bool) (q : ℕ) → cond (cond b true c) (Some (cond b 0 (1 + q))) None ≡ cond b (Some 0) (option_map (λ n. suc n) (cond c (Some q) None))
next true c q = refl
next false true q = ap {A = ℕ} (λ n. Some n) (omega arith)
next false false q = refl

step : (b : Bool) (q n : ℕ) → cond (nat_lt (cond (not b) (1 + q) 0) (suc n)) (Some (cond (not b) (1 + q) 0)) None ≡ cond b (Some 0) (option_map (λ n. suc n) (cond (nat_lt q n) (Some q) None))
step true q n = ap (λ b. cond b (Some 0) None) (lt-zero n)
step false q n = ap (λ b. cond b (Some (1 + q)) None) (lt-suc q n) ∙ next false (nat_lt q n) q

pub position-first : {X : Type 0} (p : X → Bool) (xs : List X) → position p xs ≡ first p xs
position-first p [] = refl
position-first p (x ∷ xs) = step (p x) (position_or_len p xs) (length xs) ∙ ap (λ o. cond (p x) (Some 0) (option_map (λ n. suc n) o)) (position-first p xs)

and-false : (b : Bool) → (b && false) ≡ true → ⊥
and-false true h = absurd (false≢true h)
and-false false h = absurd (false≢true h)

map-zero : (o : Option ℕ) → option_map (λ n. suc n) o ≡ Some 0 → ⊥
map-zero None h = cc
map-zero (Some n) h = cc

map-suc : (o : Option ℕ) (k : ℕ) → option_map (λ n. suc n) o ≡ Some (suc k) → o ≡ Some k
map-suc None k h = cc
map-suc (Some n) k h = cc

-- The one with a number passes, and none before it.
abbrev pub passes-first : {X : Type 0} → (X → Bool) → List X → ℕ → Bool
passes-first p xs k = option_map_or p (slice_get xs k) true && not (list_any p (take k xs))

to-first : {X : Type 0} (p : X → Bool) (xs : List X) (k : ℕ) → k < length xs → passes-first p xs k ≡ true → first p xs ≡ Some k
to-first p [] k within h = absurd (omega arith)
to-first p (x ∷ xs) zero within h = elim (p x) as (λ b. (b && true) ≡ true → cond b (Some 0) (option_map (λ n. suc n) (first p xs)) ≡ Some 0) [ true ↦ (λ g. refl) | false ↦ (λ g. absurd (false≢true g)) ] h
to-first p (x ∷ xs) (suc k) within h =
    elim (p x) as (λ b. (option_map_or p (slice_get xs k) true && not (b || list_any p (take k xs))) ≡ true → cond b (Some 0) (option_map (λ n. suc n) (first p xs)) ≡ Some (suc k)) [
      | true ↦ (λ g. absurd (and-false (option_map_or p (slice_get xs k) true) g))
      | false ↦ (λ g. ap (option_map (λ n. suc n)) (to-first p xs k (omega arith) g))
    ] h

from-first : {X : Type 0} (p : X → Bool) (xs : List X) (k : ℕ) → first p xs ≡ Some k → passes-first p xs k ≡ true
from-first p [] k h = absurd (empty-first k h)
  where
    empty-first : (k : ℕ) → None ≡ Some k → ⊥
    empty-first k h = cc
from-first p (x ∷ xs) zero h = elim (p x) as (λ b. cond b (Some 0) (option_map (λ n. suc n) (first p xs)) ≡ Some 0 → (b && true) ≡ true) [ true ↦ (λ g. refl) | false ↦ (λ g. absurd (map-zero (first p xs) g)) ] h
from-first p (x ∷ xs) (suc k) h =
    elim (p x) as (λ b. cond b (Some 0) (option_map (λ n. suc n) (first p xs)) ≡ Some (suc k) → (option_map_or p (slice_get xs k) true && not (b || list_any p (take k xs))) ≡ true) [
      | true ↦ (λ g. absurd (zero-suc k g))
      | false ↦ (λ g. from-first p xs k (map-suc (first p xs) k g))
    ] h
  where
    zero-suc : (k : ℕ) → Some 0 ≡ Some (suc k) → ⊥
    zero-suc k g = cc

to-none : {X : Type 0} (p : X → Bool) (xs : List X) → not (list_any p xs) ≡ true → first p xs ≡ None
to-none p [] h = refl
to-none p (x ∷ xs) h = elim (p x) as (λ b. not (b || list_any p xs) ≡ true → cond b (Some 0) (option_map (λ n. suc n) (first p xs)) ≡ None) [
  | true ↦ (λ g. absurd (false≢true g))
  | false ↦ (λ g. ap (option_map (λ n. suc n)) (to-none p xs g))
] h

map-none : (o : Option ℕ) → option_map (λ n. suc n) o ≡ None → o ≡ None
map-none None h = refl
map-none (Some n) h = cc

from-none : {X : Type 0} (p : X → Bool) (xs : List X) → first p xs ≡ None → not (list_any p xs) ≡ true
from-none p [] h = refl
from-none p (x ∷ xs) h = elim (p x) as (λ b. cond b (Some 0) (option_map (λ n. suc n) (first p xs)) ≡ None → not (b || list_any p xs) ≡ true) [
  | true ↦ (λ g. absurd (some-none g))
  | false ↦ (λ g. from-none p xs (map-none (first p xs) g))
] h
  where
    some-none : Some 0 ≡ nowhere → ⊥
    some-none g = cc

-- A place is that of the first that passes exactly where the one there passes and none before it.
pub position-to : {X : Type 0} (p : X → Bool) (xs : List X) (k : ℕ) → k < length xs → passes-first p xs k ≡ true → position p xs ≡ Some k
position-to p xs k within h = position-first p xs ∙ to-first p xs k within h

pub position-from : {X : Type 0} (p : X → Bool) (xs : List X) (k : ℕ) → position p xs ≡ Some k → passes-first p xs k ≡ true
position-from p xs k h = from-first p xs k (sym (position-first p xs) ∙ h)

-- There is no such place exactly where none passes.
pub no-position-to : {X : Type 0} (p : X → Bool) (xs : List X) → not (list_any p xs) ≡ true → position p xs ≡ None
no-position-to p xs h = position-first p xs ∙ to-none p xs h

pub no-position-from : {X : Type 0} (p : X → Bool) (xs : List X) → position p xs ≡ None → not (list_any p xs) ≡ true
no-position-from p xs h = from-none p xs (sym (position-first p xs) ∙ h)
