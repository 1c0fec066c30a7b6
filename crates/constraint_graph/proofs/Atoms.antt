-- The atoms of test nodes.
use Rattle.std.proofs.Common.{◌≡◌, ℕ, zero, suc, ◌<◌, List, [], ◌∷◌, length, get_or, Bool, true, false, Option, Some, None, refl, ap, sym, ◌∙◌, subst, arith, MatchBool}
use Rattle.std.specs.Bool.{IsTrue}
use Rattle.std.specs.List.{Contains, HoldsAt, AllByRecursion, AllWithin, filter_map, cons_option}
use Rattle.std.proofs.lemmas.Bool.{false≢true}

-- what stands in a list stands in the longer list
pub there : {X : Type 0} (x y : X) (xs : List X) → Contains xs y → Contains (x ∷ xs) y
there x y xs h = (suc h.0, omega (arith, h.1), h.2)

-- what is so of each element is so of one after another
pub each_there : {X : Type 0} (P : X → Type 0) (xs : List X) → ((x : X) → Contains xs x → P x) → AllByRecursion P xs
each_there P [] each = tt
each_there P (x ∷ xs) each = (each x (0, omega arith, refl), each_there P xs (λ y in_xs. each y (there x y xs in_xs)))

-- what an element gives stands among what the elements give
pub given : {X Y : Type 0} (h : X → Option Y) (xs : List X) (k : ℕ) (d : X) (y : Y) → k < length xs → h (get_or xs k d) ≡ Some y → Contains (filter_map h xs) y
given h [] k d y within is = absurd (omega arith)
given {X} {Y} h (x ∷ xs) zero d y within is =
    let P : Option Y → Type 0 = λ o. Contains (cons_option o (filter_map h xs)) y in
    subst P (sym is) (0, omega arith, refl)
given {X} {Y} h (x ∷ xs) (suc k) d y within is =
    let rest = given h xs k d y (omega arith) is in
    elim (h x) as (λ (o : Option Y). Contains (cons_option o (filter_map h xs)) y) [ None ↦ rest | Some z ↦ there z y (filter_map h xs) rest ]

-- what stands first the first element gives, and what stands later a later one
at_place : {X Y : Type 0} (h : X → Option Y) (x : X) (xs : List X) (y z : Y) → h x ≡ Some z → (Contains (filter_map h xs) y → (k : ℕ) × (k < length xs) × HoldsAt (λ w. h w ≡ Some y) xs k) → (k : ℕ) → k < length (z ∷ filter_map h xs) → get_or (z ∷ filter_map h xs) k y ≡ y → (j : ℕ) × (j < length (x ∷ xs)) × HoldsAt (λ w. h w ≡ Some y) (x ∷ xs) j
at_place h x xs y z is rest zero within same = (0, omega arith, λ _. is ∙ ap (λ w. Some w) same)
at_place h x xs y z is rest (suc k) within same =
    let r = rest (k, omega arith, same) in
    (suc r.0, omega (arith, r.1), r.2)

-- what stands there some element gives
pub giver : {X Y : Type 0} (h : X → Option Y) (xs : List X) (y : Y) → Contains (filter_map h xs) y → (k : ℕ) × (k < length xs) × HoldsAt (λ x. h x ≡ Some y) xs k
giver h [] y c = absurd (omega (arith, c.1))
giver {X} {Y} h (x ∷ xs) y c =
    elim (h x) as (λ (o : Option Y). h x ≡ o → Contains (cons_option o (filter_map h xs)) y → (k : ℕ) × (k < length (x ∷ xs)) × HoldsAt (λ z. h z ≡ Some y) (x ∷ xs) k) [
      | None ↦ (λ is m. let r = giver h xs y m in (suc r.0, omega (arith, r.1), r.2))
      | Some z ↦ (λ is m. at_place h x xs y z is (giver h xs y) m.0 m.1 m.2)
    ] refl c

pub has_is : {X Y : Type 0} (h : X → Option Y) (xs : List X) (y : Y) (r : Bool) → MatchBool r ((k : ℕ) × (k < length xs) × HoldsAt (λ x. h x ≡ Some y) xs k) (AllWithin (λ x. h x ≡ Some y → ⊥) xs 0 (length xs)) → (IsTrue r → Contains (filter_map h xs) y) × (Contains (filter_map h xs) y → IsTrue r)
has_is h [] y true m = absurd (omega (arith, m.1))
has_is h [] y false m = (λ t. absurd (false≢true t), λ c. absurd (omega (arith, c.1)))
has_is h (x ∷ xs) y true m = (λ _. given h (x ∷ xs) m.0 x y m.1 (m.2 x), λ _. refl)
has_is h (x ∷ xs) y false m = (λ t. absurd (false≢true t), λ c. let g = giver h (x ∷ xs) y c in absurd (m g.0 x (omega arith) g.1 (g.2 x)))
