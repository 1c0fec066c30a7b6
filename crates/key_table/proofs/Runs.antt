-- Entries in ascending order that are cut into parts: where an entry goes, what is found, and that each part is in order.
use Rattle.std.proofs.Common.{◌≡◌, List, [], ◌∷◌, ◌++◌, cond, Some, None, refl, ap, ◌∙◌}
use Rattle.std.specs.declared.cmp.Ordering.{Ordering}
use Rattle.std.specs.declared.cmp.Ordering.TheVariants.{Less, Equal, Greater}
use Rattle.std.specs.Ordering.{ordering_reverse, match_ordering}
use Rattle.std.specs.Cmp.{IsTotalOrder}
use Rattle.std.specs.List.{AllByRecursion}
use Rattle.std.specs.List.Sorted.{IsStrictlySortedBy}
use Rattle.std.specs.Map.{keys_of, lookup}
use Rattle.std.specs.BTreeMap.{insert_entry, is_at}

-- what is less than a key that is not above k is before k
before_through : {K : Type 0} {R : K → K → Ordering} → IsTotalOrder R → (x e k : K) → R x e ≡ Less → (R k e ≡ Less → ⊥) → R k x ≡ Greater
before_through {K} {R} t x e k less not_less =
    elim (R k e) as (λ o. R k e ≡ o → R k x ≡ Greater) [
      | Less ↦ (λ is. absurd (not_less is))
      | Equal ↦ (λ is. t.congr k e x is ∙ t.antisymm e x ∙ ap ordering_reverse less)
      | Greater ↦ (λ is. t.antisymm k x ∙ ap ordering_reverse (t.trans x e k less (t.antisymm e k ∙ ap ordering_reverse is)))
    ] refl

module _ {K X : Type 0} (R : K → K → Ordering) where
  -- each entry stands before the key
  abbrev pub Before : K → List (K × X) → Type 0
  Before k es = AllByRecursion (λ (e : K × X). R k e.0 ≡ Greater) es

  -- each entry stands after the key
  abbrev pub After : K → List (K × X) → Type 0
  After k es = AllByRecursion (λ (e : K × X). R k e.0 ≡ Less) es

  -- a key goes past what stands before it
  pub insert_past : (xs ys : List (K × X)) (k : K) (v : X) → Before k xs → insert_entry R (xs ++ ys) k v ≡ xs ++ insert_entry R ys k v
  insert_past [] ys k v before = refl
  insert_past (x ∷ xs) ys k v before =
      rw before.0 (ap (λ r. x ∷ r) (insert_past xs ys k v before.1))

  -- and stays in front of what stands after it
  pub insert_within : (xs ys : List (K × X)) (k : K) (v : X) → After k ys → insert_entry R (xs ++ ys) k v ≡ insert_entry R xs k v ++ ys
  insert_within [] [] k v after = refl
  insert_within [] (y ∷ ys) k v after = rw after.0 refl
  insert_within (x ∷ xs) ys k v after =
      elim (R k x.0) as (λ o. match_ordering o ((k, v) ∷ x ∷ (xs ++ ys)) ((x.0, v) ∷ (xs ++ ys)) (x ∷ insert_entry R (xs ++ ys) k v) ≡ match_ordering o ((k, v) ∷ x ∷ xs) ((x.0, v) ∷ xs) (x ∷ insert_entry R xs k v) ++ ys)
      [ Less ↦ refl | Equal ↦ refl | Greater ↦ ap (λ r. x ∷ r) (insert_within xs ys k v after) ]

  -- a key is not found in what stands before it
  pub lookup_past : (xs ys : List (K × X)) (k : K) → Before k xs → lookup (is_at (R k)) (xs ++ ys) ≡ lookup (is_at (R k)) ys
  lookup_past [] ys k before = refl
  lookup_past (x ∷ xs) ys k before = rw before.0 (lookup_past xs ys k before.1)

  -- nor in what stands after it
  pub lookup_none : (ys : List (K × X)) (k : K) → After k ys → lookup (is_at (R k)) ys ≡ None
  lookup_none [] k after = refl
  lookup_none (y ∷ ys) k after = rw after.0 (lookup_none ys k after.1)

  pub lookup_within : (xs ys : List (K × X)) (k : K) → After k ys → lookup (is_at (R k)) (xs ++ ys) ≡ lookup (is_at (R k)) xs
  lookup_within [] ys k after = lookup_none ys k after
  lookup_within (x ∷ xs) ys k after =
      ap (λ r. cond (is_at (R k) x.0) (Some x.1) r) (lookup_within xs ys k after)

  keys_left : (P : K → Type 0) (xs ys : List (K × X)) → AllByRecursion P (keys_of (xs ++ ys)) → AllByRecursion P (keys_of xs)
  keys_left P [] ys h = tt
  keys_left P (x ∷ xs) ys h = (h.0, keys_left P xs ys h.1)

  keys_right : (P : K → Type 0) (xs ys : List (K × X)) → AllByRecursion P (keys_of (xs ++ ys)) → AllByRecursion P (keys_of ys)
  keys_right P [] ys h = h
  keys_right P (x ∷ xs) ys h = keys_right P xs ys h.1

  entries_from_keys : (P Q : K → Type 0) (es : List (K × X)) → ((k : K) → P k → Q k) → AllByRecursion P (keys_of es) → AllByRecursion (λ (e : K × X). Q e.0) es
  entries_from_keys P Q [] f h = tt
  entries_from_keys P Q (e ∷ es) f h = (f e.0 h.0, entries_from_keys P Q es f h.1)

  -- each part of what is in order is in order
  pub sorted_left : (xs ys : List (K × X)) → IsStrictlySortedBy R (keys_of (xs ++ ys)) → IsStrictlySortedBy R (keys_of xs)
  unfolding IsStrictlySortedBy
  sorted_left [] ys h = tt
  sorted_left (x ∷ xs) ys h = (keys_left (λ y. R x.0 y ≡ Less) xs ys h.0, sorted_left xs ys h.1)

  pub sorted_right : (xs ys : List (K × X)) → IsStrictlySortedBy R (keys_of (xs ++ ys)) → IsStrictlySortedBy R (keys_of ys)
  unfolding IsStrictlySortedBy
  sorted_right [] ys h = h
  sorted_right (x ∷ xs) ys h = sorted_right xs ys h.1

  module _ (t : IsTotalOrder R) where
    -- where an entry in the middle is not after the key, those in front of it stand before the key
    pub before_middle : (xs : List (K × X)) (e : K × X) (ys : List (K × X)) (k : K) → IsStrictlySortedBy R (keys_of (xs ++ e ∷ ys)) → (R k e.0 ≡ Less → ⊥) → Before k xs
    unfolding IsStrictlySortedBy
    before_middle [] e ys k h not_less = tt
    before_middle (x ∷ xs) e ys k h not_less = (before_through t x.0 e.0 k (keys_right (λ y. R x.0 y ≡ Less) xs (e ∷ ys) h.0).0 not_less, before_middle xs e ys k h.1 not_less)

    -- where the first entry is after the key, so are all
    pub after_first : (e : K × X) (ys : List (K × X)) (k : K) → IsStrictlySortedBy R (keys_of (e ∷ ys)) → R k e.0 ≡ Less → After k (e ∷ ys)
    unfolding IsStrictlySortedBy
    after_first e ys k h less = (less, entries_from_keys (λ y. R e.0 y ≡ Less) (λ y. R k y ≡ Less) ys (λ y above. t.trans k e.0 y less above) h.0)
