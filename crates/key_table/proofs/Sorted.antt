-- Where an entry goes among entries in ascending order, and that they stay so.
use Rattle.std.proofs.Common.{◌≡◌, List, [], ◌∷◌, true, false, refl, ap, sym, ◌∙◌, rules, Bool, cond, Option, Some}
use Rattle.std.specs.declared.cmp.Ordering.{Ordering}
use Rattle.std.specs.declared.cmp.Ordering.TheVariants.{Less, Equal, Greater}
use Rattle.std.specs.Ordering.{is_eq, ordering_reverse, match_ordering}
use Rattle.std.specs.Cmp.{IsTotalOrder}
use Rattle.std.specs.Cmp.Rules.{comparing}
use Rattle.std.specs.List.{AllByRecursion}
use Rattle.std.specs.List.Sorted.{IsStrictlySortedBy}
use Rattle.std.specs.Map.{keys_of}
use Rattle.std.specs.BTreeMap.{insert_entry}
use Rattle.std.proofs.lemmas.Bool.{true≢false, false≢true}
use Rattle.key_table.specs.declared.slot.Slot.{Slot}
use Rattle.key_table.specs.declared.slot.Datum.{Datum}
use Rattle.key_table.specs.Slots.{slot_cmp}
use Rattle.key_table.specs.Payments.{value_of}

pub slot_cmp_total : IsTotalOrder slot_cmp
slot_cmp_total = search (comparing, rules)

pub all_map : {K : Type 0} (P Q : K → Type 0) → ((x : K) → P x → Q x) → (ks : List K) → AllByRecursion P ks → AllByRecursion Q ks
all_map P Q f [] h = tt
all_map P Q f (k ∷ ks) h = (f k h.0, all_map P Q f ks h.1)

all_insert : {K X : Type 0} (R : K → K → Ordering) (P : K → Type 0) (es : List (K × X)) (k : K) (v : X) → AllByRecursion P (keys_of es) → P k → AllByRecursion P (keys_of (insert_entry R es k v))
all_insert R P [] k v h p = (p, tt)
all_insert R P (e ∷ es) k v h p =
    elim (R k e.0) as (λ o. AllByRecursion P (keys_of (match_ordering o ((k, v) ∷ e ∷ es) ((e.0, v) ∷ es) (e ∷ insert_entry R es k v))))
    [ Less ↦ (p, h) | Equal ↦ h | Greater ↦ (h.0, all_insert R P es k v h.1 p) ]

pub sorted_insert : {K X : Type 0} {R : K → K → Ordering} → IsTotalOrder R → (es : List (K × X)) (k : K) (v : X) → IsStrictlySortedBy R (keys_of es) → IsStrictlySortedBy R (keys_of (insert_entry R es k v))
unfolding IsStrictlySortedBy
sorted_insert t [] k v h = (tt, tt)
sorted_insert {R} t (e ∷ es) k v h =
    elim (R k e.0) as (λ o. R k e.0 ≡ o → IsStrictlySortedBy R (keys_of (match_ordering o ((k, v) ∷ e ∷ es) ((e.0, v) ∷ es) (e ∷ insert_entry R es k v)))) [
      | Less ↦ (λ is. ((is, all_map _ _ (λ x above. t.trans k e.0 x is above) (keys_of es) h.0), h))
      | Equal ↦ (λ is. h)
      | Greater ↦ (λ is. (all_insert R _ es k v h.0 (t.antisymm e.0 k ∙ ap ordering_reverse is), sorted_insert t es k v h.1))
    ] refl

same_place : (s e t : Slot) → slot_cmp s e ≡ Equal → slot_cmp t s ≡ slot_cmp t e
same_place s e t is = slot_cmp_total.antisymm t s ∙ ap ordering_reverse (slot_cmp_total.congr s e t is) ∙ sym (slot_cmp_total.antisymm t e)

pub equal : (o : Ordering) → is_eq o ≡ true → o ≡ Equal
equal Less h = absurd (false≢true h)
equal Equal h = refl
equal Greater h = absurd (false≢true h)

over : {X : Type 0} (b : Bool) (x y rest : Option X) → cond b x rest ≡ cond b x (cond b y rest)
over true x y rest = refl
over false x y rest = refl

swap_tests : {X : Type 0} (a b : Bool) (x y rest : Option X) → (a ≡ true → b ≡ true → ⊥) → cond a x (cond b y rest) ≡ cond b y (cond a x rest)
swap_tests true true x y rest apart = absurd (apart refl refl)
swap_tests true false x y rest apart = refl
swap_tests false b x y rest apart = refl

-- after a put the slot has the datum, and every other slot has what it had
pub value_put : (es : List (Slot × Datum)) (s t : Slot) (d : Datum) → value_of t (insert_entry slot_cmp es s d) ≡ cond (is_eq (slot_cmp t s)) (Some d) (value_of t es)
value_put [] s t d = refl
value_put (e ∷ es) s t d =
    elim (slot_cmp s e.0) as (λ o. slot_cmp s e.0 ≡ o → value_of t (match_ordering o ((s, d) ∷ e ∷ es) ((e.0, d) ∷ es) (e ∷ insert_entry slot_cmp es s d)) ≡ cond (is_eq (slot_cmp t s)) (Some d) (value_of t (e ∷ es))) [
      | Less ↦ (λ is. refl)
      | Equal ↦ (λ is. rw (same_place s e.0 t is) (over (is_eq (slot_cmp t e.0)) (Some d) (Some e.1) (value_of t es)))
      | Greater ↦ (λ is. ap (λ r. cond (is_eq (slot_cmp t e.0)) (Some e.1) r) (value_put es s t d) ∙ swap_tests (is_eq (slot_cmp t e.0)) (is_eq (slot_cmp t s)) (Some e.1) (Some d) (value_of t es) (λ a b. true≢false (sym a ∙ ap is_eq (slot_cmp_total.congr t s e.0 (equal _ b)) ∙ ap is_eq is)))
    ] refl
