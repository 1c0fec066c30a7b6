-- The slots of atoms, each once, and the places of atoms among them.
use Rattle.std.proofs.Common.{◌≡◌, ℕ, zero, suc, ◌+◌, ◌<◌, List, [], ◌∷◌, ◌++◌, length, map, get_or, take, true, false, nat_le, ◌&&◌, cond, Option, Some, None, position, slice_get, ◌⊎◌, inl, inr, refl, ap, sym, ◌∙◌, subst, arith}
use Rattle.std.specs.List.{list_any, list_all, All, Contains}
use Rattle.std.specs.Option.{option_map_or}
use Rattle.std.proofs.lemmas.Bool.{cases_Bool, false≢true, and_parts, or_parts, cond-true, cond-false}
use Rattle.std.proofs.lemmas.List.{append_assoc, map-append, take_more, length_push, get_or_push, get_or_append_left}
use Rattle.std.proofs.lemmas.List.Quantifiers.{position-Some}
use Rattle.std.proofs.lemmas.Option.{slice_get-get_or, slice_get_within, same_Some, none-some}
use Rattle.key_table.specs.declared.slot.Slot.{Slot}
use Rattle.key_table.specs.declared.atom.Atom.{Atom}
use Rattle.key_table.specs.contracts.slot.SlotPartialEq.TheImpl as by_slot
use Rattle.key_table.specs.contracts.slot.SlotEq.TheImpl.Laws as equal_slots
use Rattle.key_table.specs.Atoms.{atom_fits, test_fits}
use Rattle.key_table.specs.Tables.{Table, Domain, domain_at, has_sub, slot_fits}
use Rattle.domain_store.specs.Kept.{StandOnce, ArePlaces, AreNodePlaces, atom_at}
use Rattle.constraint_graph.specs.declared.node.Node.{Node}
use Rattle.interval_domains.specs.declared.domain.SlotDomain.{SlotDomain}
use Rattle.interval_domains.specs.Members.{slot_of}
use Rattle.domain_store.proofs.ContextLemmas.{stands, stands_at}

-- Slots that are found the same are equal.
abbrev pub FoundSame : Type 0
FoundSame = (s t : Slot) → by_slot.eq-value.it s t ≡ true → s ≡ t

-- what stands at a number stays there in a longer list
pub get_front : {X : Type 0} (xs ys : List X) (n : ℕ) (x : X) → slice_get xs n ≡ Some x → slice_get (xs ++ ys) n ≡ Some x
get_front [] ys n x is = absurd (none-some x is)
get_front (y ∷ xs) ys zero x is = is
get_front (y ∷ xs) ys (suc n) x is = get_front xs ys n x is

pub get_last : {X : Type 0} (xs : List X) (x : X) → slice_get (xs ++ x ∷ []) (length xs) ≡ Some x
get_last [] x = refl
get_last (y ∷ xs) x = get_last xs x

-- an element of a longer list is one of the list, or the last
pub get_cases : {X : Type 0} (xs : List X) (y : X) (n : ℕ) (x : X) → slice_get (xs ++ y ∷ []) n ≡ Some x → (slice_get xs n ≡ Some x) ⊎ ((n ≡ length xs) × (x ≡ y))
get_cases [] y zero x is = inr (refl, sym (same_Some y x is))
get_cases [] y (suc n) x is = absurd (none-some x is)
get_cases (z ∷ xs) y zero x is = inl is
get_cases (z ∷ xs) y (suc n) x is = elim (get_cases xs y n x is) [ inl front ↦ inl front | inr last ↦ inr (ap suc last.0, last.1) ]

-- a slot that none of the others is found to be is none of them
fresh_is : (ss : List Slot) (slot : Slot) → list_any (by_slot.eq-value.it slot) ss ≡ false → (i : ℕ) → slice_get ss i ≡ Some slot → ⊥
fresh_is [] slot none i at = none-some slot at
fresh_is (s ∷ ss) slot none zero at =
    false≢true (sym (or_parts (by_slot.eq-value.it slot s) (list_any (by_slot.eq-value.it slot) ss) none).0 ∙ ap (λ t. by_slot.eq-value.it slot t) (same_Some s slot at) ∙ equal_slots.laws-law.refl slot)
fresh_is (s ∷ ss) slot none (suc i) at = fresh_is ss slot (or_parts (by_slot.eq-value.it slot s) (list_any (by_slot.eq-value.it slot) ss) none).1 i at

once_more : (ss : List Slot) (slot : Slot) → list_any (by_slot.eq-value.it slot) ss ≡ false → StandOnce ss → StandOnce (ss ++ slot ∷ [])
once_more ss slot none once i j s at_i at_j =
    let P : Slot → Type 0 = λ t. t ≡ slot → ⊥ in
    elim (get_cases ss slot i s at_i) [
      | inl front_i ↦ elim (get_cases ss slot j s at_j) [
        | inl front_j ↦ once i j s front_i front_j
        | inr last_j ↦ absurd (fresh_is ss slot none i (front_i ∙ ap (λ t. Some t) last_j.1))
      ]
      | inr last_i ↦ elim (get_cases ss slot j s at_j) [
        | inl front_j ↦ absurd (fresh_is ss slot none j (front_j ∙ ap (λ t. Some t) last_i.1))
        | inr last_j ↦ last_i.0 ∙ sym last_j.0
      ]
    ]

-- the places of atoms of which the last has its slot at a place
module _ (atoms : List Atom) (atom : Atom) (ss ss' : List Slot) (ps : List ℕ) (p : ℕ)
    (so_far : ArePlaces atoms ss ps)
    (front : (i : ℕ) (s : Slot) → slice_get ss i ≡ Some s → slice_get ss' i ≡ Some s)
    (there : slice_get ss' p ≡ Some atom.slot)
    (made : (i : ℕ) (s : Slot) → slice_get ss' i ≡ Some s → (slice_get ss i ≡ Some s) ⊎ (s ≡ atom.slot))
    (once : StandOnce ss') where
  one_more : ArePlaces (atoms ++ atom ∷ []) ss' (ps ++ p ∷ [])
  one_more =
      let count = so_far.count in
      record {
        count = length_push ps p ∙ ap (λ k. k + 1) count ∙ sym (length_push atoms atom);
        at = λ n a is. elim (get_cases atoms atom n a is) [
          | inl early ↦
              let w = slice_get_within atoms n a early in
              ap (λ k. slice_get ss' k) (get_or_append_left ps (p ∷ []) 0 n (omega arith)) ∙ front (get_or ps n 0) a.slot (so_far.at n a early)
          | inr late ↦
              ap (λ k. slice_get ss' k) (get_or_push ps p 0 n (count ∙ sym late.0)) ∙ there ∙ ap (λ (b : Atom). Some b.slot) (sym late.1)
        ];
        owned = λ i s is. elim (made i s is) [
          | inl old ↦ let o = so_far.owned i s old in (o.0, o.1, get_front atoms (atom ∷ []) o.0 o.1 o.2, o.3)
          | inr new ↦ (length atoms, atom, get_last atoms atom, sym new)
        ];
        once = once;
      }

-- an atom more, whose slot is there or goes last
pub places_more : FoundSame → (atoms : List Atom) (atom : Atom) (slot : Slot) (ss ss' : List Slot) (ps : List ℕ) (p : ℕ) → ArePlaces atoms ss ps → slot ≡ atom.slot
    → ss' ≡ cond (list_any (by_slot.eq-value.it slot) ss) ss (ss ++ slot ∷ []) → ((k : Slot) × (slice_get ss' p ≡ Some k) × (by_slot.eq-value.it slot k ≡ true)) → ArePlaces (atoms ++ atom ∷ []) ss' (ps ++ p ∷ [])
places_more law atoms atom slot ss ss' ps p so_far same keys stored =
    let there : slice_get ss' p ≡ Some atom.slot = stored.1 ∙ ap (λ (s : Slot). Some s) (sym (law slot stored.0 stored.2) ∙ same) in
    elim (cases_Bool (list_any (by_slot.eq-value.it slot) ss)) [
      | inl found ↦
          let is : ss' ≡ ss = keys ∙ cond-true _ ss (ss ++ slot ∷ []) found in
          let P : List Slot → Type 0 = λ xs. StandOnce xs in
          one_more atoms atom ss ss' ps p so_far
          (λ i s at. ap (λ (xs : List Slot). slice_get xs i) is ∙ at) there
          (λ i s at. inl (ap (λ (xs : List Slot). slice_get xs i) (sym is) ∙ at))
          (subst P (sym is) so_far.once)
      | inr none ↦
          let is : ss' ≡ ss ++ slot ∷ [] = keys ∙ cond-false _ ss (ss ++ slot ∷ []) none in
          let P : List Slot → Type 0 = λ xs. StandOnce xs in
          one_more atoms atom ss ss' ps p so_far
          (λ i s at. ap (λ (xs : List Slot). slice_get xs i) is ∙ get_front ss (slot ∷ []) i s at) there
          (λ i s at. elim (get_cases ss slot i s (ap (λ (xs : List Slot). slice_get xs i) (sym is) ∙ at)) [ inl old ↦ inl old | inr new ↦ inr (new.1 ∙ same) ])
          (subst P (sym is) (once_more ss slot none so_far.once))
    ]

-- the next of a list of atoms
pub places_next : FoundSame → (atoms : List Atom) (i : ℕ) (atom : Atom) (slot : Slot) (ss ss' : List Slot) (ps : List ℕ) (p : ℕ) → i < length atoms → atom ≡ get_or atoms i atom → ArePlaces (take i atoms) ss ps → slot ≡ atom.slot
    → ss' ≡ cond (list_any (by_slot.eq-value.it slot) ss) ss (ss ++ slot ∷ []) → ((k : Slot) × (slice_get ss' p ≡ Some k) × (by_slot.eq-value.it slot k ≡ true)) → ArePlaces (take (i + 1) atoms) ss' (ps ++ p ∷ [])
places_next law atoms i atom slot ss ss' ps p within is so_far same keys stored =
    let P : List Atom → Type 0 = λ xs. ArePlaces xs ss' (ps ++ p ∷ []) in
    subst P (ap (λ (a : Atom). take i atoms ++ a ∷ []) is ∙ sym (take_more atoms i atom within)) (places_more law (take i atoms) atom slot ss ss' ps p so_far same keys stored)

pub places_none : ArePlaces [] [] []
places_none = record {
  count = refl;
  at = λ n a is. absurd (none-some a is);
  owned = λ i s is. absurd (none-some s is);
  once = λ i j s is. absurd (none-some s is);
}

-- ---- a slot that is there is found

pub found_at : FoundSame → (ss : List Slot) (slot : Slot) (p : ℕ) → position (by_slot.eq-value.it slot) ss ≡ Some p → slice_get ss p ≡ Some slot
found_at law ss slot p is =
    let h = position-Some (by_slot.eq-value.it slot) ss p slot is in
    slice_get-get_or ss p slot h.0 ∙ ap (λ (s : Slot). Some s) (sym (law slot (get_or ss p slot) h.1))

among : (ss : List Slot) (slot : Slot) (k : ℕ) → slice_get ss k ≡ Some slot → list_any (by_slot.eq-value.it slot) ss ≡ true
among ss slot k at =
    elim (cases_Bool (list_any (by_slot.eq-value.it slot) ss)) [ inl is ↦ is | inr none ↦ absurd (fresh_is ss slot none k at) ]

pub is_found : (ss : List Slot) (slot : Slot) → Contains ss slot → list_any (by_slot.eq-value.it slot) ss ≡ true
is_found ss slot there = among ss slot there.0 (slice_get-get_or ss there.0 slot there.1 ∙ ap (λ (s : Slot). Some s) there.2)

-- ---- places of nodes

node_within : (graph : List Node) (node : ℕ) (atom : Atom) → atom_at graph node ≡ Some (Some atom) → (k : ℕ) → k ≡ length graph → node < k
node_within [] node atom is k all = absurd (none-some (Some atom) is)
node_within (n ∷ ns) zero atom is k all = omega (arith, all)
node_within (n ∷ ns) (suc node) atom is k all = let w = node_within ns node atom is (length ns) refl in omega (arith, all)

pub node_places_all : (graph : List Node) (ss : List Slot) (ps : List ℕ) (k : ℕ) → length ps ≡ k → ((node : ℕ) (atom : Atom) → node < k → atom_at graph node ≡ Some (Some atom) → slice_get ss (get_or ps node 0) ≡ Some atom.slot) → k ≡ length graph → AreNodePlaces graph ss ps
node_places_all graph ss ps k count at all = record {
  count = count ∙ all;
  at = λ node atom is. at node atom (node_within graph node atom is k all) is;
}

-- ---- slots of atoms that fit

pub slot_fits_of : (table : Table) (atom : Atom) → atom_fits table atom ≡ true → slot_fits table atom.slot ≡ true
slot_fits_of table atom fits =
    elim (domain_at atom.slot.key table) as (λ (o : Option Domain). option_map_or (λ domain. has_sub domain atom.slot.sub && (nat_le (length atom.tests) 4096 && list_all (test_fits domain) atom.tests)) o false ≡ true → option_map_or (λ domain. has_sub domain atom.slot.sub) o false ≡ true) [
      | None ↦ (λ h. h)
      | Some domain ↦ (λ h. (and_parts (has_sub domain atom.slot.sub) (nat_le (length atom.tests) 4096 && list_all (test_fits domain) atom.tests) h).0)
    ] fits

-- the slots of atoms are there, and those that are there fit where the atoms do
pub slots_have : (atoms : List Atom) (ss : List Slot) (ps : List ℕ) (atom : Atom) → ArePlaces atoms ss ps → Contains atoms atom → Contains ss atom.slot
slots_have atoms ss ps atom places there = stands ss (get_or ps there.0 0) atom.slot (places.at there.0 atom (stands_at atoms atom there))

pub slots_fit : (table : Table) (atoms : List Atom) (ss : List Slot) (ps : List ℕ) → ArePlaces atoms ss ps → ((atom : Atom) → Contains atoms atom → atom_fits table atom ≡ true) → All (λ (s : Slot). slot_fits table s ≡ true) ss
slots_fit table atoms ss ps places fits k d within =
    let P : Slot → Type 0 = λ s. slot_fits table s ≡ true in
    let o = places.owned k (get_or ss k d) (slice_get-get_or ss k d within) in
    subst P o.3 (slot_fits_of table o.1 (fits o.1 (stands atoms o.0 o.1 o.2)))

-- ---- one domain more

pub slots_next : (keys rest rest' : List Slot) (ds : List SlotDomain) (d : SlotDomain) (s : Slot) → rest ≡ s ∷ rest' → map slot_of ds ++ rest ≡ keys → slot_of d ≡ s → map slot_of (ds ++ d ∷ []) ++ rest' ≡ keys
slots_next keys rest rest' ds d s is whole same =
    ap (λ (xs : List Slot). xs ++ rest') (map-append slot_of ds (d ∷ []))
    ∙ append_assoc (map slot_of ds) (slot_of d ∷ []) rest'
    ∙ ap (λ (t : Slot). map slot_of ds ++ t ∷ rest') same
    ∙ ap (λ (r : List Slot). map slot_of ds ++ r) (sym is)
    ∙ whole
