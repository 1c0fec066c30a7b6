-- What a search finds among entries in order, and what a put at its place does.
use Rattle.std.proofs.Common.{◌≡◌, inl, inr, ℕ, suc, ◌+◌, ◌<◌, ◌≤◌, [], ◌∷◌, ◌++◌, length, get_or, set, take, drop, Result, Ok, Err, Some, None, refl, ap, sym, ◌∙◌, subst, arith, add-one}
use Rattle.std.specs.declared.cmp.Ordering.{Ordering}
use Rattle.std.specs.declared.cmp.Ordering.TheVariants.{Less, Equal, Greater}
use Rattle.std.specs.Ordering.{ordering_index, ordering_reverse}
use Rattle.std.specs.Cmp.{IsTotalOrder}
use Rattle.std.specs.List.{insert}
use Rattle.std.specs.List.Sorted.{IsNonDecreasingBy, IsSearchInRange, IsBinarySearchResult}
use Rattle.std.specs.Map.{keys_of}
use Rattle.std.specs.BTreeMap.{insert_entry}
use Rattle.std.proofs.lemmas.List.{take-append-drop, drop_more, get_or-take, get_or-drop, get_or-map, length-map, length-take-le, length-drop, set_split}
use Rattle.std.proofs.lemmas.List.Elements.{recursion_from_All}
use Rattle.std.proofs.lemmas.Map.Keys.{Less-from_sorted}
use Rattle.std.proofs.lemmas.Bool.{cases_lt}
use Rattle.key_table.specs.declared.slot.Slot.{Slot}
use Rattle.key_table.specs.declared.slot.Datum.{Datum}
use Rattle.key_table.specs.Slots.{slot_cmp}
use Rattle.key_table.specs.Payments.{Entries, AreAscending, value_of, with_value}
use Rattle.key_table.specs.Places.{AreBefore, StandsAt, GoesTo, IsPlace}
use Rattle.key_table.proofs.Sorted.{slot_cmp_total}
use Rattle.key_table.proofs.Runs.{insert_past, insert_within, lookup_past, lookup_none, before_middle}

-- what a reversed order was
equal_back : (o : Ordering) → ordering_reverse o ≡ Equal → o ≡ Equal
equal_back Less h = cc
equal_back Equal h = refl
equal_back Greater h = cc

greater_back : (o : Ordering) → ordering_reverse o ≡ Less → o ≡ Greater
greater_back Less h = cc
greater_back Equal h = cc
greater_back Greater h = refl

less_back : (o : Ordering) → ordering_reverse o ≡ Greater → o ≡ Less
less_back Less h = refl
less_back Equal h = cc
less_back Greater h = cc

module _ {K : Type 0} {R : K → K → Ordering} (t : IsTotalOrder R) where
  -- against a key, what is less compares no higher
  rise : (k a b : K) → R a b ≡ Less → ordering_index (ordering_reverse (R k a)) ≤ ordering_index (ordering_reverse (R k b))
  rise k a b less =
      elim (R k a) as (λ o. R k a ≡ o → ordering_index (ordering_reverse o) ≤ ordering_index (ordering_reverse (R k b))) [
        | Less ↦ (λ is. rw (t.trans k a b is less) (omega arith))
        | Equal ↦ (λ is. rw (t.congr k a b is ∙ less) (omega arith))
        | Greater ↦ (λ is. omega arith)
      ] refl

-- the comparisons with a slot rise along entries in order, as a binary search asks
rises : (es : Entries) (slot : Slot) → AreAscending es → IsNonDecreasingBy (λ (e : Slot × Datum). ordering_index (ordering_reverse (slot_cmp slot e.0))) es
rises es slot up i j d le within =
    elim (cases_lt i j) [
      | inl below ↦
          let n : length (keys_of es) ≡ length es = length-map es (λ (e : Slot × Datum). e.0) in
          let less = Less-from_sorted slot_cmp (keys_of es) i j d.0 up below (omega arith) in
          let a : get_or (keys_of es) i d.0 ≡ (get_or es i d).0 = get_or-map (λ (e : Slot × Datum). e.0) es i d d.0 (omega arith) in
          let b : get_or (keys_of es) j d.0 ≡ (get_or es j d).0 = get_or-map (λ (e : Slot × Datum). e.0) es j d d.0 (omega arith) in
          rise slot_cmp_total slot (get_or es i d).0 (get_or es j d).0 (rw (a, b) at less)
      | inr above ↦ let same : i ≡ j = omega arith in rw same (omega arith)
    ]

-- what stands in front of an entry that is not after the slot
before_at : (es : Entries) (slot : Slot) (i : ℕ) (d : Slot × Datum) → AreAscending es → i < length es → (slot_cmp slot (get_or es i d).0 ≡ Less → ⊥) → AreBefore slot (take i es)
before_at es slot i d up within not_less =
    let P : Entries → Type 0 = λ xs. AreAscending xs in
    let parts : es ≡ take i es ++ get_or es i d ∷ drop (i + 1) es = sym (take-append-drop i es) ∙ ap (λ (r : Entries). take i es ++ r) (drop_more es i d within) in
    before_middle slot_cmp slot_cmp_total (take i es) (get_or es i d) (drop (i + 1) es) slot (subst P parts up) not_less

-- what is equal is not less
not_less_equal : (o : Ordering) → o ≡ Equal → o ≡ Less → ⊥
not_less_equal o e l = cc

-- a binary search ends at the slot, or where it goes
pub searched : (es : Entries) (slot : Slot) (r : Result ℕ ℕ) → AreAscending es → IsSearchInRange r (length es) → IsBinarySearchResult (λ (e : Slot × Datum). ordering_reverse (slot_cmp slot e.0)) es r → IsPlace slot es r
searched [] slot (Ok i) up within at = absurd (omega (arith, within))
searched (e ∷ es) slot (Ok i) up within at = record {
  within = within;
  before = before_at (e ∷ es) slot i e up within (not_less_equal _ (equal_back _ (at e)));
  same = λ d. equal_back _ (at d);
}
searched es slot (Err i) up within at =
    let parted = at (rises es slot up) in
    record {
      within = within;
      before = recursion_from_All (λ (e : Slot × Datum). slot_cmp slot e.0 ≡ Greater) (take i es) (λ k d lt.
          let n = length-take-le i es within in
          let below : k < i = omega arith in
          rw (get_or-take i es k d below) (greater_back _ (parted.0 k d (omega arith) below)));
      after = recursion_from_All (λ (e : Slot × Datum). slot_cmp slot e.0 ≡ Less) (drop i es) (λ k d lt.
          let n = length-drop i es in
          rw (get_or-drop i es k d) (less_back _ (parted.1 (i + k) d (omega arith) (omega arith))));
    }

-- a datum is written over where the slot stands
pub put_over : (es : Entries) (slot : Slot) (v : Datum) (i : ℕ) (e : Slot × Datum) → StandsAt slot es i → e ≡ get_or es i e → set es i (e.0, v) ≡ with_value es slot v
put_over es slot v i e stands at =
    let parts : es ≡ take i es ++ e ∷ drop (suc i) es = sym (take-append-drop i es) ∙ ap (λ (r : Entries). take i es ++ r) (drop_more es i e stands.within ∙ ap (λ (x : Slot × Datum). x ∷ drop (i + 1) es) (sym at) ∙ ap (λ n. e ∷ drop n es) (add-one i)) in
    let same : slot_cmp slot e.0 ≡ Equal = ap (λ (x : Slot × Datum). slot_cmp slot x.0) at ∙ stands.same e in
    let over : insert_entry slot_cmp (e ∷ drop (suc i) es) slot v ≡ (e.0, v) ∷ drop (suc i) es = rw same refl in
    set_split es i (e.0, v) stands.within
    ∙ ap (λ (r : Entries). take i es ++ r) (sym over)
    ∙ sym (insert_past slot_cmp (take i es) (e ∷ drop (suc i) es) slot v stands.before)
    ∙ ap (λ (xs : Entries). insert_entry slot_cmp xs slot v) (sym parts)

-- an entry is put in where the slot goes
pub put_new : (es : Entries) (slot : Slot) (v : Datum) (i : ℕ) → GoesTo slot es i → insert es i (slot, v) ≡ with_value es slot v
put_new es slot v i goes =
    ap (λ (r : Entries). take i es ++ r) (sym (insert_within slot_cmp [] (drop i es) slot v goes.after))
    ∙ sym (insert_past slot_cmp (take i es) (drop i es) slot v goes.before)
    ∙ ap (λ (xs : Entries). insert_entry slot_cmp xs slot v) (take-append-drop i es)

-- what is found where the slot stands
pub value_there : (es : Entries) (slot : Slot) (i : ℕ) (e : Slot × Datum) → StandsAt slot es i → e ≡ get_or es i e → value_of slot es ≡ Some e.1
value_there es slot i e stands at =
    let parts : es ≡ take i es ++ e ∷ drop (i + 1) es = sym (take-append-drop i es) ∙ ap (λ (r : Entries). take i es ++ r) (drop_more es i e stands.within ∙ ap (λ (x : Slot × Datum). x ∷ drop (i + 1) es) (sym at)) in
    let same : slot_cmp slot e.0 ≡ Equal = ap (λ (x : Slot × Datum). slot_cmp slot x.0) at ∙ stands.same e in
    let found : value_of slot (e ∷ drop (i + 1) es) ≡ Some e.1 = rw same refl in
    ap (λ (xs : Entries). value_of slot xs) parts ∙ lookup_past slot_cmp (take i es) (e ∷ drop (i + 1) es) slot stands.before ∙ found

-- nothing is found where the slot would go
pub value_nowhere : (es : Entries) (slot : Slot) (i : ℕ) → GoesTo slot es i → value_of slot es ≡ None
value_nowhere es slot i goes =
    ap (λ (xs : Entries). value_of slot xs) (sym (take-append-drop i es))
    ∙ lookup_past slot_cmp (take i es) (drop i es) slot goes.before
    ∙ lookup_none slot_cmp (drop i es) slot goes.after
