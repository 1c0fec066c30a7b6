-- Entries in ascending order: what stands at each slot says which entries they are.
use Rattle.std.proofs.Common.{◌≡◌, [], ◌∷◌, Bool, true, false, cond, Option, Some, None, refl, ap, sym, ◌∙◌, Ordering, Less, Equal, Greater, is_eq, subst}
use Rattle.std.specs.Ordering.{ordering_reverse}
use Rattle.std.specs.List.{AllByRecursion}
use Rattle.std.specs.List.Sorted.{IsStrictlySortedBy}
use Rattle.std.specs.Map.{keys_of}
use Rattle.std.proofs.lemmas.Cmp.{tied_itself}
use Rattle.key_table.specs.declared.slot.Slot.{Slot}
use Rattle.key_table.specs.declared.slot.Datum.{Datum}
use Rattle.key_table.specs.Slots.{slot_cmp}
use Rattle.key_table.specs.Payments.{Entries, AreAscending, value_of}
use Rattle.key_table.proofs.OptionLemmas.{same_slot}
use Rattle.key_table.proofs.Sorted.{slot_cmp_total, all_map, equal}

abbrev pub Entry : Type 0
Entry = Slot × Datum

self : (s : Slot) → slot_cmp s s ≡ Equal
self s = tied_itself slot_cmp_total s

-- the first entry stands at its slot
pub value_here : (e : Entry) (es : Entries) → value_of e.0 (e ∷ es) ≡ Some e.1
value_here e es = rw (self e.0)

-- a slot that stands before all of them is not there
pub value_before : (s : Slot) (es : Entries) → AllByRecursion (λ (y : Slot). slot_cmp s y ≡ Less) (keys_of es) → value_of s es ≡ None
value_before s [] h = refl
value_before s (e ∷ es) h = rw (h.0, value_before s es h.1)

value_before_first : (s : Slot) (e : Entry) (es : Entries) → slot_cmp s e.0 ≡ Less → AllByRecursion (λ (y : Slot). slot_cmp e.0 y ≡ Less) (keys_of es) → value_of s (e ∷ es) ≡ None
value_before_first s e es is h = value_before s (e ∷ es) (is, all_map _ _ (λ x above. slot_cmp_total.trans s e.0 x is above) (keys_of es) h)

apart : {X : Type 0} (o : Option X) (x : X) → o ≡ None → Some x ≡ o → ⊥
apart o x none some = let no : ⊥ = cc in no

skip : {X : Type 0} (b c : Bool) (x y r s : Option X) → b ≡ false → c ≡ false → cond b x r ≡ cond c y s → r ≡ s
skip b c x y r s is is' h = let P : Bool → Type 0 = λ v. cond v x r ≡ cond c y s in let Q : Bool → Type 0 = λ v. r ≡ cond v y s in subst Q is' (subst P is h)

rest_equal : (e f : Entry) (es fs : Entries) → e.0 ≡ f.0 → AllByRecursion (λ (y : Slot). slot_cmp e.0 y ≡ Less) (keys_of es) → AllByRecursion (λ (y : Slot). slot_cmp f.0 y ≡ Less) (keys_of fs)
    → (t : Slot) → value_of t (e ∷ es) ≡ value_of t (f ∷ fs) → value_of t es ≡ value_of t fs
rest_equal e f es fs same above above' t h =
    let step : (b : Bool) → is_eq (slot_cmp t e.0) ≡ b → value_of t es ≡ value_of t fs =
    λ b. elim b as (λ b. is_eq (slot_cmp t e.0) ≡ b → value_of t es ≡ value_of t fs) [
      | true ↦ (λ here.
          let at_e : t ≡ e.0 = same_slot t e.0 (equal (slot_cmp t e.0) here) in
          let P : Slot → Type 0 = λ s. value_of s es ≡ None in
          let Q : Slot → Type 0 = λ s. value_of s fs ≡ None in
          subst P (sym at_e) (value_before e.0 es above) ∙ sym (subst Q (sym (at_e ∙ same)) (value_before f.0 fs above')))
      | false ↦ (λ other.
          let other' : is_eq (slot_cmp t f.0) ≡ false = ap (λ s. is_eq (slot_cmp t s)) (sym same) ∙ other in
          skip (is_eq (slot_cmp t e.0)) (is_eq (slot_cmp t f.0)) (Some e.1) (Some f.1) (value_of t es) (value_of t fs) other other' h)
    ] in
    step (is_eq (slot_cmp t e.0)) refl

-- entries in ascending order are equal where the same stands at each slot
pub equal_entries : (es fs : Entries) → AreAscending es → AreAscending fs → ((t : Slot) → value_of t es ≡ value_of t fs) → es ≡ fs
unfolding IsStrictlySortedBy
equal_entries [] [] up up' h = refl
equal_entries [] (f ∷ fs) up up' h = let a : None ≡ Some f.1 = h f.0 ∙ value_here f fs in let no : ⊥ = cc in absurd no
equal_entries (e ∷ es) [] up up' h = let a : None ≡ Some e.1 = sym (h e.0) ∙ value_here e es in let no : ⊥ = cc in absurd no
equal_entries (e ∷ es) (f ∷ fs) up up' h =
    let step : (o : Ordering) → slot_cmp e.0 f.0 ≡ o → e ∷ es ≡ f ∷ fs =
    λ o. elim o as (λ o. slot_cmp e.0 f.0 ≡ o → e ∷ es ≡ f ∷ fs) [
      | Less ↦ (λ is. absurd (apart (value_of e.0 (f ∷ fs)) e.1 (value_before_first e.0 f fs is up'.0) (sym (value_here e es) ∙ h e.0)))
      | Greater ↦ (λ is.
          let less : slot_cmp f.0 e.0 ≡ Less = slot_cmp_total.antisymm f.0 e.0 ∙ ap ordering_reverse is in
          absurd (apart (value_of f.0 (e ∷ es)) f.1 (value_before_first f.0 e es less up.0) (sym (value_here f fs) ∙ sym (h f.0))))
      | Equal ↦ (λ is.
          let slots : e.0 ≡ f.0 = same_slot e.0 f.0 is in
          let P : Slot → Type 0 = λ s. value_of s (f ∷ fs) ≡ Some f.1 in
          let values : Some e.1 ≡ Some f.1 = sym (value_here e es) ∙ h e.0 ∙ subst P (sym slots) (value_here f fs) in
          let datums : e.1 ≡ f.1 = cc in
          let first : e ≡ f = ap (λ (s : Slot). (s, e.1)) slots ∙ ap (λ (d : Datum). (f.0, d)) datums in
          let rest : es ≡ fs = equal_entries es fs up.1 up'.1 (λ t. rest_equal e f es fs slots up.0 up'.0 t (h t)) in
          ap (λ (x : Entry). x ∷ es) first ∙ ap (λ (l : Entries). f ∷ l) rest)
    ] in
    step (slot_cmp e.0 f.0) refl

-- each entry stands at its slot
abbrev pub AreThere : Entries → Entries → Type 0
AreThere es part = AllByRecursion (λ (e : Entry). value_of e.0 es ≡ Some e.1) part

there_more : (e : Entry) (es part : Entries) → AllByRecursion (λ (y : Slot). slot_cmp e.0 y ≡ Less) (keys_of part) → AreThere es part → AreThere (e ∷ es) part
there_more e es [] above h = tt
there_more e es (x ∷ part) above h =
    let greater : slot_cmp x.0 e.0 ≡ Greater = slot_cmp_total.antisymm x.0 e.0 ∙ ap ordering_reverse above.0 in
    (rw greater h.0, there_more e es part above.1 h.1)

pub all_there : (es : Entries) → AreAscending es → AreThere es es
unfolding IsStrictlySortedBy
all_there [] up = tt
all_there (e ∷ es) up = (value_here e es, there_more e es es up.0 (all_there es up.1))
