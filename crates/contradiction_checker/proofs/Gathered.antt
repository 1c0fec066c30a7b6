-- The assumptions on a slot, found along its chain.
use Rattle.std.proofs.Common.{◌≡◌, ℕ, zero, suc, ◌+◌, ◌<◌, ◌≤◌, ◌==◌, List, [], ◌∷◌, ◌++◌, length, take, reverse, get_or, append_assoc, append-nil, subst, Bool, true, false, cond, Option, Some, None, refl, ap, sym, ◌∙◌, arith, slice_get, Ordering, Less, Equal, Greater}
use Rattle.std.specs.List.{list_any, filter}
use Rattle.std.proofs.lemmas.List.{take_more, reverse-append}
use Rattle.std.proofs.lemmas.List.Elements.{filter-append}
use Rattle.std.specs.Option.{option_map_or}
use Rattle.std.specs.Ordering.{is_eq}
use Rattle.std.proofs.lemmas.Bool.{or_parts, both_ways, false_from_ne_true, false≢true, eq-eqb}
use Rattle.key_table.specs.declared.atom.Atom.{Atom}
use Rattle.key_table.specs.declared.slot.Slot.{Slot}
use Rattle.key_table.specs.Slots.{slot_cmp, SameSlotLaw}
use Rattle.contradiction_checker.specs.declared.options.Assumed.{Assumed}
use Rattle.contradiction_checker.specs.Assumed.{is_on}
use Rattle.contradiction_checker.specs.Chains.{chain_of, is_in, numbers_of, EndsBy}
use Rattle.contradiction_checker.proofs.Linked.{numbers_count}

is-equal : (o : Ordering) → is_eq o ≡ true → o ≡ Equal
is-equal Less h = absurd (false≢true h)
is-equal Equal h = refl
is-equal Greater h = absurd (false≢true h)

in_chain : SameSlotLaw → (count : ℕ) (slot : Slot) (o : Option Atom) → option_map_or (λ (atom : Atom). is_eq (slot_cmp slot atom.slot)) o false ≡ true → (option_map_or (λ (a : Atom). chain_of count a.slot) o 0 == chain_of count slot) ≡ true
in_chain law count slot None on = cc
in_chain law count slot (Some atom) on = eq-eqb (chain_of count atom.slot) (chain_of count slot) (ap (chain_of count) (sym (law slot atom.slot (is-equal (slot_cmp slot atom.slot) on))))

-- what is not in the chain of a slot is not on the slot
pub not_on : SameSlotLaw → (atoms : List Atom) (count : ℕ) (slot : Slot) (a : Assumed) → is_in atoms count (chain_of count slot) a.atom ≡ false → is_on atoms slot a ≡ false
not_on law atoms count slot a other = false_from_ne_true (is_on atoms slot a) (λ on. both_ways (is_in atoms count (chain_of count slot) a.atom) other (in_chain law count slot (slice_get atoms a.atom) on))

none_on : SameSlotLaw → (atoms : List Atom) (count : ℕ) (slot : Slot) (assumed : List Assumed) (p : ℕ) → list_any (is_in atoms count (chain_of count slot)) (take p (numbers_of assumed)) ≡ false → filter (is_on atoms slot) (take p assumed) ≡ []
none_on law atoms count slot assumed zero none = refl
none_on law atoms count slot [] (suc p) none = refl
none_on law atoms count slot (a ∷ assumed) (suc p) none =
    let parts = or_parts (is_in atoms count (chain_of count slot) a.atom) (list_any (is_in atoms count (chain_of count slot)) (take p (numbers_of assumed))) none in
    let rest = none_on law atoms count slot assumed p parts.1 in
    ap (λ (b : Bool). cond b (a ∷ filter (is_on atoms slot) (take p assumed)) (filter (is_on atoms slot) (take p assumed))) (not_on law atoms count slot a parts.0) ∙ rest

-- Those on a slot stand before the place by which its chain ends.
pub narrowed : SameSlotLaw → (atoms : List Atom) (count : ℕ) (slot : Slot) (assumed : List Assumed) (p e : ℕ) → e ≤ p → EndsBy atoms count (chain_of count slot) (take p (numbers_of assumed)) e → filter (is_on atoms slot) (take p assumed) ≡ filter (is_on atoms slot) (take e assumed)
narrowed law atoms count slot assumed p zero within ends = none_on law atoms count slot assumed p ends
narrowed law atoms count slot assumed zero (suc e) within ends = absurd (omega arith)
narrowed law atoms count slot [] (suc p) (suc e) within ends = refl
narrowed law atoms count slot (a ∷ assumed) (suc p) (suc e) within ends =
    ap (λ (l : List Assumed). cond (is_on atoms slot a) (a ∷ l) l) (narrowed law atoms count slot assumed p e (omega arith) ends)

filter_more : {X : Type 0} (f : X → Bool) (xs : List X) (p : ℕ) (d : X) → p < length xs → filter f (take (p + 1) xs) ≡ filter f (take p xs) ++ cond (f (get_or xs p d)) (get_or xs p d ∷ []) []
filter_more f xs p d within = ap (filter f) (take_more xs p d within) ∙ filter-append f (take p xs) (get_or xs p d ∷ [])

-- What is gathered, the last one first, where one more is met or passed over.
kept_next : {X : Type 0} (all front : List X) (b : Bool) (x : X) (mine kept : List X) → all ≡ (front ++ cond b (x ∷ []) []) ++ reverse mine → kept ≡ cond b (mine ++ x ∷ []) mine → all ≡ front ++ reverse kept
kept_next all front true x mine kept before is = before ∙ append_assoc front (x ∷ []) (reverse mine) ∙ ap (λ (l : List _). front ++ l) (sym (reverse-append mine (x ∷ []))) ∙ ap (λ (l : List _). front ++ reverse l) (sym is)
kept_next all front false x mine kept before is = before ∙ ap (λ (l : List _). l ++ reverse mine) (append-nil front) ∙ ap (λ (l : List _). front ++ reverse l) (sym is)

-- One step along a chain.
pub gathered : SameSlotLaw → (atoms : List Atom) (count : ℕ) (slot : Slot) (assumed mine kept : List Assumed) (end p e : ℕ) (a : Assumed) → end ≡ p + 1 → p < length assumed → e ≤ p → a ≡ get_or assumed p a → EndsBy atoms count (chain_of count slot) (take p (numbers_of assumed)) e → filter (is_on atoms slot) assumed ≡ filter (is_on atoms slot) (take end assumed) ++ reverse mine → kept ≡ cond (is_on atoms slot a) (mine ++ a ∷ []) mine → filter (is_on atoms slot) assumed ≡ filter (is_on atoms slot) (take e assumed) ++ reverse kept
gathered law atoms count slot assumed mine kept end p e a next within lower at_p ends before is =
    let on = is_on atoms slot in
    let upto : filter on (take end assumed) ≡ filter on (take p assumed) ++ cond (on a) (a ∷ []) [] =
    ap (λ (n : ℕ). filter on (take n assumed)) next
    ∙ filter_more on assumed p a within
    ∙ ap (λ (b : Assumed). filter on (take p assumed) ++ cond (on b) (b ∷ []) []) (sym at_p) in
    kept_next (filter on assumed) (filter on (take p assumed)) (on a) a mine kept (before ∙ ap (λ (l : List Assumed). l ++ reverse mine) upto) is
    ∙ ap (λ (l : List Assumed). l ++ reverse kept) (narrowed law atoms count slot assumed p e lower ends)

take_all : {X : Type 0} (xs : List X) → take (length xs) xs ≡ xs
take_all [] = refl
take_all (x ∷ xs) = ap (λ (l : List _). x ∷ l) (take_all xs)

-- The first step.
pub gathered_first : SameSlotLaw → (atoms : List Atom) (count : ℕ) (slot : Slot) (assumed : List Assumed) (e : ℕ) → e ≤ length assumed → EndsBy atoms count (chain_of count slot) (numbers_of assumed) e → filter (is_on atoms slot) assumed ≡ filter (is_on atoms slot) (take e assumed) ++ reverse []
gathered_first law atoms count slot assumed e within ends =
    let on = is_on atoms slot in
    let P : List ℕ → Type 0 = λ ns. EndsBy atoms count (chain_of count slot) ns e in
    let whole : take (length assumed) (numbers_of assumed) ≡ numbers_of assumed = ap (λ (n : ℕ). take n (numbers_of assumed)) (sym (numbers_count assumed)) ∙ take_all (numbers_of assumed) in
    ap (filter on) (sym (take_all assumed)) ∙ narrowed law atoms count slot assumed (length assumed) e within (subst P (sym whole) ends) ∙ sym (append-nil (filter on (take e assumed)))
