-- Atoms that are added to groups one by one stand in them by their slots, and are the same atoms.
use Rattle.std.proofs.Common.{◌≡◌, ℕ, ◌+◌, ◌<◌, length, take, get_or, List, [], ◌∷◌, ◌++◌, map, fold, Bool, true, false, cond, ◌&&◌, ◌||◌, refl, sym, ap, ◌∙◌, subst, append_assoc, append-nil, Some}
use Rattle.std.specs.Option.{unwrap_or}
use Rattle.std.specs.Map.{lookup}
use Rattle.indexmap.specs.IndexMap.{insert_entry}
use Rattle.std.specs.List.{list_any, list_all, flat_map, IsDistinct, AllByRecursion}
use Rattle.std.proofs.lemmas.Bool.{false≢true, or_parts, or_from, false_from_ne_true}
use Rattle.std.proofs.lemmas.List.Elements.{filter-append}
use Rattle.std.proofs.lemmas.List.Folds.{list_any-append, list_all-append, flat_map-map}
use Rattle.std.proofs.lemmas.List.{map-append, take_more}
use Rattle.std.proofs.lemmas.List.Sums.{fold_push}
use Rattle.std.proofs.lemmas.Grind.{flat_map-append}
use Rattle.std.proofs.lemmas.Map.Keys.{IsDistinct-push}
use Rattle.key_table.specs.declared.slot.Slot.{Slot}
use Rattle.key_table.specs.declared.atom.Atom.{Atom}
use Rattle.key_table.specs.contracts.slot.SlotPartialEq.TheImpl as by_equality
use Rattle.vir_lowering.specs.Grouped.{is_slot, with_slot, slots_of, atoms_at, grouped}
use Rattle.vir_lowering.specs.Groups.{Groups, with_atom, atoms_of_groups}
use Rattle.dir_typing.specs.declared.dir.DirComparison.{DirComparison}
use Rattle.vir_lowering.specs.Atoms.{atom_of}
use Rattle.vir_lowering.proofs.SameSlots.{is_slot_laws, equal_slots, slots_alike}

abbrev group_at : List Atom → Slot → Slot × List Atom
group_at atoms slot = (slot, atoms_at atoms slot)

-- the atoms at a slot, with one atom more
one_more : (atoms : List Atom) (a : Atom) (slot : Slot) (b : Bool) → is_slot a.slot slot ≡ b → atoms_at (atoms ++ a ∷ []) slot ≡ atoms_at atoms slot ++ cond b (a ∷ []) []
one_more atoms a slot b is = filter-append (λ (x : Atom). is_slot x.slot slot) atoms (a ∷ []) ∙ ap (λ c. atoms_at atoms slot ++ cond c (a ∷ []) []) is

other_stays : (atoms : List Atom) (a : Atom) (slot : Slot) → is_slot a.slot slot ≡ false → atoms_at (atoms ++ a ∷ []) slot ≡ atoms_at atoms slot
other_stays atoms a slot is = one_more atoms a slot false is ∙ append-nil (atoms_at atoms slot)

-- no group changes whose slot is another
others_stay : (atoms : List Atom) (a : Atom) (slots : List Slot) → AllByRecursion (λ slot. is_slot a.slot slot ≡ false) slots → map (group_at (atoms ++ a ∷ [])) slots ≡ map (group_at atoms) slots
others_stay atoms a [] others = refl
others_stay atoms a (s ∷ slots) others =
    ap (λ ys. (s, ys) ∷ map (group_at (atoms ++ a ∷ [])) slots) (other_stays atoms a s others.0) ∙ ap (λ gs. group_at atoms s ∷ gs) (others_stay atoms a slots others.1)

keep_cond : (b : Bool) (s : Slot) (xs ys : List Slot) → s ∷ cond b xs ys ≡ cond b (s ∷ xs) (s ∷ ys)
keep_cond true s xs ys = refl
keep_cond false s xs ys = refl

-- An atom goes into the group of its slot.
added_at : (atoms : List Atom) (a : Atom) (s : Slot) (slots : List Slot) (b : Bool) → is_slot a.slot s ≡ b → AllByRecursion (λ slot. is_slot s slot ≡ false) slots
    → (is_slot a.slot s ≡ false → with_atom (map (group_at atoms) slots) a ≡ map (group_at (atoms ++ a ∷ [])) (with_slot slots a.slot))
    → with_atom (map (group_at atoms) (s ∷ slots)) a ≡ map (group_at (atoms ++ a ∷ [])) (with_slot (s ∷ slots) a.slot)
added_at atoms a s slots true is apart rest =
    let P : Slot → Type 0 = λ slot. AllByRecursion (λ other. is_slot slot other ≡ false) slots in
    let others = subst P (sym (equal_slots a.slot s is)) apart in
    ap (λ b. cond b ((s, atoms_at atoms s ++ a ∷ []) ∷ map (group_at atoms) slots) (group_at atoms s ∷ with_atom (map (group_at atoms) slots) a)) is
    ∙ ap (λ ys. (s, ys) ∷ map (group_at atoms) slots) (sym (one_more atoms a s true is))
    ∙ ap (λ gs. group_at (atoms ++ a ∷ []) s ∷ gs) (sym (others_stay atoms a slots others))
    ∙ ap (λ b. map (group_at (atoms ++ a ∷ [])) (cond (b || list_any (is_slot a.slot) slots) (s ∷ slots) (s ∷ slots ++ a.slot ∷ []))) (sym is)
added_at atoms a s slots false is apart rest =
    ap (λ b. cond b ((s, atoms_at atoms s ++ a ∷ []) ∷ map (group_at atoms) slots) (group_at atoms s ∷ with_atom (map (group_at atoms) slots) a)) is
    ∙ ap (λ ys. (s, ys) ∷ with_atom (map (group_at atoms) slots) a) (sym (other_stays atoms a s is))
    ∙ ap (λ gs. group_at (atoms ++ a ∷ []) s ∷ gs) (rest is)
    ∙ ap (map (group_at (atoms ++ a ∷ []))) (keep_cond (list_any (is_slot a.slot) slots) s slots (slots ++ a.slot ∷ []))
    ∙ ap (λ b. map (group_at (atoms ++ a ∷ [])) (cond (b || list_any (is_slot a.slot) slots) (s ∷ slots) (s ∷ slots ++ a.slot ∷ []))) (sym is)

added : (atoms : List Atom) (a : Atom) (slots : List Slot) → IsDistinct is_slot slots → (list_any (is_slot a.slot) slots ≡ false → atoms_at atoms a.slot ≡ [])
    → with_atom (map (group_at atoms) slots) a ≡ map (group_at (atoms ++ a ∷ [])) (with_slot slots a.slot)
unfolding IsDistinct
added atoms a [] distinct none =
    ap (λ ys. (a.slot, ys ++ a ∷ []) ∷ []) (sym (none refl)) ∙ ap (λ ys. (a.slot, ys) ∷ []) (sym (one_more atoms a a.slot true (is_slot_laws.refl a.slot)))
added atoms a (s ∷ slots) distinct none =
    added_at atoms a s slots (is_slot a.slot s) refl distinct.0 (λ is. added atoms a slots distinct.1 (λ h. none (or_from _ _ is h)))

-- No slot stands twice, and at a slot that is none of them there is no atom.
record AreSlots (atoms : List Atom) (slots : List Slot) : Type 0 where
  distinct : IsDistinct is_slot slots
  none : (slot : Slot) → list_any (is_slot slot) slots ≡ false → atoms_at atoms slot ≡ []

no_slots : AreSlots [] []
unfolding IsDistinct
no_slots = record { distinct = tt; none = λ slot new. refl }

more_slots : (atoms : List Atom) (a : Atom) (slots : List Slot) → AreSlots atoms slots → AreSlots (atoms ++ a ∷ []) (with_slot slots a.slot)
more_slots atoms a slots are = record {
  distinct = elim (list_any (is_slot a.slot) slots) as (λ b. list_any (is_slot a.slot) slots ≡ b → IsDistinct is_slot (cond b slots (slots ++ a.slot ∷ [])))
      [ true ↦ (λ there. are.distinct) | false ↦ (λ new. IsDistinct-push is_slot_laws slots a.slot are.distinct new) ] refl;
  none = λ slot. elim (list_any (is_slot a.slot) slots) as (λ b. list_any (is_slot a.slot) slots ≡ b → list_any (is_slot slot) (cond b slots (slots ++ a.slot ∷ [])) ≡ false → atoms_at (atoms ++ a ∷ []) slot ≡ []) [
    | true ↦ (λ there new. other_stays atoms a slot (false_from_ne_true _ (λ same. false≢true (sym new ∙ ap (λ s. list_any (is_slot s) slots) (sym (equal_slots a.slot slot same)) ∙ there))) ∙ are.none slot new)
    | false ↦ (λ absent new.
        let parts = or_parts _ _ (sym (list_any-append (is_slot slot) slots (a.slot ∷ [])) ∙ new) in
        other_stays atoms a slot (is_slot_laws.symm a.slot slot ∙ (or_parts (is_slot slot a.slot) false parts.1).0) ∙ are.none slot parts.0)
  ] refl;
}

groups_are : (atoms more : List Atom) (slots : List Slot) → AreSlots atoms slots → fold with_atom (map (group_at atoms) slots) more ≡ map (group_at (atoms ++ more)) (fold with_slot slots (map (λ (a : Atom). a.slot) more))
groups_are atoms [] slots are = ap (λ ys. map (group_at ys) slots) (sym (append-nil atoms))
groups_are atoms (a ∷ more) slots are =
    ap (λ gs. fold with_atom gs more) (added atoms a slots are.distinct (are.none a.slot))
    ∙ groups_are (atoms ++ a ∷ []) more (with_slot slots a.slot) (more_slots atoms a slots are)
    ∙ ap (λ ys. map (group_at ys) (fold with_slot (with_slot slots a.slot) (map (λ (a : Atom). a.slot) more))) (append_assoc atoms (a ∷ []) more)

-- Groups that are made one atom at a time hold the atoms by their slots.
pub groups_joined : (atoms : List Atom) → atoms_of_groups (fold with_atom [] atoms) ≡ grouped atoms
groups_joined atoms = ap atoms_of_groups (groups_are [] atoms [] no_slots) ∙ flat_map-map (λ (g : Slot × List Atom). g.1) (group_at atoms) (slots_of atoms)

-- An entry that is put at the slot of an atom, with the atom last, is the atom added to its group.
pub entry_added : (groups : Groups) (a : Atom) → insert_entry by_equality.eq-value.it groups a.slot (unwrap_or (lookup (by_equality.eq-value.it a.slot) groups) [] ++ a ∷ []) ≡ with_atom groups a
entry_added [] a = refl
entry_added (g ∷ gs) a =
    let found : Bool → List Atom = λ b. unwrap_or (cond b (Some g.1) (lookup (by_equality.eq-value.it a.slot) gs)) [] ++ a ∷ [] in
    let put : Bool → Groups = λ b. cond b ((g.0, found b) ∷ gs) (g ∷ insert_entry by_equality.eq-value.it gs a.slot (found b)) in
    ap put (slots_alike a.slot g.0)
    ∙ (elim (is_slot a.slot g.0) as (λ b. put b ≡ cond b ((g.0, g.1 ++ a ∷ []) ∷ gs) (g ∷ with_atom gs a)) [ true ↦ refl | false ↦ ap (λ gs. g ∷ gs) (entry_added gs a) ])

and_true : (x : Bool) → (x && true) ≡ x
and_true true = refl
and_true false = refl

and_assoc : (x y z : Bool) → (x && (y && z)) ≡ ((x && y) && z)
and_assoc true y z = refl
and_assoc false y z = refl

and_last : (x y z : Bool) → ((x && (y && true)) && z) ≡ ((x && z) && y)
and_last false y z = refl
and_last true true true = refl
and_last true true false = refl
and_last true false true = refl
and_last true false false = refl

module _ (p : Atom → Bool) where
  added_all : (groups : Groups) (a : Atom) → list_all p (atoms_of_groups (with_atom groups a)) ≡ (list_all p (atoms_of_groups groups) && p a)
  added_all [] a = and_true (p a)
  added_all (g ∷ gs) a =
      elim (is_slot a.slot g.0) as (λ b. list_all p (atoms_of_groups (cond b ((g.0, g.1 ++ a ∷ []) ∷ gs) (g ∷ with_atom gs a))) ≡ (list_all p (g.1 ++ atoms_of_groups gs) && p a)) [
        | true ↦ list_all-append p (g.1 ++ a ∷ []) (atoms_of_groups gs) ∙ ap (λ b. b && list_all p (atoms_of_groups gs)) (list_all-append p g.1 (a ∷ []))
            ∙ and_last (list_all p g.1) (p a) (list_all p (atoms_of_groups gs)) ∙ ap (λ b. b && p a) (sym (list_all-append p g.1 (atoms_of_groups gs)))
        | false ↦ list_all-append p g.1 (atoms_of_groups (with_atom gs a)) ∙ ap (λ b. list_all p g.1 && b) (added_all gs a)
            ∙ and_assoc (list_all p g.1) (list_all p (atoms_of_groups gs)) (p a) ∙ ap (λ b. b && p a) (sym (list_all-append p g.1 (atoms_of_groups gs)))
      ]

  all_added : (groups : Groups) (atoms : List Atom) → list_all p (atoms_of_groups (fold with_atom groups atoms)) ≡ (list_all p (atoms_of_groups groups) && list_all p atoms)
  all_added groups [] = sym (and_true _)
  all_added groups (a ∷ atoms) =
      all_added (with_atom groups a) atoms ∙ ap (λ b. b && list_all p atoms) (added_all groups a) ∙ sym (and_assoc (list_all p (atoms_of_groups groups)) (p a) (list_all p atoms))

  -- What all atoms pass, all atoms pass by their slots, and the other way round.
  pub grouped_all : (atoms : List Atom) → list_all p (grouped atoms) ≡ list_all p atoms
  grouped_all atoms = ap (list_all p) (sym (groups_joined atoms)) ∙ all_added [] atoms

-- ---- at each slot that is new, all atoms at that slot

among_true : (s t : Slot) (slots : List Slot) → is_slot s t ≡ true → list_any (is_slot t) slots ≡ true → list_any (is_slot s) slots ≡ true
among_true s t slots same there = ap (λ x. list_any (is_slot x) slots) (equal_slots s t same) ∙ there

or_right : (b : Bool) → (b || false) ≡ b
or_right true = refl
or_right false = refl

-- A slot is among the slots with one more exactly where it was among them or is that one.
with_among : (s t : Slot) (slots : List Slot) → list_any (is_slot s) (with_slot slots t) ≡ (list_any (is_slot s) slots || is_slot s t)
with_among s t slots =
    elim (list_any (is_slot t) slots) as (λ b. list_any (is_slot t) slots ≡ b → list_any (is_slot s) (cond b slots (slots ++ t ∷ [])) ≡ (list_any (is_slot s) slots || is_slot s t)) [
      | true ↦ (λ there. elim (is_slot s t) as (λ b. is_slot s t ≡ b → list_any (is_slot s) slots ≡ (list_any (is_slot s) slots || b)) [
        | true ↦ (λ same. among_true s t slots same there ∙ sym (ap (λ b. b || true) (among_true s t slots same there)))
        | false ↦ (λ other. sym (or_right (list_any (is_slot s) slots)))
      ] refl)
      | false ↦ (λ new. list_any-append (is_slot s) slots (t ∷ []) ∙ ap (λ b. list_any (is_slot s) slots || b) (or_right (is_slot s t)))
    ] refl

or_assoc : (x y z : Bool) → ((x || y) || z) ≡ (x || (y || z))
or_assoc true y z = refl
or_assoc false y z = refl

-- A slot is among those of first appearance exactly where it is among them all.
fold_among : (s : Slot) (slots more : List Slot) → list_any (is_slot s) (fold with_slot slots more) ≡ (list_any (is_slot s) slots || list_any (is_slot s) more)
fold_among s slots [] = sym (or_right (list_any (is_slot s) slots))
fold_among s slots (t ∷ more) = fold_among s (with_slot slots t) more ∙ ap (λ b. b || list_any (is_slot s) more) (with_among s t slots) ∙ or_assoc (list_any (is_slot s) slots) (is_slot s t) (list_any (is_slot s) more)

-- the slots of comparisons, and the atoms at the slots that the first so many of them have
abbrev pub slots_alone : List DirComparison → List Slot
slots_alone cs = map (λ (c : DirComparison). c.slot) cs

abbrev pub placed : List DirComparison → List DirComparison → List Atom
placed all front = flat_map (atoms_at (map atom_of all)) (fold with_slot [] (slots_alone front))

any_slots : (s : Slot) (cs : List DirComparison) → list_any (λ (c : DirComparison). is_slot s c.slot) cs ≡ list_any (is_slot s) (slots_alone cs)
any_slots s [] = refl
any_slots s (c ∷ cs) = ap (λ b. is_slot s c.slot || b) (any_slots s cs)

-- One comparison more, whose slot stands among those before it, or is new.
known_next : (all front : List DirComparison) (c : DirComparison) (b : Bool) → list_any (λ (d : DirComparison). is_slot c.slot d.slot) front ≡ b
    → placed all (front ++ c ∷ []) ≡ flat_map (atoms_at (map atom_of all)) (cond b (fold with_slot [] (slots_alone front)) (fold with_slot [] (slots_alone front) ++ c.slot ∷ []))
known_next all front c b is =
    let slots = fold with_slot [] (slots_alone front) in
    let at = flat_map (atoms_at (map atom_of all)) in
    ap at (ap (fold with_slot []) (map-append (λ (d : DirComparison). d.slot) front (c ∷ [])) ∙ fold_push with_slot [] (slots_alone front) c.slot)
    ∙ ap (λ b. at (cond b slots (slots ++ c.slot ∷ []))) (fold_among c.slot [] (slots_alone front) ∙ sym (any_slots c.slot front) ∙ is)

pub placed_known : (all : List DirComparison) (i : ℕ) (c : DirComparison) (atoms : List Atom) → i < length all → c ≡ get_or all i c → atoms ≡ placed all (take i all)
    → list_any (λ (d : DirComparison). is_slot c.slot d.slot) (take i all) ≡ true → atoms ≡ placed all (take (i + 1) all)
placed_known all i c atoms within is so_far known =
    so_far ∙ sym (known_next all (take i all) c true known) ∙ sym (ap (placed all) (take_more all i c within ∙ ap (λ d. take i all ++ d ∷ []) (sym is)))

pub placed_new : (all : List DirComparison) (i : ℕ) (c : DirComparison) (atoms : List Atom) → i < length all → c ≡ get_or all i c → atoms ≡ placed all (take i all)
    → list_any (λ (d : DirComparison). is_slot c.slot d.slot) (take i all) ≡ false → atoms ++ atoms_at (map atom_of all) c.slot ≡ placed all (take (i + 1) all)
placed_new all i c atoms within is so_far new =
    let slots = fold with_slot [] (slots_alone (take i all)) in
    let at = flat_map (atoms_at (map atom_of all)) in
    ap (λ xs. xs ++ atoms_at (map atom_of all) c.slot) so_far ∙ ap (λ xs. at slots ++ xs) (sym (append-nil (atoms_at (map atom_of all) c.slot)))
    ∙ sym (flat_map-append (atoms_at (map atom_of all)) slots (c.slot ∷ [])) ∙ sym (known_next all (take i all) c false new)
    ∙ sym (ap (placed all) (take_more all i c within ∙ ap (λ d. take i all ++ d ∷ []) (sym is)))

slots_of_all : (cs : List DirComparison) → map (λ (a : Atom). a.slot) (map atom_of cs) ≡ slots_alone cs
slots_of_all [] = refl
slots_of_all (c ∷ cs) = ap (λ ss. c.slot ∷ ss) (slots_of_all cs)

pub all_placed : (all : List DirComparison) → placed all all ≡ grouped (map atom_of all)
all_placed all = ap (λ ss. flat_map (atoms_at (map atom_of all)) (fold with_slot [] ss)) (sym (slots_of_all all))
