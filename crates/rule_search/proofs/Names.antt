-- The atoms that items name, once each in order of first naming, and their places.
use Rattle.std.proofs.Common.{◌≡◌, ℕ, zero, suc, ◌+◌, ◌<◌, ◌≤◌, List, [], ◌∷◌, ◌++◌, length, map, take, get_or, slice_get, Bool, true, false, cond, not, ◌||◌, Option, Some, None, IfSome, refl, ap, ◌∙◌, sym, subst, arith, length-append, eqb, inl, inr}
use Rattle.std.specs.List.{list_any, fold, cons_option, AllByRecursion, Contains, filter_map}
use Rattle.std.proofs.lemmas.Bool.{or_left, or_right, cases_Bool, cond_both, eq-eqb, eqb-true, true≢false, false_from_ne_true}
use Rattle.std.proofs.lemmas.List.{map-append, take_more}
use Rattle.std.proofs.lemmas.List.Elements.{filter_map-append, All-from_recursion}
use Rattle.std.proofs.lemmas.List.Folds.{list_any-append}
use Rattle.std.proofs.lemmas.Option.{slice_get-get_or}
use Rattle.key_table.specs.declared.atom.Atom.{Atom}
use Rattle.key_table.specs.contracts.atom.AtomEq.TheImpl.Laws as equal_atoms
use Rattle.rule_problem.specs.declared.certificate.Item.{Item}
use Rattle.rule_problem.specs.declared.certificate.Item.TheVariants.{Split}
use Rattle.rule_problem.specs.Distinct.{is_same, is_among, with_atom, place_in}
use Rattle.rule_problem.specs.Distinct as atoms_apart
use Rattle.rule_problem.specs.declared.problem.Problem.{Problem}
use Rattle.rule_problem.specs.Reasons.{void, want, bar, goal}
use Rattle.rule_problem.specs.Trees.{Tree, missing, closed, split, items_of, named_by, named_in, split_count, Spells}
use Rattle.rule_search.specs.Finding.{SplitsOn}
use Rattle.rule_search.specs.Naming.{atom_of, numbers_of, with_number, firsts, place_of, renumbered}
use Rattle.rule_search.specs.Reports.{AreNamed}
use Rattle.rule_search.specs.Standings.{AreNumbered}
use Rattle.rule_search.proofs.Retraces.{SameLaw}

fold-append : {X Y : Type 0} (f : Y → X → Y) (a : Y) (xs ys : List X) → fold f a (xs ++ ys) ≡ fold f (fold f a xs) ys
fold-append f a [] ys = refl
fold-append f a (x ∷ xs) ys = fold-append f (f a x) xs ys

-- One item more.
named_more : (items : List Item) (i : ℕ) (d : Item) → i < length items → numbers_of (take (i + 1) items) ≡ numbers_of (take i items) ++ cons_option (atom_of (get_or items i d)) []
named_more items i d within = ap numbers_of (take_more items i d within) ∙ filter_map-append atom_of (take i items) (get_or items i d ∷ [])

pub firsts_some : (items : List Item) (i x : ℕ) (d : Item) → i < length items → atom_of (get_or items i d) ≡ Some x → firsts (numbers_of (take (i + 1) items)) ≡ with_number (firsts (numbers_of (take i items))) x
firsts_some items i x d within is = ap firsts (named_more items i d within ∙ ap (λ o. numbers_of (take i items) ++ cons_option o []) is) ∙ fold-append with_number [] (numbers_of (take i items)) (x ∷ [])

pub firsts_none : (items : List Item) (i : ℕ) (d : Item) → i < length items → atom_of (get_or items i d) ≡ None → firsts (numbers_of (take (i + 1) items)) ≡ firsts (numbers_of (take i items))
firsts_none items i d within is = ap firsts (named_more items i d within ∙ ap (λ o. numbers_of (take i items) ++ cons_option o []) is) ∙ fold-append with_number [] (numbers_of (take i items)) []

-- Each name stands among the firsts.
kept : (p : ℕ → Bool) (acc xs : List ℕ) → list_any p acc ≡ true → list_any p (fold with_number acc xs) ≡ true
kept p acc [] h = h
kept p acc (x ∷ xs) h =
    kept p (with_number acc x) xs (cond_both (list_any (eqb x) acc) acc (acc ++ x ∷ []) (λ ys. list_any p ys ≡ true) (λ _. h) (λ _. list_any-append p acc (x ∷ []) ∙ or_left (list_any p acc) (p x || false) h))

itself : (acc : List ℕ) (x : ℕ) → list_any (eqb x) (with_number acc x) ≡ true
itself acc x =
    cond_both (list_any (eqb x) acc) acc (acc ++ x ∷ []) (λ ys. list_any (eqb x) ys ≡ true) (λ h. h)
    (λ _. list_any-append (eqb x) acc (x ∷ []) ∙ or_right (list_any (eqb x) acc) (eqb x x || false) (or_left (eqb x x) false (eq-eqb x x refl)))

all_stand : (acc xs : List ℕ) → AllByRecursion (λ x. list_any (eqb x) (fold with_number acc xs) ≡ true) xs
all_stand acc [] = tt
all_stand acc (x ∷ xs) = (kept (eqb x) (with_number acc x) xs (itself acc x), all_stand (with_number acc x) xs)

pub each_stands : (xs : List ℕ) → AllByRecursion (λ x. list_any (eqb x) (firsts xs) ≡ true) xs
each_stands xs = all_stand [] xs

-- There are at most as many.
length-with_number : (acc : List ℕ) (x : ℕ) → length (with_number acc x) ≤ length acc + 1
length-with_number acc x = cond_both (list_any (eqb x) acc) acc (acc ++ x ∷ []) (λ ys. length ys ≤ length acc + 1) (λ _. omega arith) (λ _. let e = length-append acc (x ∷ []) in omega arith)

length-fold : (acc xs : List ℕ) → length (fold with_number acc xs) ≤ length acc + length xs
length-fold acc [] = omega arith
length-fold acc (x ∷ xs) = let h = length-fold (with_number acc x) xs in let k = length-with_number acc x in omega arith

pub length-firsts : (xs : List ℕ) → length (firsts xs) ≤ length xs
length-firsts xs = let h = length-fold [] xs in omega arith

first_name : (P : ℕ → Type 0) (o : Option ℕ) (rest : List ℕ) → AllByRecursion P (cons_option o rest) → IfSome o P
first_name P None rest h = tt
first_name P (Some x) rest h = h.0

other_names : (P : ℕ → Type 0) (o : Option ℕ) (rest : List ℕ) → AllByRecursion P (cons_option o rest) → AllByRecursion P rest
other_names P None rest h = h
other_names P (Some x) rest h = h.1

-- what holds of each name, at one item
pub named_at : (P : ℕ → Type 0) (items : List Item) (i : ℕ) (d : Item) → i < length items → AllByRecursion P (numbers_of items) → IfSome (atom_of (get_or items i d)) P
named_at P [] i d within h = absurd (omega arith)
named_at P (item ∷ items) zero d within h = first_name P (atom_of item) (numbers_of items) h
named_at P (item ∷ items) (suc i) d within h = named_at P items i d (omega arith) (other_names P (atom_of item) (numbers_of items) h)

-- ---- atoms by their numbers

-- The items of a tree with other numbers.
renumbered_items : (f : ℕ → ℕ) (number : Atom → ℕ) (tree : Tree) → map (renumbered f) (items_of number tree) ≡ items_of (λ a. f (number a)) tree
renumbered_items f number missing = refl
renumbered_items f number (closed (void x)) = refl
renumbered_items f number (closed (want w)) = refl
renumbered_items f number (closed (bar b)) = refl
renumbered_items f number (closed goal) = refl
renumbered_items f number (split x left right) =
    ap (λ i. Split (f (number x)) ∷ i) (map-append (renumbered f) (items_of number left) (items_of number right))
    ∙ ap (λ i. Split (f (number x)) ∷ (i ++ map (renumbered f) (items_of number right))) (renumbered_items f number left)
    ∙ ap (λ i. Split (f (number x)) ∷ (items_of (λ a. f (number a)) left ++ i)) (renumbered_items f number right)

-- The numbers that the items of a tree name are those of its atoms.
pub numbers_named : (number : Atom → ℕ) (tree : Tree) → numbers_of (items_of number tree) ≡ map number (named_in tree)
numbers_named number missing = refl
numbers_named number (closed (void x)) = refl
numbers_named number (closed (want w)) = refl
numbers_named number (closed (bar b)) = refl
numbers_named number (closed goal) = refl
numbers_named number (split x left right) =
    ap (λ n. number x ∷ n) (filter_map-append atom_of (items_of number left) (items_of number right)
    ∙ ap (λ n. n ++ numbers_of (items_of number right)) (numbers_named number left)
    ∙ ap (λ n. map number (named_in left) ++ n) (numbers_named number right)
    ∙ sym (map-append number (named_in left) (named_in right)))

all_joined : {X : Type 0} (P : X → Type 0) (xs ys : List X) → AllByRecursion P xs → AllByRecursion P ys → AllByRecursion P (xs ++ ys)
all_joined P [] ys h k = k
all_joined P (x ∷ xs) ys h k = (h.0, all_joined P xs ys h.1 k)

-- The atoms of a tree whose splits are on the problem's atoms.
pub own_named : (atoms : List Atom) (tree : Tree) → SplitsOn atoms tree → AllByRecursion (Contains atoms) (named_in tree)
own_named atoms missing h = tt
own_named atoms (closed reason) h = subst (λ l. AllByRecursion (Contains atoms) l) (sym h) tt
own_named atoms (split x left right) h = (h.0, all_joined (Contains atoms) (named_in left) (named_in right) (own_named atoms left h.1) (own_named atoms right h.2))

pub few_named : (atoms : List Atom) (tree : Tree) → SplitsOn atoms tree → length (named_in tree) ≤ split_count tree
few_named atoms missing h = omega arith
few_named atoms (closed reason) h = let e : length (named_by reason) ≡ 0 = ap (λ (l : List Atom). length l) h in omega (arith, e)
few_named atoms (split x left right) h =
    let l = few_named atoms left h.1 in
    let r = few_named atoms right h.2 in
    let e = length-append (named_in left) (named_in right) in
    omega (arith, l, r, e)

length-mapped : {X Y : Type 0} (f : X → Y) (xs : List X) → length (map f xs) ≡ length xs
length-mapped f [] = refl
length-mapped f (x ∷ xs) = let h = length-mapped f xs in omega (arith, h)

pub few_numbers : (atoms : List Atom) (tree : Tree) → SplitsOn atoms tree → length (numbers_of (items_of (place_in atoms) tree)) ≤ split_count tree
few_numbers atoms tree h =
    let e = ap (λ (l : List ℕ). length l) (numbers_named (place_in atoms) tree) ∙ length-mapped (place_in atoms) (named_in tree) in
    let few = few_named atoms tree h in
    omega (arith, e, few)

same_length : (acc : List Atom) (a : Atom) → length (with_atom acc a) ≤ length acc + 1
same_length acc a = cond_both (is_among acc a) acc (acc ++ a ∷ []) (λ ys. length ys ≤ length acc + 1) (λ _. omega arith) (λ _. let e = length-append acc (a ∷ []) in omega (arith, e))

length-grown : (acc xs : List Atom) → length (fold with_atom acc xs) ≤ length acc + length xs
length-grown acc [] = omega arith
length-grown acc (x ∷ xs) = let h = length-grown (with_atom acc x) xs in let k = same_length acc x in omega (arith, h, k)

module _ (law : SameLaw) (problem : Problem) (numbers : AreNumbered problem) where
  abbrev p : Atom → ℕ
  p = place_in problem.atoms

  stands : (a : Atom) → Contains problem.atoms a → slice_get problem.atoms (p a) ≡ Some a
  stands a there =
      let at : slice_get problem.atoms there.0 ≡ Some a = slice_get-get_or problem.atoms there.0 a there.1 ∙ ap (λ (b : Atom). Some b) there.2 in
      ap (slice_get problem.atoms) (numbers.places there.0 a at) ∙ at

  same_place : (a b : Atom) → Contains problem.atoms a → Contains problem.atoms b → is_same a b ≡ eqb (p a) (p b)
  same_place a b ha hb =
      elim (cases_Bool (is_same a b)) [
        | inl same ↦ same ∙ sym (eq-eqb (p a) (p b) (ap p (law a b same)))
        | inr other ↦
            other ∙ sym (false_from_ne_true (eqb (p a) (p b)) (λ e.
            let both : Some a ≡ Some b = sym (stands a ha) ∙ ap (slice_get problem.atoms) (eqb-true (p a) (p b) e) ∙ stands b hb in
            let one : a ≡ b = cc in
            true≢false (sym (equal_atoms.laws-law.refl a) ∙ ap (is_same a) one ∙ other)))
      ]

  same_among : (acc : List Atom) (a : Atom) → AllByRecursion (Contains problem.atoms) acc → Contains problem.atoms a → is_among acc a ≡ list_any (eqb (p a)) (map p acc)
  same_among [] a h ha = refl
  same_among (b ∷ acc) a h ha = ap (λ t. t || is_among acc a) (same_place a b ha h.0) ∙ ap (λ t. eqb (p a) (p b) || t) (same_among acc a h.1 ha)

  same_grown : (acc : List Atom) (a : Atom) → AllByRecursion (Contains problem.atoms) acc → Contains problem.atoms a → with_number (map p acc) (p a) ≡ map p (with_atom acc a)
  same_grown acc a h ha =
      ap (λ t. cond t (map p acc) (map p acc ++ p a ∷ [])) (sym (same_among acc a h ha))
      ∙ cond_both (is_among acc a) acc (acc ++ a ∷ []) (λ ys. cond (is_among acc a) (map p acc) (map p acc ++ p a ∷ []) ≡ map p ys)
      (λ is. ap (λ t. cond t (map p acc) (map p acc ++ p a ∷ [])) is) (λ is. ap (λ t. cond t (map p acc) (map p acc ++ p a ∷ [])) is ∙ sym (map-append p acc (a ∷ [])))

  own_grown : (acc : List Atom) (a : Atom) → AllByRecursion (Contains problem.atoms) acc → Contains problem.atoms a → AllByRecursion (Contains problem.atoms) (with_atom acc a)
  own_grown acc a h ha = cond_both (is_among acc a) acc (acc ++ a ∷ []) (AllByRecursion (Contains problem.atoms)) (λ _. h) (λ _. all_joined (Contains problem.atoms) acc (a ∷ []) h (ha, tt))

  own_firsts : (acc xs : List Atom) → AllByRecursion (Contains problem.atoms) acc → AllByRecursion (Contains problem.atoms) xs → AllByRecursion (Contains problem.atoms) (fold with_atom acc xs)
  own_firsts acc [] h k = h
  own_firsts acc (x ∷ xs) h k = own_firsts (with_atom acc x) xs (own_grown acc x h k.0) k.1

  same_firsts : (acc xs : List Atom) → AllByRecursion (Contains problem.atoms) acc → AllByRecursion (Contains problem.atoms) xs → fold with_number (map p acc) (map p xs) ≡ map p (fold with_atom acc xs)
  same_firsts acc [] h k = refl
  same_firsts acc (x ∷ xs) h k = ap (λ ys. fold with_number ys (map p xs)) (same_grown acc x h k.0) ∙ same_firsts (with_atom acc x) xs (own_grown acc x h k.0) k.1

  same_position : (xs : List Atom) (a : Atom) → AllByRecursion (Contains problem.atoms) xs → Contains problem.atoms a → place_of (map p xs) (p a) ≡ place_in xs a
  same_position [] a h ha = refl
  same_position (b ∷ xs) a h ha =
      ap (λ t. cond (not t) (1 + place_of (map p xs) (p a)) 0) (sym (same_place a b ha h.0)) ∙ ap (λ n. cond (not (is_same a b)) (1 + n) 0) (same_position xs a h.1 ha)

  same_items : (f g : Atom → ℕ) → ((a : Atom) → Contains problem.atoms a → f a ≡ g a) → (tree : Tree) → SplitsOn problem.atoms tree → items_of f tree ≡ items_of g tree
  same_items f g e missing h = refl
  same_items f g e (closed (void x)) h = cc
  same_items f g e (closed (want w)) h = refl
  same_items f g e (closed (bar b)) h = refl
  same_items f g e (closed goal) h = refl
  same_items f g e (split x left right) h =
      ap (λ n. Split n ∷ (items_of f left ++ items_of f right)) (e x h.0) ∙ ap (λ i. Split (g x) ∷ (i ++ items_of f right)) (same_items f g e left h.1) ∙ ap (λ i. Split (g x) ∷ (items_of g left ++ i)) (same_items f g e right h.2)

  read_back : (xs : List Atom) → AllByRecursion (Contains problem.atoms) xs → filter_map (slice_get problem.atoms) (map p xs) ≡ xs
  read_back [] h = refl
  read_back (x ∷ xs) h = ap (λ o. cons_option o (filter_map (slice_get problem.atoms) (map p xs))) (stands x h.0) ∙ ap (λ ys. x ∷ ys) (read_back xs h.1)

  module _ (tree : Tree) (own : SplitsOn problem.atoms tree) (items : List Item) (spelled : items ≡ items_of p tree) where
    abbrev once : List Atom
    once = atoms_apart.firsts (named_in tree)

    own_once : AllByRecursion (Contains problem.atoms) once
    own_once = own_firsts [] (named_in tree) tt (own_named problem.atoms tree own)

    keys_are : firsts (numbers_of items) ≡ map p once
    keys_are = ap firsts (ap numbers_of spelled ∙ numbers_named p tree) ∙ same_firsts [] (named_in tree) tt (own_named problem.atoms tree own)

    listed : (list : List Atom) → list ≡ filter_map (slice_get problem.atoms) (firsts (numbers_of items)) → list ≡ once
    listed list is = is ∙ ap (filter_map (slice_get problem.atoms)) keys_are ∙ read_back once own_once

    pub spells : (list : List Atom) (numbered : List Item) → list ≡ filter_map (slice_get problem.atoms) (firsts (numbers_of items)) → numbered ≡ map (renumbered (place_of (firsts (numbers_of items)))) items → Spells list numbered tree
    spells list numbered list_is numbered_is = record {
      atoms_are = listed list list_is;
      items_are = numbered_is ∙ ap (map (renumbered (place_of (firsts (numbers_of items))))) spelled ∙ renumbered_items (place_of (firsts (numbers_of items))) p tree
          ∙ same_items (λ a. place_of (firsts (numbers_of items)) (p a)) (place_in list) (λ a ha. ap (λ k. place_of k (p a)) keys_are ∙ same_position once a own_once ha ∙ ap (λ l. place_in l a) (sym (listed list list_is))) tree own;
    }

    pub names : (budget : ℕ) → split_count tree ≤ budget → (list : List Atom) → list ≡ filter_map (slice_get problem.atoms) (firsts (numbers_of items)) → AreNamed problem budget list
    names budget few list is =
        let same = listed list is in
        let grown = length-grown [] (named_in tree) in
        let named = few_named problem.atoms tree own in
        let e = ap (λ (l : List Atom). length l) same in
        record {
          of_problem = All-from_recursion (Contains problem.atoms) list (subst (λ l. AllByRecursion (Contains problem.atoms) l) (sym same) own_once);
          few = omega (arith, e, grown, named, few);
        }

-- One number more.
pub atoms_more : (atoms : List Atom) (keys : List ℕ) (i d : ℕ) → i < length keys → filter_map (slice_get atoms) (take (i + 1) keys) ≡ filter_map (slice_get atoms) (take i keys) ++ cons_option (slice_get atoms (get_or keys i d)) []
atoms_more atoms keys i d within = ap (filter_map (slice_get atoms)) (take_more keys i d within) ∙ filter_map-append (slice_get atoms) (take i keys) (get_or keys i d ∷ [])
