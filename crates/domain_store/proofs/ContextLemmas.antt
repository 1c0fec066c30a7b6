-- What one more assumption leaves to a slot, and that no slot is void.
use Rattle.std.proofs.Common.{◌≡◌, ℕ, zero, suc, ◌<◌, List, [], ◌∷◌, ◌++◌, length, get_or, Bool, true, false, ◌&&◌, Option, Some, None, option_map, slice_get, Ordering, Less, Equal, Greater, is_eq, ◌⊎◌, inl, inr, refl, ap, sym, ◌∙◌, rules, arith}
use Rattle.std.specs.Ordering.{ordering_reverse}
use Rattle.std.specs.List.{filter_map, cons_option, list_all, Contains}
use Rattle.std.specs.Cmp.{IsTotalOrder}
use Rattle.std.specs.Cmp.Rules.{comparing}
use Rattle.std.proofs.Math.Path.{fun_ext}
use Rattle.std.proofs.lemmas.Bool.{false≢true, true≢false, false_from_ne_true, cond-true, cond-false, and_from}
use Rattle.std.proofs.lemmas.List.Folds.{list_all-append}
use Rattle.std.proofs.lemmas.List.Elements.{filter_map-append}
use Rattle.std.proofs.lemmas.Option.{slice_get_within, get_or_from_slice_get, slice_get-get_or}
use Rattle.key_table.specs.declared.slot.Slot.{Slot}
use Rattle.key_table.specs.declared.slot.Datum.{Datum}
use Rattle.key_table.specs.declared.atom.Atom.{Atom}
use Rattle.key_table.specs.Contexts.{Assumption, Context, assume, has_truth, meets_on, meets, left}
use Rattle.key_table.specs.OptionSets.{HasOption, kept}
use Rattle.key_table.specs.Options.{is_option}
use Rattle.key_table.specs.Slots.{slot_cmp, SameSlotLaw}
use Rattle.key_table.specs.Tables.{Table}
use Rattle.domain_store.specs.StoreLaws.{ContextLaw}
use Rattle.domain_store.specs.Stores.{Seen, more, assumed, context_of, open_options}

-- ---- slots that compare equal

is-equal : (o : Ordering) → is_eq o ≡ true → o ≡ Equal
is-equal Less h = absurd (false≢true h)
is-equal Equal h = refl
is-equal Greater h = absurd (false≢true h)

own : (o : Ordering) → o ≡ ordering_reverse o → is_eq o ≡ true
own Less h = cc
own Equal h = refl
own Greater h = cc

slot_cmp_total : IsTotalOrder slot_cmp
slot_cmp_total = search (comparing, rules)

pub equal_slot : SameSlotLaw → (s t : Slot) → is_eq (slot_cmp s t) ≡ true → s ≡ t
equal_slot same s t h = same s t (is-equal _ h)

pub slot_itself : (s t : Slot) → s ≡ t → is_eq (slot_cmp s t) ≡ true
slot_itself s t e = ap (λ u. is_eq (slot_cmp s u)) (sym e) ∙ own _ (slot_cmp_total.antisymm s s)

-- an element of a list that has one
pub element : {X : Type 0} (xs : List X) (n : ℕ) → n < length xs → X
element [] n within = absurd (omega arith)
element (x ∷ xs) n within = x

-- what stands at a number stands in the list
pub stands : {X : Type 0} (xs : List X) (n : ℕ) (x : X) → slice_get xs n ≡ Some x → Contains xs x
stands xs n x is = (n, slice_get_within xs n x is, get_or_from_slice_get xs n x x is)

pub stands_at : {X : Type 0} (xs : List X) (x : X) (there : Contains xs x) → slice_get xs there.0 ≡ Some x
stands_at xs x there = slice_get-get_or xs there.0 x there.1 ∙ ap (λ y. Some y) there.2

-- ---- one more assumption

pub context_more : ContextLaw
context_more seen n truth atom there =
    filter_map-append (λ (a : ℕ × Bool). option_map (λ atom. assume atom a.1) (slice_get seen.problem.atoms a.0)) seen.assumptions ((n, truth) ∷ [])
    ∙ ap (λ (o : Option Atom). context_of seen ++ filter_map (λ (x : Option Assumption). x) (option_map (λ atom. assume atom truth) o ∷ [])) there

regroup : (q m x : Bool) → (q && (m && (x && true))) ≡ ((q && m) && x)
regroup true true true = refl
regroup true true false = refl
regroup true false x = refl
regroup false m x = refl

left_more : (table : Table) (context : Context) (a : Assumption) (slot : Slot) (o : Option Datum) → left table (context ++ a ∷ []) slot o ≡ (left table context slot o && meets_on slot o a)
unfolding left
left_more table context a slot o =
    ap (λ b. is_option table slot o && b) (list_all-append (meets_on slot o) context (a ∷ [])) ∙ regroup (is_option table slot o) (meets context slot o) (meets_on slot o a)

on_slot : (slot : Slot) (o : Option Datum) (a : Assumption) → slot ≡ a.atom.slot → meets_on slot o a ≡ has_truth o a
on_slot slot o a same = cond-true _ (has_truth o a) true (slot_itself slot a.atom.slot same)

off_slot : SameSlotLaw → (slot : Slot) (o : Option Datum) (a : Assumption) → (slot ≡ a.atom.slot → ⊥) → meets_on slot o a ≡ true
off_slot law slot o a other = cond-false _ (has_truth o a) true (false_from_ne_true _ (λ e. other (equal_slot law slot a.atom.slot e)))

and-all : (b : Bool) → (b && true) ≡ b
and-all true = refl
and-all false = refl

module _ (seen : Seen) (n : ℕ) (truth : Bool) (atom : Atom) (there : slice_get seen.problem.atoms n ≡ Some atom) where
  open_more : (slot : Slot) (o : Option Datum) → open_options (more seen n truth) slot o ≡ (open_options seen slot o && meets_on slot o (assume atom truth))
  open_more slot o =
      ap (λ (c : Context). left seen.table c slot o) (context_more seen n truth atom there)
      ∙ left_more seen.table (context_of seen) (assume atom truth) slot o

  -- on the atom's own slot those options stay on which it has the truth
  pub open_own : (slot : Slot) → slot ≡ atom.slot → kept atom truth (open_options seen slot) ≡ open_options (more seen n truth) slot
  open_own slot same = fun_ext (λ o. sym (open_more slot o ∙ ap (λ b. open_options seen slot o && b) (on_slot slot o (assume atom truth) same)))

  -- another slot keeps its options
  pub open_other : SameSlotLaw → (slot : Slot) → (slot ≡ atom.slot → ⊥) → open_options seen slot ≡ open_options (more seen n truth) slot
  open_other law slot other = fun_ext (λ o. sym (open_more slot o ∙ ap (λ b. open_options seen slot o && b) (off_slot law slot o (assume atom truth) other) ∙ and-all (open_options seen slot o)))

-- without assumptions each option is left
pub left_none : (table : Table) (slot : Slot) → is_option table slot ≡ left table [] slot
unfolding left
left_none table slot = fun_ext (λ o. sym (and-all (is_option table slot o)))

-- ---- slots on which there is no assumption

-- absence meets assumptions on other slots
free : SameSlotLaw → (atoms : List Atom) (slot : Slot) → ((atom : Atom) → Contains atoms atom → slot ≡ atom.slot → ⊥) → (xs : List (ℕ × Bool)) → meets (assumed atoms xs) slot None ≡ true
free law atoms slot apart [] = refl
free law atoms slot apart (x ∷ xs) =
    let rest = free law atoms slot apart xs in
    elim (slice_get atoms x.0) as (λ (o : Option Atom). slice_get atoms x.0 ≡ o → list_all (meets_on slot None) (cons_option (option_map (λ atom. assume atom x.1) o) (assumed atoms xs)) ≡ true) [
      | None ↦ (λ is. rest)
      | Some atom ↦ (λ is. and_from _ _ (off_slot law slot None (assume atom x.1) (apart atom (stands atoms x.0 atom is))) rest)
    ] refl

pub open_free : SameSlotLaw → (seen : Seen) (slot : Slot) → ((atom : Atom) → Contains seen.problem.atoms atom → slot ≡ atom.slot → ⊥) → HasOption (open_options seen slot)
unfolding left
open_free law seen slot apart = (None, free law seen.problem.atoms slot apart seen.assumptions)

missed : (a : Atom) (atoms : List Atom) (slot : Slot) → (slot ≡ a.slot → ⊥) → ((atom : Atom) → Contains atoms atom → slot ≡ atom.slot → ⊥) → (atom : Atom) (k : ℕ) → k < length (a ∷ atoms) → get_or (a ∷ atoms) k atom ≡ atom → slot ≡ atom.slot → ⊥
missed a atoms slot first rest atom zero within is e = first (e ∙ ap (λ (b : Atom). b.slot) (sym is))
missed a atoms slot first rest atom (suc k) within is e = rest atom (k, omega arith, is) e

-- a slot is that of an atom, or of none
pub find_slot : SameSlotLaw → (atoms : List Atom) (slot : Slot) → ((atom : Atom) × Contains atoms atom × (slot ≡ atom.slot)) ⊎ ((atom : Atom) → Contains atoms atom → slot ≡ atom.slot → ⊥)
find_slot law [] slot = inr (λ atom c e. absurd (omega (arith, c.1)))
find_slot law (a ∷ atoms) slot =
    elim (is_eq (slot_cmp slot a.slot)) as (λ (b : Bool). is_eq (slot_cmp slot a.slot) ≡ b → ((atom : Atom) × Contains (a ∷ atoms) atom × (slot ≡ atom.slot)) ⊎ ((atom : Atom) → Contains (a ∷ atoms) atom → slot ≡ atom.slot → ⊥)) [
      | true ↦ (λ is. inl (a, (0, omega arith, refl), equal_slot law slot a.slot is))
      | false ↦ (λ is. elim (find_slot law atoms slot) [
        | inl r ↦ inl (r.0, (suc r.1.0, omega (arith, r.1.1), r.1.2), r.2)
        | inr rest ↦ inr (λ atom c e. missed a atoms slot (λ same. true≢false (sym (slot_itself slot a.slot same) ∙ is)) rest atom c.0 c.1 c.2 e)
      ])
    ] refl
