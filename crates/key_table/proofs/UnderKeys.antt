-- The entries under a key: where they begin among entries in order, how they go on, and what holds of them.
use Rattle.std.proofs.Common.{◌≡◌, ℕ, zero, suc, ◌+◌, ◌<◌, ◌≤◌, List, [], ◌∷◌, ◌++◌, length, get_or, take, drop, Bool, true, false, Option, Some, None, refl, ap, sym, ◌∙◌, subst, arith, Ordering, Less, Equal, Greater, nat_cmp, is_eq, cond, eqb, slice_get}
use Rattle.std.specs.Cmp.{nat_cmp_is}
use Rattle.std.specs.List.{AllByRecursion}
use Rattle.std.specs.List.Sorted.{IsStrictlySortedBy}
use Rattle.std.specs.Map.{keys_of}
use Rattle.std.specs.Option.{IfSome, option_cmp}
use Rattle.std.specs.Ordering.{ordering_then, MatchOrdering}
use Rattle.std.specs.Cmp.Lexicographic.{slice_cmp}
use Rattle.std.proofs.lemmas.Bool.{cond-true, cond-false, cond_both, false_from_ne_true, and_parts, and_from, eq-eqb, ne_eqb, eqb-true, eqb-false}
use Rattle.std.proofs.lemmas.Cmp.{ranked}
use Rattle.std.proofs.lemmas.List.{append_assoc, take-append-drop}
use Rattle.std.proofs.lemmas.List.Elements.{filter-append}
use Rattle.std.proofs.lemmas.List.Sums.{take_while-cons}
use Rattle.key_table.specs.declared.slot.Slot.{Slot}
use Rattle.key_table.specs.declared.slot.Datum.{Datum}
use Rattle.key_table.specs.Slots.{slot_cmp, at}
use Rattle.key_table.specs.Tables.{Table, datum_fits}
use Rattle.key_table.specs.Payments.{Entries, AreAscending, value_of, under, is_legal}
use Rattle.key_table.specs.Places.{AreBefore, AreAfter, Run, entries_of, front_under, AreRuns}
use Rattle.key_table.proofs.Cuts.{cut}
use Rattle.key_table.proofs.OptionLemmas.{same_slot}
use Rattle.key_table.proofs.Runs.{sorted_right}
use Rattle.key_table.proofs.Sorted.{equal}

abbrev Entry : Type 0
Entry = Slot × Datum

-- an entry under the key comes first
pub front_under_here : (key : ℕ) (e : Entry) (es : Entries) → e.0.key ≡ key → front_under key (e ∷ es) ≡ e ∷ front_under key es
front_under_here key e es same =
    take_while-cons (λ (x : Entry). eqb x.0.key key) e es ∙ cond-true (eqb e.0.key key) (e ∷ front_under key es) [] (eq-eqb e.0.key key same)

front_under_other : (key : ℕ) (e : Entry) (es : Entries) → eqb e.0.key key ≡ false → front_under key (e ∷ es) ≡ []
front_under_other key e es other =
    take_while-cons (λ (x : Entry). eqb x.0.key key) e es ∙ cond-false (eqb e.0.key key) (e ∷ front_under key es) [] other

le_from : (m n : ℕ) (o p : Ordering) → MatchOrdering o (m < n) (m ≡ n) (n < m) → ordering_then o p ≡ Less → m ≤ n
le_from m n Less p h is = omega arith
le_from m n Equal p h is = omega arith
le_from m n Greater p h is = let no : ⊥ = cc in absurd no

-- a lesser slot has no greater key
pub key_le : (s t : Slot) → slot_cmp s t ≡ Less → s.key ≤ t.key
key_le s t is = le_from s.key t.key (nat_cmp s.key t.key) (option_cmp (slice_cmp nat_cmp) s.sub t.sub) (ranked s.key t.key (nat_cmp s.key t.key) refl) is

greater_none : (sub : Option (List ℕ)) (o : Ordering) → o ≡ Equal → ordering_then o (option_cmp (slice_cmp nat_cmp) None sub) ≡ Greater → ⊥
greater_none None o is h = let e : Equal ≡ Greater = rw is at h in let no : ⊥ = cc in no
greater_none (Some name) o is h = let e : Less ≡ Greater = rw is at h in let no : ⊥ = cc in no

-- what stands before a key's slots is under another key
apart : (key : ℕ) (s : Slot) → slot_cmp (at key None) s ≡ Greater → s.key ≡ key → ⊥
apart key s greater same = greater_none s.sub (nat_cmp key s.key) (sym (nat_cmp_is key s.key Equal (sym same))) greater

under_before : (key : ℕ) (xs : Entries) → AreBefore (at key None) xs → under key xs ≡ []
under_before key [] before = refl
under_before key (x ∷ xs) before = rw (ne_eqb x.0.key key (apart key x.0 before.0), under_before key xs before.1)

-- and so is what stands after a later key
under_later : (key : ℕ) (e : Entry) (xs : Entries) → AllByRecursion (λ (y : Slot). slot_cmp e.0 y ≡ Less) (keys_of xs) → key < e.0.key → under key xs ≡ []
under_later key e [] above later = refl
under_later key e (x ∷ xs) above later = rw (ne_eqb x.0.key key (λ same. omega (arith, key_le e.0 x.0 above.0)), under_later key e xs above.1 later)

-- The first entry is under the key or a later one.
abbrev pub StartsFrom : ℕ → Entries → Type 0
StartsFrom key es = IfSome (slice_get es 0) (λ (e : Entry). key ≤ e.0.key)

starts_next : (key : ℕ) (e : Entry) (es : Entries) → key ≤ e.0.key → AllByRecursion (λ (y : Slot). slot_cmp e.0 y ≡ Less) (keys_of es) → StartsFrom key es
starts_next key e [] le above = tt
starts_next key e (x ∷ es) le above = omega (arith, key_le e.0 x.0 above.0)

pub starts_after : (key : ℕ) (es : Entries) → AreAfter (at key None) es → StartsFrom key es
starts_after key [] after = tt
starts_after key (e ∷ es) after = key_le (at key None) e.0 after.0

pub starts_append : (key : ℕ) (xs ys : Entries) → StartsFrom key xs → StartsFrom key ys → StartsFrom key (xs ++ ys)
starts_append key [] ys first second = second
starts_append key (x ∷ xs) ys first second = first

pub starts_at : (key : ℕ) (es : Entries) (n : ℕ) → IfSome (slice_get es n) (λ (e : Entry). key ≤ e.0.key) → StartsFrom key (drop n es)
starts_at key [] zero h = h
starts_at key [] (suc n) h = tt
starts_at key (e ∷ es) zero h = h
starts_at key (e ∷ es) (suc n) h = starts_at key es n h

pub starts_from : (key : ℕ) (es : Entries) (n : ℕ) → StartsFrom key (drop n es) → IfSome (slice_get es n) (λ (e : Entry). key ≤ e.0.key)
starts_from key [] zero h = h
starts_from key [] (suc n) h = tt
starts_from key (e ∷ es) zero h = h
starts_from key (e ∷ es) (suc n) h = starts_from key es n h

-- entries in order that start from the key have those under it in front
front : (key : ℕ) (es : Entries) → AreAscending es → StartsFrom key es → under key es ≡ front_under key es
unfolding IsStrictlySortedBy
front key [] up starts = refl
front key (e ∷ es) up starts =
    let goal : Type 0 = under key (e ∷ es) ≡ front_under key (e ∷ es) in
    let step : (b : Bool) → eqb e.0.key key ≡ b → goal =
    λ b. elim b as (λ b. eqb e.0.key key ≡ b → goal) [
      | true ↦ (λ is.
          cond-true (eqb e.0.key key) (e ∷ under key es) (under key es) is
          ∙ ap (λ (l : Entries). e ∷ l) (front key es up.1 (starts_next key e es starts up.0))
          ∙ sym (front_under_here key e es (eqb-true e.0.key key is)))
      | false ↦ (λ is.
          let other = eqb-false e.0.key key is in
          cond-false (eqb e.0.key key) (e ∷ under key es) (under key es) is
          ∙ under_later key e es up.0 (omega arith)
          ∙ sym (front_under_other key e es is))
    ] in
    step (eqb e.0.key key) refl

-- the entries under a key, past those that stand before it
pub under_from : (key : ℕ) (xs rest : Entries) → AreAscending (xs ++ rest) → AreBefore (at key None) xs → StartsFrom key rest → under key (xs ++ rest) ≡ front_under key rest
under_from key xs rest up before starts =
    filter-append (λ (e : Entry). eqb e.0.key key) xs rest
    ∙ ap (λ (l : Entries). l ++ under key rest) (under_before key xs before)
    ∙ front key rest (sorted_right slot_cmp xs rest up) starts

before_append : (slot : Slot) (xs ys : Entries) → AreBefore slot xs → AreBefore slot ys → AreBefore slot (xs ++ ys)
before_append slot [] ys first second = second
before_append slot (x ∷ xs) ys first second = (first.0, before_append slot xs ys first.1 second)

-- the same through the runs, from a place of a run on
pub under_runs : (runs : List Run) (i : ℕ) (run : Run) (n key : ℕ) → AreRuns runs → i < length runs → run ≡ get_or runs i run → AreBefore (at key None) (entries_of (take i runs)) → AreAfter (at key None) (entries_of (drop (i + 1) runs))
    → AreBefore (at key None) (take n run.items) → IfSome (slice_get run.items n) (λ (e : Entry). key ≤ e.0.key) → under key (entries_of runs) ≡ front_under key (drop n run.items ++ entries_of (drop (i + 1) runs))
under_runs runs i run n key are within is before after here from =
    let front = entries_of (take i runs) in
    let back = entries_of (drop (i + 1) runs) in
    let P : Entries → Type 0 = λ es. AreAscending es in
    let parts : entries_of runs ≡ (front ++ take n run.items) ++ (drop n run.items ++ back) =
    cut runs i run within is
    ∙ ap (λ (es : Entries). front ++ (es ++ back)) (sym (take-append-drop n run.items))
    ∙ ap (λ (es : Entries). front ++ es) (append_assoc (take n run.items) (drop n run.items) back)
    ∙ sym (append_assoc front (take n run.items) (drop n run.items ++ back)) in
    ap (under key) parts
    ∙ under_from key (front ++ take n run.items) (drop n run.items ++ back) (subst P parts are.ascending) (before_append (at key None) front (take n run.items) before here)
    (starts_append key (drop n run.items) back (starts_at key run.items n from) (starts_after key back after))

-- ---- what holds of the entries holds of those under a key

pub all_under : (P : Entry → Type 0) (key : ℕ) (es : Entries) → AllByRecursion P es → AllByRecursion P (under key es)
all_under P key [] h = tt
all_under P key (e ∷ es) h =
    let Q : Entries → Type 0 = λ l. AllByRecursion P l in
    cond_both (eqb e.0.key key) (e ∷ under key es) (under key es) Q (λ is. (h.0, all_under P key es h.1)) (λ other. all_under P key es h.1)

slots_under : (P : Slot → Type 0) (key : ℕ) (es : Entries) → AllByRecursion P (keys_of es) → AllByRecursion P (keys_of (under key es))
slots_under P key [] h = tt
slots_under P key (e ∷ es) h =
    let Q : Entries → Type 0 = λ l. AllByRecursion P (keys_of l) in
    cond_both (eqb e.0.key key) (e ∷ under key es) (under key es) Q (λ is. (h.0, slots_under P key es h.1)) (λ other. slots_under P key es h.1)

pub under_ascends : (key : ℕ) (es : Entries) → AreAscending es → AreAscending (under key es)
unfolding IsStrictlySortedBy
under_ascends key [] up = tt
under_ascends key (e ∷ es) up =
    let Q : Entries → Type 0 = λ l. AreAscending l in
    cond_both (eqb e.0.key key) (e ∷ under key es) (under key es) Q (λ is. (slots_under _ key es up.0, under_ascends key es up.1)) (λ other. under_ascends key es up.1)

pub under_legal : (table : Table) (key : ℕ) (es : Entries) → is_legal table es ≡ true → is_legal table (under key es) ≡ true
under_legal table key [] legal = refl
under_legal table key (e ∷ es) legal =
    let parts = and_parts (datum_fits table e.0 e.1) (is_legal table es) legal in
    let Q : Entries → Type 0 = λ l. is_legal table l ≡ true in
    cond_both (eqb e.0.key key) (e ∷ under key es) (under key es) Q (λ is. and_from (datum_fits table e.0 e.1) (is_legal table (under key es)) parts.0 (under_legal table key es parts.1)) (λ other. under_legal table key es parts.1)

-- each has the key
pub under_keys : (key : ℕ) (es : Entries) → AllByRecursion (λ (e : Entry). e.0.key ≡ key) (under key es)
under_keys key [] = tt
under_keys key (e ∷ es) =
    let Q : Entries → Type 0 = λ l. AllByRecursion (λ (x : Entry). x.0.key ≡ key) l in
    cond_both (eqb e.0.key key) (e ∷ under key es) (under key es) Q (λ is. (eqb-true e.0.key key is, under_keys key es)) (λ other. under_keys key es)

-- and at a slot of the key stands what stood there
pub value_under : (slot : Slot) (es : Entries) → value_of slot (under slot.key es) ≡ value_of slot es
value_under slot [] = refl
value_under slot (e ∷ es) =
    let Q : Entries → Type 0 = λ l. value_of slot l ≡ value_of slot (e ∷ es) in
    cond_both (eqb e.0.key slot.key) (e ∷ under slot.key es) (under slot.key es) Q
    (λ is. ap (λ (o : Option Datum). cond (is_eq (slot_cmp slot e.0)) (Some e.1) o) (value_under slot es))
    (λ other.
    let apart = false_from_ne_true (is_eq (slot_cmp slot e.0)) (λ h. eqb-false e.0.key slot.key other (ap (λ (s : Slot). s.key) (sym (same_slot slot e.0 (equal (slot_cmp slot e.0) h))))) in
    value_under slot es ∙ sym (cond-false (is_eq (slot_cmp slot e.0)) (Some e.1) (value_of slot es) apart))
