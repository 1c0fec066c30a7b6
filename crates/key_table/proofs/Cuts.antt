-- The entries of runs, at one run and around it.
use Rattle.std.proofs.Common.{◌≡◌, ℕ, zero, suc, ◌+◌, ◌-◌, ◌<◌, ◌≤◌, List, [], ◌∷◌, ◌++◌, length, get_or, set, take, drop, Some, refl, ap, sym, ◌∙◌, subst, arith, add-one, slice_get, ◌&&◌, Result, Ok, Err, IfOk, IfErr, OnOk, OnErr}
use Rattle.std.specs.declared.cmp.Ordering.TheVariants.{Less, Equal, Greater}
use Rattle.std.specs.Ordering.{match_ordering}
use Rattle.std.specs.List.{insert}
use Rattle.std.specs.List.Sorted.{IsStrictlySortedBy}
use Rattle.std.specs.BTreeMap.{insert_entry}
use Rattle.std.proofs.lemmas.List.{append_assoc, take-append-drop, take_more, take_more_set, take_at, drop_more, drop-set-lt, set_split, length-append, length-take-le, length_push}
use Rattle.std.proofs.lemmas.List.Edits.{insert-append_left, insert-append_right}
use Rattle.std.proofs.lemmas.List.Concat.{flat_map-append}
use Rattle.std.proofs.lemmas.List.Elements.{All-nil, All-cons, All-head, All-tail, All-append, All-take, All-drop}
use Rattle.std.proofs.lemmas.List.Folds.{list_all-append}
use Rattle.std.specs.Option.{IfSome}
use Rattle.std.proofs.lemmas.Option.{slice_get_read, MatchOption-at_some}
use Rattle.key_table.specs.declared.slot.Slot.{Slot}
use Rattle.key_table.specs.declared.slot.Datum.{Datum}
use Rattle.key_table.specs.Slots.{slot_cmp}
use Rattle.key_table.specs.Tables.{Table}
use Rattle.key_table.specs.Payments.{Entries, AreAscending, value_of, with_value, is_legal}
use Rattle.key_table.specs.Places.{AreBefore, AreAfter, StandsAt, GoesTo, Run, entries_of, parts_of, with_entry, are_legal, AreFilled, AreRuns, IsSplit}
use Rattle.key_table.proofs.Places.{put_over, put_new}
use Rattle.key_table.proofs.Sorted.{slot_cmp_total, sorted_insert}
use Rattle.key_table.proofs.Runs.{insert_past, insert_within, lookup_past, lookup_within, sorted_left, sorted_right, before_middle, after_first}

-- the entries of more runs
pub entries_of-append : (xs ys : List Run) → entries_of (xs ++ ys) ≡ entries_of xs ++ entries_of ys
entries_of-append xs ys = flat_map-append (λ (run : Run). run.items) xs ys

-- the entries from a run on
pub cut_rest : (runs : List Run) (i : ℕ) (run : Run) → i < length runs → run ≡ get_or runs i run → entries_of (drop i runs) ≡ run.items ++ entries_of (drop (i + 1) runs)
cut_rest runs i run within at =
    ap (λ (rs : List Run). entries_of rs) (drop_more runs i run within ∙ ap (λ (r : Run). r ∷ drop (i + 1) runs) (sym at))

-- the entries, cut before and after a run
pub cut : (runs : List Run) (i : ℕ) (run : Run) → i < length runs → run ≡ get_or runs i run → entries_of runs ≡ entries_of (take i runs) ++ (run.items ++ entries_of (drop (i + 1) runs))
cut runs i run within at =
    ap (λ (rs : List Run). entries_of rs) (sym (take-append-drop i runs)) ∙ entries_of-append (take i runs) (drop i runs) ∙ ap (λ (es : Entries). entries_of (take i runs) ++ es) (cut_rest runs i run within at)

-- the same with another run in its stead
pub cut_set : (runs : List Run) (i : ℕ) (run : Run) → i < length runs → entries_of (set runs i run) ≡ entries_of (take i runs) ++ (run.items ++ entries_of (drop (i + 1) runs))
cut_set runs i run within =
    ap (λ (rs : List Run). entries_of rs) (set_split runs i run within) ∙ entries_of-append (take i runs) (run ∷ drop (suc i) runs) ∙ ap (λ n. entries_of (take i runs) ++ (run.items ++ entries_of (drop n runs))) (sym (add-one i))

module _ (runs : List Run) (i : ℕ) (run : Run) (within : i < length runs) (at : run ≡ get_or runs i run) where
  -- each run is in order
  pub run_ascends : AreAscending (entries_of runs) → AreAscending run.items
  run_ascends up =
      let P : Entries → Type 0 = λ es. AreAscending es in
      sorted_left slot_cmp run.items (entries_of (drop (i + 1) runs)) (sorted_right slot_cmp (entries_of (take i runs)) _ (subst P (cut runs i run within at) up))

  -- a run with the same entries changes nothing
  pub same_entries : (new : Run) → new.items ≡ run.items → entries_of (set runs i new) ≡ entries_of runs
  same_entries new same =
      cut_set runs i new within ∙ ap (λ (es : Entries). entries_of (take i runs) ++ (es ++ entries_of (drop (i + 1) runs))) same ∙ sym (cut runs i run within at)

  -- a run with as many entries leaves their number
  pub same_length : (new : Run) → length new.items ≡ length run.items → length (entries_of (set runs i new)) ≡ length (entries_of runs)
  same_length new same =
      let before = entries_of (take i runs) in
      let after = entries_of (drop (i + 1) runs) in
      omega (arith, ap length (cut_set runs i new within), ap length (cut runs i run within at), length-append before (new.items ++ after), length-append before (run.items ++ after), length-append new.items after, length-append run.items after)

  -- one entry more in the run
  pub with_entry_is : (place : ℕ) (e : Slot × Datum) → place ≤ length run.items → with_entry runs i place e ≡ entries_of (take i runs) ++ (insert run.items place e ++ entries_of (drop (i + 1) runs))
  with_entry_is place e le =
      let before = entries_of (take i runs) in
      let after = entries_of (drop (i + 1) runs) in
      let n = length before in
      let here : n + place - n ≡ place = omega arith in
      ap (λ (es : Entries). insert es (n + place) e) (cut runs i run within at)
      ∙ insert-append_right before (run.items ++ after) n (n + place) e refl (omega arith)
      ∙ ap (λ k. before ++ insert (run.items ++ after) k e) here
      ∙ ap (λ (es : Entries). before ++ es) (insert-append_left run.items after place e le)

  pub inserted : (place : ℕ) (e : Slot × Datum) (new : Run) → place ≤ length run.items → new.items ≡ insert run.items place e → entries_of (set runs i new) ≡ with_entry runs i place e
  inserted place e new le is =
      cut_set runs i new within ∙ ap (λ (es : Entries). entries_of (take i runs) ++ (es ++ entries_of (drop (i + 1) runs))) is ∙ sym (with_entry_is place e le)

  -- the end of the run is the front of the next one
  pub with_entry_next : (place : ℕ) (e : Slot × Datum) → place ≡ length run.items → with_entry runs (i + 1) 0 e ≡ with_entry runs i place e
  with_entry_next place e end =
      let taken : entries_of (take (i + 1) runs) ≡ entries_of (take i runs) ++ (run.items ++ []) =
      ap (λ (rs : List Run). entries_of rs) (take_more runs i run within) ∙ entries_of-append (take i runs) (get_or runs i run ∷ []) ∙ ap (λ (r : Run). entries_of (take i runs) ++ (r.items ++ [])) (sym at) in
      let count : length (entries_of (take (i + 1) runs)) + 0 ≡ length (entries_of (take i runs)) + place =
      omega (arith, end, ap length taken, length-append (entries_of (take i runs)) (run.items ++ []), length-append run.items []) in
      ap (λ n. insert (entries_of runs) n e) count

  module _ (slot : Slot) (before : AreBefore slot (entries_of (take i runs))) (after : AreAfter slot (entries_of (drop (i + 1) runs))) where
    -- a put into the run to which a slot goes is a put into the payment
    put_part : (v : Datum) → entries_of (take i runs) ++ (with_value run.items slot v ++ entries_of (drop (i + 1) runs)) ≡ with_value (entries_of runs) slot v
    put_part v =
        let front = entries_of (take i runs) in
        let back = entries_of (drop (i + 1) runs) in
        ap (λ (es : Entries). front ++ es) (sym (insert_within slot_cmp run.items back slot v after))
        ∙ sym (insert_past slot_cmp front (run.items ++ back) slot v before)
        ∙ ap (λ (es : Entries). insert_entry slot_cmp es slot v) (sym (cut runs i run within at))

    put_entries : (v : Datum) (new : Run) → new.items ≡ with_value run.items slot v → entries_of (set runs i new) ≡ with_value (entries_of runs) slot v
    put_entries v new put =
        cut_set runs i new within
        ∙ ap (λ (es : Entries). entries_of (take i runs) ++ (es ++ entries_of (drop (i + 1) runs))) put
        ∙ put_part v

    -- an entry that is added where the slot goes is put
    pub entry_put : (v : Datum) (place : ℕ) → GoesTo slot run.items place → with_entry runs i place (slot, v) ≡ with_value (entries_of runs) slot v
    entry_put v place goes =
        with_entry_is place (slot, v) goes.within
        ∙ ap (λ (es : Entries). entries_of (take i runs) ++ (es ++ entries_of (drop (i + 1) runs))) (put_new run.items slot v place goes)
        ∙ put_part v

    -- a datum that is written over where the slot stands is put
    pub datum_put : (v : Datum) (place : ℕ) (e : Slot × Datum) (new : Run) → StandsAt slot run.items place → e ≡ get_or run.items place e → new.items ≡ set run.items place (e.0, v) → entries_of (set runs i new) ≡ with_value (entries_of runs) slot v
    datum_put v place e new stands is written = put_entries v new (written ∙ put_over run.items slot v place e stands is)

    -- what is found in that run is found in the payment
    pub value_entries : value_of slot (entries_of runs) ≡ value_of slot run.items
    value_entries =
        let front = entries_of (take i runs) in
        let back = entries_of (drop (i + 1) runs) in
        ap (λ (es : Entries). value_of slot es) (cut runs i run within at)
        ∙ lookup_past slot_cmp front (run.items ++ back) slot before
        ∙ lookup_within slot_cmp run.items back slot after

-- a run of one entry between the others
pub begun : (runs : List Run) (i : ℕ) (e : Slot × Datum) (new : Run) → new.items ≡ e ∷ [] → entries_of (insert runs i new) ≡ with_entry runs i 0 e
begun runs i e new is =
    let before = entries_of (take i runs) in
    let after = entries_of (drop i runs) in
    let n = length before in
    let here : n + 0 - n ≡ 0 = omega arith in
    entries_of-append (take i runs) (new ∷ drop i runs)
    ∙ ap (λ (es : Entries). before ++ (es ++ after)) is
    ∙ ap (λ k. before ++ insert after k e) (sym here)
    ∙ sym (insert-append_right before after n (n + 0) e refl (omega arith))
    ∙ ap (λ (es : Entries). insert es (n + 0) e) (sym (entries_of-append (take i runs) (drop i runs)) ∙ ap (λ (rs : List Run). entries_of rs) (take-append-drop i runs))

-- a list that is not empty begins with its first element
begins : {X : Type 0} (xs : List X) (x : X) → 0 < length xs → x ≡ get_or xs 0 x → (ys : List X) × (xs ≡ x ∷ ys)
begins [] x some at = absurd (omega arith)
begins (y ∷ ys) x some at = (ys, ap (λ z. z ∷ ys) (sym at))

-- a place in the first list
pub slice_get_left : {X : Type 0} (xs ys : List X) (n : ℕ) → n < length xs → slice_get (xs ++ ys) n ≡ slice_get xs n
slice_get_left [] ys n lt = absurd (omega arith)
slice_get_left (x ∷ xs) ys zero lt = refl
slice_get_left (x ∷ xs) ys (suc n) lt = slice_get_left xs ys n (omega arith)

-- and one past it
pub slice_get_right : {X : Type 0} (xs ys : List X) (n m : ℕ) → n ≡ length xs + m → slice_get (xs ++ ys) n ≡ slice_get ys m
slice_get_right [] ys n m is = let same : n ≡ m = omega arith in ap (λ k. slice_get ys k) same
slice_get_right (x ∷ xs) ys zero m is = absurd (omega arith)
slice_get_right (x ∷ xs) ys (suc n) m is = slice_get_right xs ys n m (omega arith)

-- what holds of the run at a place
pub run_at : (P : Run → Type 0) (runs : List Run) (i : ℕ) (run : Run) → i < length runs → run ≡ get_or runs i run → IfSome (slice_get runs i) P → P run
run_at P runs i run within at h =
    MatchOption-at_some (Unit {0}) P run (slice_get_read runs (length runs) i run refl within at) h

-- no run is empty
pub run_filled : (runs : List Run) (i : ℕ) (run : Run) → AreRuns runs → i < length runs → run ≡ get_or runs i run → 0 < length run.items
run_filled runs i run are within at =
    let P : Run → Type 0 = λ r. 0 < length r.items in
    subst P (sym at) (are.filled i run within)

module _ (runs : List Run) (are : AreRuns runs) (i : ℕ) (run : Run) (first : Slot × Datum) (within : i < length runs) (at : run ≡ get_or runs i run) (opens : first ≡ get_or run.items 0 first) (slot : Slot) where
  some : 0 < length run.items
  some = run_filled runs i run are within at

  from_first : entries_of runs ≡ entries_of (take i runs) ++ first ∷ ((begins run.items first some opens).0 ++ entries_of (drop (i + 1) runs))
  from_first = cut runs i run within at ∙ ap (λ (es : Entries). entries_of (take i runs) ++ (es ++ entries_of (drop (i + 1) runs))) (begins run.items first some opens).1

  -- where a run begins after the slot, its entries and all later ones stand after it
  pub after_run : slot_cmp slot first.0 ≡ Less → AreAfter slot (entries_of (drop i runs))
  after_run less =
      let P : Entries → Type 0 = λ es. AreAscending es in
      let Q : Entries → Type 0 = λ es. AreAfter slot es in
      let rest = (begins run.items first some opens).0 ++ entries_of (drop (i + 1) runs) in
      let same : entries_of (drop i runs) ≡ first ∷ rest = cut_rest runs i run within at ∙ ap (λ (es : Entries). es ++ entries_of (drop (i + 1) runs)) (begins run.items first some opens).1 in
      subst Q (sym same) (after_first slot_cmp slot_cmp_total first rest slot (sorted_right slot_cmp (entries_of (take i runs)) (first ∷ rest) (subst P from_first are.ascending)) less)

  -- and else the entries of the runs in front of it stand before the slot
  pub before_run : (slot_cmp slot first.0 ≡ Less → ⊥) → AreBefore slot (entries_of (take i runs))
  before_run not_less =
      let P : Entries → Type 0 = λ es. AreAscending es in
      before_middle slot_cmp slot_cmp_total (entries_of (take i runs)) first _ slot (subst P from_first are.ascending) not_less

-- the same of a fact about the run
pub at_run : (P : Run → Type 0) (runs : List Run) (i : ℕ) (run : Run) → i < length runs → run ≡ get_or runs i run → P run → IfSome (slice_get runs i) P
at_run P runs i run within at h = let there = slice_get_read runs (length runs) i run refl within at in rw there h

-- ---- runs stay runs

-- after a put
pub runs_put : (old new : List Run) (slot : Slot) (v : Datum) → AreRuns old → entries_of new ≡ with_value (entries_of old) slot v → AreFilled new → AreRuns new
runs_put old new slot v are put filled =
    let P : Entries → Type 0 = λ es. AreAscending es in
    record { ascending = subst P (sym put) (sorted_insert slot_cmp_total (entries_of old) slot v are.ascending); filled = filled }

-- without runs there are no entries
pub no_runs : AreRuns []
unfolding IsStrictlySortedBy
no_runs = record { ascending = tt; filled = All-nil _ }

-- the run at a place
pub run_there : (runs : List Run) (i : ℕ) → i < length runs → (run : Run) × (run ≡ get_or runs i run)
run_there [] i lt = absurd (omega arith)
run_there (run ∷ runs) zero lt = (run, refl)
run_there (run ∷ runs) (suc i) lt = run_there runs i (omega arith)

-- ---- a run that was cut in two

module _ (old new : List Run) (i middle : ℕ) (within : i < length old) (split : IsSplit old new i middle) where
  abbrev rest : List Run
  rest = drop (i + 1) old

  -- the two parts stand in the run's stead
  new_is : new ≡ take i old ++ split.front ∷ split.tail ∷ rest
  new_is =
      split.parts
      ∙ ap (λ (rs : List Run). rs ++ split.tail ∷ drop (i + 1) (set old i split.front)) (take_more_set old i split.front within)
      ∙ ap (λ (rs : List Run). (take i old ++ split.front ∷ []) ++ split.tail ∷ rs) (drop-set-lt (i + 1) old i split.front (omega arith))
      ∙ append_assoc (take i old) (split.front ∷ []) (split.tail ∷ rest)

  short : length (take i old) ≡ i
  short = length-take-le i old (omega arith)

  run : (r : Run) × (r ≡ get_or old i r) × (split.front.items ++ split.tail.items ≡ r.items)
  run =
      let r = run_there old i within in
      (r.0, r.1, run_at (λ (x : Run). split.front.items ++ split.tail.items ≡ x.items) old i r.0 within r.1 split.whole)

  pub split_entries : entries_of new ≡ entries_of old
  split_entries =
      ap (λ (rs : List Run). entries_of rs) new_is
      ∙ entries_of-append (take i old) (split.front ∷ split.tail ∷ rest)
      ∙ ap (λ (es : Entries). entries_of (take i old) ++ es) (sym (append_assoc split.front.items split.tail.items (entries_of rest)) ∙ ap (λ (es : Entries). es ++ entries_of rest) run.2)
      ∙ sym (cut old i run.0 within run.1)

  pub split_filled : AreFilled old → AreFilled new
  split_filled filled =
      let P : Run → Type 0 = λ r. 0 < length r.items in
      let Q : List Run → Type 0 = λ rs. AreFilled rs in
      subst Q (sym new_is) (All-append P (take i old) (split.front ∷ split.tail ∷ rest) (All-take P i old filled) (All-cons P split.front (split.tail ∷ rest) split.some (All-cons P split.tail rest split.more (All-drop P (i + 1) old filled))))

  -- a place in the run is one in the second part
  pub second_part : (place : ℕ) → IfSome (slice_get old i) (λ (r : Run). place ≤ length r.items) → IfSome (slice_get new (i + 1)) (λ (r : Run). place - middle ≤ length r.items)
  second_part place h =
      let there : slice_get new (i + 1) ≡ Some split.tail = ap (λ (rs : List Run). slice_get rs (i + 1)) new_is ∙ slice_get_right (take i old) (split.front ∷ split.tail ∷ rest) (i + 1) 1 (omega (arith, short)) in
      let le = run_at (λ (r : Run). place ≤ length r.items) old i run.0 within run.1 h in
      rw there (omega (arith, split.cut, ap length run.2, length-append split.front.items split.tail.items))

  pub into_first : (place : ℕ) (e : Slot × Datum) → with_entry new i place e ≡ with_entry old i place e
  into_first place e =
      let taken : take i new ≡ take i old = ap (take i) new_is ∙ take_at (take i old) (split.front ∷ split.tail ∷ rest) i short in
      ap (λ (es : Entries). insert es (length (entries_of (take i new)) + place) e) split_entries ∙ ap (λ (rs : List Run). insert (entries_of old) (length (entries_of rs) + place) e) taken

  pub into_second : (place : ℕ) (e : Slot × Datum) → middle < place → with_entry new (i + 1) (place - middle) e ≡ with_entry old i place e
  into_second place e less =
      let front = take i old ++ split.front ∷ [] in
      let taken : take (i + 1) new ≡ front =
      ap (take (i + 1)) (new_is ∙ sym (append_assoc (take i old) (split.front ∷ []) (split.tail ∷ rest))) ∙ take_at front (split.tail ∷ rest) (i + 1) (omega (arith, length_push (take i old) split.front, short)) in
      let count : length (entries_of (take (i + 1) new)) + (place - middle) ≡ length (entries_of (take i old)) + place =
      omega (arith, ap (λ (rs : List Run). length (entries_of rs)) taken, ap length (entries_of-append (take i old) (split.front ∷ [])), length-append (entries_of (take i old)) (split.front.items ++ []), length-append split.front.items [], split.cut) in
      ap (λ (es : Entries). insert es (length (entries_of (take (i + 1) new)) + (place - middle)) e) split_entries ∙ ap (λ n. insert (entries_of old) n e) count

-- ---- copies

-- runs with the same entries are the same but for their memory
pub same_parts : (xs ys : List Run) → parts_of xs ≡ parts_of ys → entries_of xs ≡ entries_of ys
same_parts [] [] is = refl
same_parts [] (y ∷ ys) is = let no : ⊥ = cc in absurd no
same_parts (x ∷ xs) [] is = let no : ⊥ = cc in absurd no
same_parts (x ∷ xs) (y ∷ ys) is =
    let here : x.items ≡ y.items = cc in
    let later : parts_of xs ≡ parts_of ys = cc in
    ap (λ (es : Entries). es ++ entries_of xs) here ∙ ap (λ (es : Entries). y.items ++ es) (same_parts xs ys later)

filled_parts : (xs ys : List Run) → parts_of xs ≡ parts_of ys → AreFilled ys → AreFilled xs
filled_parts [] ys is filled = All-nil (λ (r : Run). 0 < length r.items)
filled_parts (x ∷ xs) [] is filled = let no : ⊥ = cc in absurd no
filled_parts (x ∷ xs) (y ∷ ys) is filled =
    let P : Run → Type 0 = λ r. 0 < length r.items in
    let here : x.items ≡ y.items = cc in
    let later : parts_of xs ≡ parts_of ys = cc in
    All-cons P x xs (rw here (All-head P y ys filled)) (filled_parts xs ys later (All-tail P y ys filled))

pub runs_copied : (xs ys : List Run) → parts_of xs ≡ parts_of ys → AreRuns ys → AreRuns xs
runs_copied xs ys is are =
    let P : Entries → Type 0 = λ es. AreAscending es in
    record { ascending = subst P (sym (same_parts xs ys is)) are.ascending; filled = filled_parts xs ys is are.filled }

-- ---- by places, and for each entry

-- the entries fit as the runs do
pub are_legal_is : (table : Table) (runs : List Run) → are_legal table runs ≡ is_legal table (entries_of runs)
are_legal_is table [] = refl
are_legal_is table (run ∷ runs) =
    ap (λ b. is_legal table run.items && b) (are_legal_is table runs) ∙ sym (list_all-append _ run.items (entries_of runs))

-- the place is in no earlier run than the next
pub place_later : (runs : List Run) (i left : ℕ) (run : Run) → i < length runs → run ≡ get_or runs i run → length run.items ≤ left → left < length (entries_of (drop i runs)) → (left - length run.items < length (entries_of (drop (i + 1) runs))) × (slice_get (entries_of (drop i runs)) left ≡ slice_get (entries_of (drop (i + 1) runs)) (left - length run.items))
place_later runs i left run within at past inside =
    let rest = entries_of (drop (i + 1) runs) in
    let parts = cut_rest runs i run within at in
    let n : length (entries_of (drop i runs)) ≡ length run.items + length rest = ap length parts ∙ length-append run.items rest in
    (omega arith, ap (λ (es : Entries). slice_get es left) parts ∙ slice_get_right run.items rest left (left - length run.items) (omega arith))

-- the place is in this run
pub place_here : (runs : List Run) (i left : ℕ) (run : Run) (e : Slot × Datum) → i < length runs → run ≡ get_or runs i run → left < length run.items → e ≡ get_or run.items left e → slice_get (entries_of (drop i runs)) left ≡ Some e
place_here runs i left run e within at inside is =
    ap (λ (es : Entries). slice_get es left) (cut_rest runs i run within at) ∙ slice_get_left run.items (entries_of (drop (i + 1) runs)) left inside ∙ slice_get_read run.items (length run.items) left e refl inside is
