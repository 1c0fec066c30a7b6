-- Where a slot stands among entries in ascending order, and such entries cut into runs.
use Rattle.std.specs.Prelude.{◌≡◌, ◌==◌, ℕ, ◌+◌, ◌<◌, ◌≤◌, Bool, List, ◌++◌, length, map, take, drop, slice_get, slice_set, slice_index_or, IfSome, Result, Ok, Err, Vec}
use Rattle.std.specs.List.{flat_map, insert, take_while, list_all, All, AllByRecursion}
use Rattle.std.specs.declared.alloc.Global.{Global}
use Rattle.std.specs.declared.cmp.Ordering.TheVariants.{Less, Equal, Greater}
use Rattle.key_table.specs.declared.slot.Slot.{Slot}
use Rattle.key_table.specs.declared.slot.Datum.{Datum}
use Rattle.key_table.specs.Slots.{slot_cmp}
use Rattle.key_table.specs.Tables.{Table}
use Rattle.key_table.specs.Payments.{Entries, AreAscending, is_legal}

-- Each entry stands before the slot.
abbrev pub AreBefore : Slot → Entries → Type 0
AreBefore slot entries = AllByRecursion (λ (e : Slot × Datum). slot_cmp slot e.0 ≡ Greater) entries

-- Each entry stands after the slot.
abbrev pub AreAfter : Slot → Entries → Type 0
AreAfter slot entries = AllByRecursion (λ (e : Slot × Datum). slot_cmp slot e.0 ≡ Less) entries

-- The slot stands at the place.
pub record StandsAt (slot : Slot) (entries : Entries) (place : ℕ) : Type 0 where
  pub within : place < length entries
  pub before : AreBefore slot (take place entries)
  pub same : (d : Slot × Datum) → slot_cmp slot (slice_index_or entries place d).0 ≡ Equal

-- The slot is not there, and goes to the place.
pub record GoesTo (slot : Slot) (entries : Entries) (place : ℕ) : Type 0 where
  pub within : place ≤ length entries
  pub before : AreBefore slot (take place entries)
  pub after : AreAfter slot (drop place entries)

-- The place where the slot stands, or to which it goes.
abbrev pub IsPlace : Slot → Entries → Result ℕ ℕ → Type 0
IsPlace slot entries (Ok place) = StandsAt slot entries place
IsPlace slot entries (Err place) = GoesTo slot entries place

-- some entries that stand next to each other
abbrev pub Run : Type 0
Run = Vec (Slot × Datum) Global

-- the entries of the runs, one run after another
abbrev pub entries_of : List Run → Entries
entries_of runs = flat_map (λ (run : Run). run.items) runs

-- the entries of each run
abbrev pub parts_of : List Run → List Entries
parts_of runs = map (λ (run : Run). run.items) runs

-- the entries with one more at a place of a run
abbrev pub with_entry : List Run → ℕ → ℕ → Slot × Datum → Entries
with_entry runs i place entry = insert (entries_of runs) (length (entries_of (take i runs)) + place) entry

-- the entries under a key with which the entries begin
abbrev pub front_under : ℕ → Entries → Entries
front_under key entries = take_while (λ (e : Slot × Datum). e.0.key == key) entries

-- whether each entry of each run fits the table
abbrev pub are_legal : Table → List Run → Bool
are_legal table runs = list_all (λ (run : Run). is_legal table run.items) runs

-- No run is empty.
abbrev pub AreFilled : List Run → Type 0
AreFilled runs = All (λ (run : Run). 0 < length run.items) runs

-- The entries ascend through the runs, and no run is empty.
pub record AreRuns (runs : List Run) : Type 0 where
  pub ascending : AreAscending (entries_of runs)
  pub filled : AreFilled runs

-- A run is cut in two, and so many entries stand in the first part.
pub record IsSplit (old new : List Run) (i middle : ℕ) : Type 0 where
  pub front : Run
  pub tail : Run
  pub parts : new ≡ insert (slice_set old i front) (i + 1) tail
  pub whole : IfSome (slice_get old i) (λ (run : Run). front.items ++ tail.items ≡ run.items)
  pub cut : length front.items ≡ middle
  pub some : 0 < length front.items
  pub more : 0 < length tail.items
