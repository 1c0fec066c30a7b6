-- What clauses see of a shelf and of a sink.
use Rattle.std.specs.Prelude.{◌≡◌, ◌⊎◌, ℕ, ◌+◌, ◌-◌, ◌^◌, ◌<◌, ◌≤◌, min, List, ◌++◌, length, take, Option, Some, None, Result, Ok, Err, option_map, Vec}
use Rattle.std.specs.declared.alloc.Global.{Global}
use Rattle.shelf_io.specs.declared.traits.ReadError.{ReadError}
use Rattle.shelf_io.specs.declared.traits.ReadError.TheVariants.{Failed, Absent, NoMemory}
use Rattle.shelf_io.specs.declared.traits.SinkFailed.{SinkFailed}

-- The name of a file, by its bytes.
abbrev pub Name : Type 0
Name = List ℕ

-- The bytes under each name.
abbrev pub Files : Type 0
Files = Name → Option (List ℕ)

-- A shelf: what it holds, where it tells that; how often it failed; and the name that it last failed on.
pub record ShelfSeen : Type 0 where
  pub holds : Option Files
  pub faults : ℕ
  pub last : Option Name

-- One more than the count, which stays at the largest number of 64 bits.
abbrev pub next_count : ℕ → ℕ
next_count count = min (count + 1) (2 ^ 64 - 1)

-- A count that rose, or stands at the largest number of 64 bits.
abbrev pub Rose : ℕ → ℕ → Type 0
Rose before now = (before < now) ⊎ (now ≡ 2 ^ 64 - 1)

-- The shelf failed on this name in between.
pub record FailedOn (name : Name) (old new : ShelfSeen) : Type 0 where
  pub rose : Rose old.faults new.faults
  pub named : new.last ≡ Some name

-- It is told that nothing is held under the name.
abbrev pub Lacks : Option Files → Name → Type 0
Lacks None name = ⊥
Lacks (Some files) name = files name ≡ None

-- Where the shelf tells what it holds, this is true of it.
abbrev pub WhereTold : {A : Type 0} → Option A → (A → Type 0) → Type 0
WhereTold None P = Unit {0}
WhereTold (Some files) P = P files

-- A read under a name, of at most so many bytes. Only a failed one changes the shelf, in its count and its last name.
abbrev pub Reads : ShelfSeen → ShelfSeen → Name → ℕ → Result (Vec ℕ Global) ReadError → Type 0
Reads old new name cap (Ok bytes) = (new ≡ old) × (length bytes.items ≤ cap) × WhereTold old.holds (λ files. option_map (take cap) (files name) ≡ Some bytes.items)
Reads old new name cap (Err Failed) = FailedOn name old new × (old.faults ≤ new.faults) × (new.holds ≡ old.holds)
Reads old new name cap (Err Absent) = (new ≡ old) × Lacks old.holds name
Reads old new name cap (Err NoMemory) = new ≡ old

-- A sink: the bytes written, where it tells that, and how often it failed.
pub record SinkSeen : Type 0 where
  pub written : Option (List ℕ)
  pub faults : ℕ

-- What is written after so many bytes went out.
abbrev pub more : Option (List ℕ) → List ℕ → Option (List ℕ)
more old bytes = option_map (λ (b : List ℕ). b ++ bytes) old

-- All of the bytes went out, or the sink failed and a front of them did.
abbrev pub Puts : SinkSeen → SinkSeen → List ℕ → Result (Unit {0}) SinkFailed → Type 0
Puts old new bytes (Ok done) = (old.faults ≤ new.faults) × (new.written ≡ more old.written bytes)
Puts old new bytes (Err e) = Rose old.faults new.faults × (old.faults ≤ new.faults) × ((n : ℕ) × (new.written ≡ more old.written (take n bytes)))
