-- A shelf in memory.
use Rattle.std.specs.Prelude.{ℕ, List, [], ◌∷◌, Option, Some, None, Result, Ok, Err, Contains, String, Vec, map, string_bytes, bytes_eq, if◌then◌else◌}
use Rattle.std.specs.declared.alloc.Global.{Global}
use Rattle.shelf_io.specs.declared.traits.ReadError.{ReadError}
use Rattle.shelf_io.specs.declared.traits.ReadError.TheVariants.{Failed, Absent, NoMemory}
use Rattle.shelf_io.specs.Seen.{Name, Files, ShelfSeen, next_count}

pub record ShelfState : Type 0 where
  -- the files with their names, the newest first
  pub files : List (Name × List ℕ)
  -- the numbers of the reads that are to fail
  pub failing : List ℕ
  -- how many reads there were, which is the number of the next one
  pub reads : ℕ
  -- how often it failed, and the name that it last failed on
  pub faults : ℕ
  pub last : Option Name

-- The names and the bytes of stored files.
abbrev pub files_of : List (String Global × Vec ℕ Global) → List (Name × List ℕ)
files_of stored = map (λ file. (string_bytes file.0, file.1.items)) stored

-- The bytes of the newest file with the name.
abbrev pub bytes_under : List (Name × List ℕ) → Files
bytes_under [] name = None
bytes_under (file ∷ older) name = if bytes_eq file.0 name then Some file.1 else bytes_under older name

-- What it shows as a shelf. It tells what it holds.
abbrev pub shelf_seen : ShelfState → ShelfSeen
shelf_seen shelf = record { holds = Some (bytes_under shelf.files); faults = shelf.faults; last = shelf.last }

-- The next read is to fail.
abbrev pub IsPlanned : ShelfState → Type 0
IsPlanned shelf = Contains shelf.failing shelf.reads

-- The shelf after a read under a name, by the answer of the read.
abbrev pub state_after : {X : Type 0} → ShelfState → Name → Result X ReadError → ShelfState
state_after shelf name (Ok bytes) = record shelf { reads = next_count shelf.reads }
state_after shelf name (Err Failed) = record shelf { reads = next_count shelf.reads; faults = next_count shelf.faults; last = Some name }
state_after shelf name (Err Absent) = record shelf { reads = next_count shelf.reads }
state_after shelf name (Err NoMemory) = shelf
