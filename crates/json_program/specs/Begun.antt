-- How many statements and comparisons a program may begin, in the order in which they are visited.
use Rattle.std.specs.Prelude.{ℕ, ◌+◌, List, nat_lt, if◌then◌else◌, Ok, Err, ⊤}
use Rattle.json_shape.specs.Paths.{fault}
use Rattle.json_shape.specs.Counted as counted
use Rattle.json_program.specs.declared.counts.Counts.{Counts}

-- what is read after so many statements and comparisons were begun, and how many were begun then
abbrev pub Reading : Type 0 → Type 0
Reading X = counted.Reading Counts X

-- what the JSON at a path is, or its first fault
abbrev pub Reader : Type 0 → Type 0
Reader X = counted.Reader Counts X

-- at the beginning of a program
abbrev pub none_begun : Counts
none_begun = record { statements = 0; comparisons = 0 }

-- one more statement, which stands at a path, and of which there may be 16,384
unfoldable pub statement_begun : List ℕ → Reading ⊤
statement_begun path counts = if nat_lt counts.statements 16384 then Ok (tt, record counts { statements = counts.statements + 1 }) else Err (fault 5 path)

-- one more comparison, which stands at a path, and of which there may be 16,384
unfoldable pub comparison_begun : List ℕ → Reading ⊤
comparison_begun path counts = if nat_lt counts.comparisons 16384 then Ok (tt, record counts { comparisons = counts.comparisons + 1 }) else Err (fault 5 path)
