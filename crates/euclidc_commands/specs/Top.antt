-- What the top call leaves.
use Rattle.std.specs.Prelude.{◌≡◌, ◌≤◌, ℕ, List, take, Option, Some, None, Result, Ok, Err, ◌⊎◌}
use Rattle.shelf_io.specs.Seen.{Name, Files, ShelfSeen, SinkSeen, FailedOn, WhereTold, Rose, more}
use Rattle.euclidc_commands.specs.declared.answer.Answer.{Answer}
use Rattle.euclidc_commands.specs.declared.answer.Halt.{Halt}
use Rattle.euclidc_commands.specs.declared.answer.Halt.TheVariants as halt
use Rattle.euclidc_commands.specs.declared.status.Verdict.{Verdict}
use Rattle.euclidc_commands.specs.declared.status.Verdict.TheVariants as verdict
use Rattle.euclidc_commands.specs.declared.status.Status.{Status}
use Rattle.euclidc_commands.specs.declared.status.Status.TheVariants as status
use Rattle.euclidc_commands.specs.Commands.{Command, MayAnswer, asked, names, usage, IsGood, IsMissing, Assures}
use Rattle.euclidc_commands.specs.Stages.{Answering, Fault, Among, Stays, known_files}
use Rattle.euclidc_commands.specs.Statuses.{status_of}

-- Where the files are known, the sink gained the whole of an answer over them that says this.
abbrev pub WritesWhole : Answering → Option Files → SinkSeen → SinkSeen → Verdict → Type 0
WritesWhole may known old new v = WhereTold known (λ files. (text : List ℕ) × may files text v × (new.written ≡ more old.written text))

-- The sink failed, and where the files are known the sink gained a front of an answer over them.
abbrev pub WritesFront : Answering → Option Files → SinkSeen → SinkSeen → Type 0
WritesFront may known old new = Rose old.faults new.faults
    × WhereTold known (λ files. (text : List ℕ) × (v : Verdict) × may files text v × ((n : ℕ) × (new.written ≡ more old.written (take n text))))

-- the files over which a command's answers are judged, where these are known
abbrev pub known_to : Command → ShelfSeen → Option Files
known_to command shelf = known_files (names command) shelf.holds

-- What each status of a command means, over every shelf and sink.
abbrev pub Does : Command → ShelfSeen → ShelfSeen → SinkSeen → SinkSeen → Status → Type 0
Does command shelf shelf' sink sink' status.Done = WritesWhole (MayAnswer command) (known_to command shelf) sink sink' verdict.Done
Does command shelf shelf' sink sink' status.No = WritesWhole (MayAnswer command) (known_to command shelf) sink sink' verdict.No
Does command shelf shelf' sink sink' status.Usage = ⊥
Does command shelf shelf' sink sink' status.Refused = WritesWhole (MayAnswer command) (known_to command shelf) sink sink' verdict.Refused
Does command shelf shelf' sink sink' status.TooLong = WritesWhole (MayAnswer command) (known_to command shelf) sink sink' verdict.TooLong
Does command shelf shelf' sink sink' status.ReadFault = (sink' ≡ sink) × Fault (known_to command shelf) (asked command) (names command) shelf shelf'
Does command shelf shelf' sink sink' status.WriteFault = WritesFront (MayAnswer command) (known_to command shelf) sink sink'
Does command shelf shelf' sink sink' status.NoMemory = (shelf' ≡ shelf) × (sink' ≡ sink)

-- What each status means where the words are no command: the usage line, unless the sink fails.
abbrev pub Explains : ShelfSeen → ShelfSeen → SinkSeen → SinkSeen → Status → Type 0
Explains shelf shelf' sink sink' status.Usage = (shelf' ≡ shelf) × (sink'.written ≡ more sink.written usage)
Explains shelf shelf' sink sink' status.WriteFault = (shelf' ≡ shelf) × Rose sink.faults sink'.faults × ((n : ℕ) × (sink'.written ≡ more sink.written (take n usage)))
Explains shelf shelf' sink sink' _ = ⊥

abbrev pub Meets : Option Command → ShelfSeen → ShelfSeen → SinkSeen → SinkSeen → Status → Type 0
Meets None shelf shelf' sink sink' s = Explains shelf shelf' sink sink' s
Meets (Some command) shelf shelf' sink sink' s = Does command shelf shelf' sink sink' s

-- Nothing that is held changes, and no count of faults falls.
abbrev pub Keeps : ShelfSeen → ShelfSeen → SinkSeen → SinkSeen → Type 0
Keeps shelf shelf' sink sink' = Stays shelf shelf' × (sink.faults ≤ sink'.faults)

-- The command has a file.
abbrev pub HasFile : Option Command → Type 0
HasFile None = ⊥
HasFile (Some command) = (name : Name) × Among name (names command)

-- The shelf is as it was, but for a read fault, which only a command with a file has. So no file is read for other words.
abbrev pub LeavesShelf : Option Command → ShelfSeen → ShelfSeen → Status → Type 0
LeavesShelf command shelf shelf' status.ReadFault = HasFile command
LeavesShelf command shelf shelf' _ = shelf' ≡ shelf

-- The shelf failed in this call on no file of the command, and the sink did not fail.
abbrev pub IsCalm : Command → ShelfSeen → ShelfSeen → SinkSeen → SinkSeen → Type 0
IsCalm command shelf shelf' sink sink' = ((name : Name) → Among name (names command) → FailedOn name shelf shelf' → ⊥) × (Rose sink.faults sink'.faults → ⊥)

-- Where the files are good and nothing failed, the status is Done or NoMemory.
abbrev pub Completes : Option Command → ShelfSeen → ShelfSeen → SinkSeen → SinkSeen → Status → Type 0
Completes None shelf shelf' sink sink' s = Unit {0}
Completes (Some command) shelf shelf' sink sink' s = WhereTold (known_to command shelf) (λ files. IsGood command files → IsCalm command shelf shelf' sink sink' → (s ≡ status.Done) ⊎ (s ≡ status.NoMemory))

-- Where a file that is reached is not held, the status is ReadFault or NoMemory, whatever else there is.
abbrev pub Misses : Option Command → ShelfSeen → Status → Type 0
Misses None shelf s = Unit {0}
Misses (Some command) shelf s = WhereTold (known_to command shelf) (λ files. IsMissing command files → (s ≡ status.ReadFault) ⊎ (s ≡ status.NoMemory))

-- Where a command is done, what that means of its files stands.
abbrev pub IsAssured : Command → ShelfSeen → Status → Type 0
IsAssured command shelf status.Done = WhereTold (known_to command shelf) (λ files. Assures command files)
IsAssured command shelf _ = Unit {0}

abbrev pub Accepts : Option Command → ShelfSeen → Status → Type 0
Accepts None shelf s = Unit {0}
Accepts (Some command) shelf s = IsAssured command shelf s

-- One put of an answer: all of it, or a front of it and a fault.
abbrev pub PutGives : Answer → SinkSeen → SinkSeen → Status → Type 0
PutGives a old new s = (old.faults ≤ new.faults) × (((s ≡ status_of a.verdict) × (new.written ≡ more old.written a.text))
    ⊎ ((s ≡ status.WriteFault) × Rose old.faults new.faults × ((n : ℕ) × (new.written ≡ more old.written (take n a.text)))))

abbrev pub HaltGives : Halt → SinkSeen → SinkSeen → Status → Type 0
HaltGives halt.NoMemory old new s = (s ≡ status.NoMemory) × (new ≡ old)
HaltGives halt.ReadFault old new s = (s ≡ status.ReadFault) × (new ≡ old)
HaltGives (halt.Ends a) old new s = PutGives a old new s

-- What is put of a command's outcome.
abbrev pub Finishes : Result Answer Halt → SinkSeen → SinkSeen → Status → Type 0
Finishes (Ok a) old new s = PutGives a old new s
Finishes (Err h) old new s = HaltGives h old new s
