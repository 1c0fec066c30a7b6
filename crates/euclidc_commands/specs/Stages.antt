-- What a call that reads files gives, against the run that it stands for.
use Rattle.std.specs.Prelude.{◌≡◌, ◌≤◌, ℕ, List, [], ◌∷◌, Option, Some, None, Result, Ok, Err, ◌⊎◌}
use Rattle.shelf_io.specs.Seen.{Name, Files, ShelfSeen, FailedOn, WhereTold}
use Rattle.euclidc_commands.specs.declared.answer.Answer.{Answer}
use Rattle.euclidc_commands.specs.declared.status.Verdict.{Verdict}
use Rattle.euclidc_commands.specs.declared.answer.Halt.{Halt}
use Rattle.euclidc_commands.specs.declared.answer.Halt.TheVariants.{NoMemory, ReadFault, Ends}
use Rattle.euclidc_commands.specs.Runs.{Run, End, goes, ends, lacks}

abbrev pub Among : Name → List Name → Type 0
Among name [] = ⊥
Among name (n ∷ ns) = (name ≡ n) ⊎ Among name ns

-- The shelf failed on a name that is asked for, or it tells that such a name is not held.
-- Where it tells nothing, it failed on a name of the command.
abbrev pub Fault : Option Files → (Files → List Name) → List Name → ShelfSeen → ShelfSeen → Type 0
Fault None asked names old new = (name : Name) × Among name names × FailedOn name old new
Fault (Some files) asked names old new = (name : Name) × Among name (asked files) × (FailedOn name old new ⊎ (files name ≡ None))

-- What a shelf holds stays, and its count of faults never falls.
abbrev pub Stays : ShelfSeen → ShelfSeen → Type 0
Stays old new = (new.holds ≡ old.holds) × (old.faults ≤ new.faults)

-- A stage stopped: for want of memory, for a fault, or since the run ends with this answer.
abbrev pub Stops : {A : Type 0} → (Files → Run A) → List Name → ShelfSeen → ShelfSeen → Halt → Type 0
Stops run names old new NoMemory = new ≡ old
Stops run names old new ReadFault = Stays old new × Fault old.holds (λ files. (run files).asked) names old new
Stops run names old new (Ends answer) = (new ≡ old) × WhereTold old.holds (λ files. (run files).end ≡ ends answer.text answer.verdict)

-- A stage gave the run's value, seen by view, or it stopped.
abbrev pub Gives : {X A : Type 0} → (X → A) → (Files → Run A) → List Name → ShelfSeen → ShelfSeen → Result X Halt → Type 0
Gives view run names old new (Ok x) = (new ≡ old) × WhereTold old.holds (λ files. (run files).end ≡ goes (view x))
Gives view run names old new (Err halt) = Stops run names old new halt

-- What bytes are was judged: a value, seen by view, or the answer that refuses them.
abbrev pub Judges : {X A : Type 0} → (X → A) → End A → Result X Halt → Type 0
Judges view end (Ok x) = end ≡ goes (view x)
Judges view end (Err NoMemory) = Unit {0}
Judges view end (Err ReadFault) = ⊥
Judges view end (Err (Ends answer)) = end ≡ ends answer.text answer.verdict

-- What may be answered where a run ends so: what a value allows, or the answer that is decided. A run that lacks a
-- file has no answer.
abbrev pub Ending : {A : Type 0} → (A → List ℕ → Verdict → Type 0) → End A → List ℕ → Verdict → Type 0
Ending allows (goes a) text v = allows a text v
Ending allows (ends t w) text v = (text ≡ t) × (v ≡ w)
Ending allows lacks text v = ⊥

-- Which answers may be given over some files: a text, and what it says.
abbrev pub Answering : Type 1
Answering = Files → List ℕ → Verdict → Type 0

-- The files over which a command's answers are judged, where these are known: those that the shelf tells. A command
-- that has no files needs none, and what the shelf holds is nothing to it.
abbrev pub known_files : List Name → Option Files → Option Files
known_files [] holds = Some (λ name. None)
known_files (name ∷ names) holds = holds

-- A command stopped: for want of memory, for a fault, or with one of its answers.
abbrev pub Halts : Answering → (Files → List Name) → List Name → ShelfSeen → ShelfSeen → Halt → Type 0
Halts may asked names old new NoMemory = new ≡ old
Halts may asked names old new ReadFault = Stays old new × Fault (known_files names old.holds) asked names old new
Halts may asked names old new (Ends answer) = (new ≡ old) × WhereTold (known_files names old.holds) (λ files. may files answer.text answer.verdict)

-- A command gave one of its answers, or it stopped.
abbrev pub Concludes : Answering → (Files → List Name) → List Name → ShelfSeen → ShelfSeen → Result Answer Halt → Type 0
Concludes may asked names old new (Ok answer) = (new ≡ old) × WhereTold (known_files names old.holds) (λ files. may files answer.text answer.verdict)
Concludes may asked names old new (Err halt) = Halts may asked names old new halt

-- A halt with this answer, or for want of memory.
abbrev pub HaltsWith : Halt → List ℕ → Verdict → Type 0
HaltsWith NoMemory text verdict = Unit {0}
HaltsWith ReadFault text verdict = ⊥
HaltsWith (Ends answer) text verdict = (answer.text ≡ text) × (answer.verdict ≡ verdict)
