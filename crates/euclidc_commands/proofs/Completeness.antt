-- What the meaning of the statuses implies: completeness, what a missing file gives, and what it means that a command is done.
use Rattle.std.proofs.Common.{◌≡◌, Option, Some, None, Result, ◌⊎◌, inl, inr, refl}
use Rattle.shelf_io.specs.Seen.{Name, Files, ShelfSeen, SinkSeen, FailedOn, WhereTold}
use Rattle.euclidc_commands.specs.declared.answer.Answer.{Answer}
use Rattle.euclidc_commands.specs.declared.answer.Halt.{Halt}
use Rattle.euclidc_commands.specs.declared.status.Verdict.{Verdict}
use Rattle.euclidc_commands.specs.declared.status.Verdict.TheVariants as verdict
use Rattle.euclidc_commands.specs.declared.status.Status.{Status}
use Rattle.euclidc_commands.specs.declared.status.Status.TheVariants as status
use Rattle.euclidc_commands.specs.Stages.{Among, Fault, Concludes}
use Rattle.euclidc_commands.specs.Check.{AcceptedLaw}
use Rattle.euclidc_commands.specs.Laws.{NeverLaw, EnoughLaw}
use Rattle.euclidc_commands.specs.Commands.{Command, MayAnswer, asked, names, IsGood, IsMissing}
use Rattle.euclidc_commands.specs.Top.{WritesWhole, known_to, Does, IsCalm, Completes, Misses, IsAssured, Accepts, Finishes}
use Rattle.euclidc_commands.proofs.CommandLemmas.{asked-named, good-done, good-held, missing-none, done-assures}
use Rattle.euclidc_commands.proofs.Meetings.{does}
use Rattle.euclidc_commands.proofs.Told.{told_all, told_map}

abbrev Ends : Status → Type 0
Ends s = (s ≡ status.Done) ⊎ (s ≡ status.NoMemory)

not_done : EnoughLaw → (command : Command) (s : ShelfSeen) (k k' : SinkSeen) (v : Verdict) (r : Status) (Calm : Type 0) → (v ≡ verdict.Done → ⊥) → WritesWhole (MayAnswer command) (known_to command s) k k' v
    → WhereTold (known_to command s) (λ files. IsGood command files → Calm → Ends r)
not_done law command s k k' v r Calm other wrote = told_map (known_to command s) _ _ (λ files put good calm. absurd (other (good-done law command files good put.0 v put.1))) wrote

no_fault : (command : Command) (holds : Option Files) (old new : ShelfSeen) (Risen : Type 0) (r : Status) → Fault holds (asked command) (names command) old new
    → WhereTold holds (λ files. IsGood command files → (((name : Name) → Among name (names command) → FailedOn name old new → ⊥) × (Risen → ⊥)) → Ends r)
no_fault command None old new Risen r fault = tt
no_fault command (Some files) old new Risen r (name, among, why) =
    λ good calm. elim why [ inl failed ↦ absurd (calm.0 name (asked-named command files name among) failed) | inr none ↦ absurd (good-held command files good name among none) ]

does_completes : EnoughLaw → (command : Command) (s s' : ShelfSeen) (k k' : SinkSeen) (r : Status) → Does command s s' k k' r → Completes (Some command) s s' k k' r
does_completes law command s s' k k' status.Done does = told_all (known_to command s) _ (λ files good calm. inl refl)
does_completes law command s s' k k' status.NoMemory does = told_all (known_to command s) _ (λ files good calm. inr refl)
does_completes law command s s' k k' status.No does = not_done law command s k k' verdict.No status.No (IsCalm command s s' k k') (λ e. cc e) does
does_completes law command s s' k k' status.Refused does = not_done law command s k k' verdict.Refused status.Refused (IsCalm command s s' k k') (λ e. cc e) does
does_completes law command s s' k k' status.TooLong does = not_done law command s k k' verdict.TooLong status.TooLong (IsCalm command s s' k k') (λ e. cc e) does
does_completes law command s s' k k' status.Usage does = absurd does
does_completes law command s s' k k' status.ReadFault does = no_fault command (known_to command s) s s' _ status.ReadFault does.1
does_completes law command s s' k k' status.WriteFault does = told_all (known_to command s) _ (λ files good calm. absurd (calm.1 does.0))

pub completes : EnoughLaw → (command : Command) (s s' : ShelfSeen) (k k' : SinkSeen) (outcome : Result Answer Halt) (r : Status)
    → Concludes (MayAnswer command) (asked command) (names command) s s' outcome → Finishes outcome k k' r → Completes (Some command) s s' k k' r
completes law command s s' k k' outcome r gives done = does_completes law command s s' k k' r (does command s s' k k' outcome r gives done)

abbrev Lacking : Status → Type 0
Lacking s = (s ≡ status.ReadFault) ⊎ (s ≡ status.NoMemory)

no_answer : (command : Command) (s : ShelfSeen) (k k' : SinkSeen) (v : Verdict) (r : Status) → WritesWhole (MayAnswer command) (known_to command s) k k' v
    → WhereTold (known_to command s) (λ files. IsMissing command files → Lacking r)
no_answer command s k k' v r wrote = told_map (known_to command s) _ _ (λ files put missing. absurd (missing-none command files missing put.0 v put.1)) wrote

does_misses : (command : Command) (s s' : ShelfSeen) (k k' : SinkSeen) (r : Status) → Does command s s' k k' r → Misses (Some command) s r
does_misses command s s' k k' status.Done does = no_answer command s k k' verdict.Done status.Done does
does_misses command s s' k k' status.No does = no_answer command s k k' verdict.No status.No does
does_misses command s s' k k' status.Refused does = no_answer command s k k' verdict.Refused status.Refused does
does_misses command s s' k k' status.TooLong does = no_answer command s k k' verdict.TooLong status.TooLong does
does_misses command s s' k k' status.Usage does = absurd does
does_misses command s s' k k' status.ReadFault does = told_all (known_to command s) _ (λ files missing. inl refl)
does_misses command s s' k k' status.NoMemory does = told_all (known_to command s) _ (λ files missing. inr refl)
does_misses command s s' k k' status.WriteFault does = told_map (known_to command s) _ _ (λ files broke missing. absurd (missing-none command files missing broke.0 broke.1 broke.2)) does.1

pub misses : (command : Command) (s s' : ShelfSeen) (k k' : SinkSeen) (outcome : Result Answer Halt) (r : Status)
    → Concludes (MayAnswer command) (asked command) (names command) s s' outcome → Finishes outcome k k' r → Misses (Some command) s r
misses command s s' k k' outcome r gives done = does_misses command s s' k k' r (does command s s' k k' outcome r gives done)

does_accepts : AcceptedLaw → NeverLaw → (command : Command) (s s' : ShelfSeen) (k k' : SinkSeen) (r : Status) → Does command s s' k k' r → IsAssured command s r
does_accepts law never command s s' k k' status.Done does = told_map (known_to command s) _ _ (λ files put. done-assures law never command files put.0 put.1) does
does_accepts law never command s s' k k' status.No does = tt
does_accepts law never command s s' k k' status.Usage does = tt
does_accepts law never command s s' k k' status.Refused does = tt
does_accepts law never command s s' k k' status.TooLong does = tt
does_accepts law never command s s' k k' status.ReadFault does = tt
does_accepts law never command s s' k k' status.WriteFault does = tt
does_accepts law never command s s' k k' status.NoMemory does = tt

pub accepts : AcceptedLaw → NeverLaw → (command : Command) (s s' : ShelfSeen) (k k' : SinkSeen) (outcome : Result Answer Halt) (r : Status)
    → Concludes (MayAnswer command) (asked command) (names command) s s' outcome → Finishes outcome k k' r → Accepts (Some command) s r
accepts law never command s s' k k' outcome r gives done = does_accepts law never command s s' k k' r (does command s s' k k' outcome r gives done)
