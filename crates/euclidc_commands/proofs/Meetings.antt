-- A command's answer, put, is what the top call owes.
use Rattle.std.proofs.Common.{◌≡◌, ℕ, List, Option, Some, None, Result, Ok, Err, inl, inr, sym, ap, subst, ◌≤◌, arith}
use Rattle.shelf_io.specs.Seen.{Files, ShelfSeen, SinkSeen, WhereTold}
use Rattle.euclidc_commands.specs.declared.answer.Answer.{Answer}
use Rattle.euclidc_commands.specs.declared.answer.Halt.{Halt}
use Rattle.euclidc_commands.specs.declared.answer.Halt.TheVariants as halt
use Rattle.euclidc_commands.specs.declared.status.Verdict.{Verdict}
use Rattle.euclidc_commands.specs.declared.status.Verdict.TheVariants as verdict
use Rattle.euclidc_commands.specs.declared.status.Status.{Status}
use Rattle.euclidc_commands.specs.Commands.{Command, MayAnswer, asked, names}
use Rattle.euclidc_commands.specs.Stages.{Fault, Concludes, Stays}
use Rattle.euclidc_commands.specs.Top.{WritesWhole, known_to, Does, Finishes, PutGives, Keeps, HasFile, LeavesShelf}
use Rattle.euclidc_commands.specs.Statuses.{status_of}
use Rattle.euclidc_commands.proofs.CommandLemmas.{asked-named}
use Rattle.euclidc_commands.proofs.Told.{told_map}

whole_does : (command : Command) (s s' : ShelfSeen) (k k' : SinkSeen) (v : Verdict) → WritesWhole (MayAnswer command) (known_to command s) k k' v → Does command s s' k k' (status_of v)
whole_does command s s' k k' verdict.Done h = h
whole_does command s s' k k' verdict.No h = h
whole_does command s s' k k' verdict.Refused h = h
whole_does command s s' k k' verdict.TooLong h = h

put_does : (command : Command) (s s' : ShelfSeen) (k k' : SinkSeen) (text : List ℕ) (v : Verdict) (r : Status)
    → WhereTold (known_to command s) (λ files. MayAnswer command files text v) → PutGives (record { text = text; verdict = v }) k k' r → Does command s s' k k' r
put_does command s s' k k' text v r right (risen, inl wrote) =
    subst (λ x. Does command s s' k k' x) (sym wrote.0) (whole_does command s s' k k' v (told_map (known_to command s) _ _ (λ files answers. (text, answers, wrote.1)) right))
put_does command s s' k k' text v r right (risen, inr broke) =
    subst (λ x. Does command s s' k k' x) (sym broke.0) (broke.1, told_map (known_to command s) _ _ (λ files answers. (text, v, answers, broke.2)) right)

pub does : (command : Command) (s s' : ShelfSeen) (k k' : SinkSeen) (outcome : Result Answer Halt) (r : Status)
    → Concludes (MayAnswer command) (asked command) (names command) s s' outcome → Finishes outcome k k' r → Does command s s' k k' r
does command s s' k k' (Ok a) r gives done = put_does command s s' k k' a.text a.verdict r gives.1 done
does command s s' k k' (Err (halt.Ends a)) r gives done = put_does command s s' k k' a.text a.verdict r gives.1 done
does command s s' k k' (Err halt.NoMemory) r gives done = subst (λ x. Does command s s' k k' x) (sym done.0) (gives, done.1)
does command s s' k k' (Err halt.ReadFault) r gives done = subst (λ x. Does command s s' k k' x) (sym done.0) (done.1, gives.1)

same_keeps : (s s' : ShelfSeen) → s' ≡ s → Stays s s'
same_keeps s s' e = (ap (λ (x : ShelfSeen). x.holds) e, subst (λ (x : ShelfSeen). s.faults ≤ x.faults) (sym e) (omega arith))

pub keeps : (command : Command) (s s' : ShelfSeen) (k k' : SinkSeen) (outcome : Result Answer Halt) (r : Status)
    → Concludes (MayAnswer command) (asked command) (names command) s s' outcome → Finishes outcome k k' r → Keeps s s' k k'
keeps command s s' k k' (Ok a) r gives done = (same_keeps s s' gives.0, done.0)
keeps command s s' k k' (Err (halt.Ends a)) r gives done = (same_keeps s s' gives.0, done.0)
keeps command s s' k k' (Err halt.NoMemory) r gives done = (same_keeps s s' gives, subst (λ (x : SinkSeen). k.faults ≤ x.faults) (sym done.1) (omega arith))
keeps command s s' k k' (Err halt.ReadFault) r gives done = (gives.0, subst (λ (x : SinkSeen). k.faults ≤ x.faults) (sym done.1) (omega arith))

-- a read fault names a file of the command
fault_named : (command : Command) (holds : Option Files) (old new : ShelfSeen) → Fault holds (asked command) (names command) old new → HasFile (Some command)
fault_named command None old new (name, among, failed) = (name, among)
fault_named command (Some files) old new (name, among, why) = (name, asked-named command files name among)

put_leaves : (command : Option Command) (s s' : ShelfSeen) (v : Verdict) → s' ≡ s → LeavesShelf command s s' (status_of v)
put_leaves command s s' verdict.Done e = e
put_leaves command s s' verdict.No e = e
put_leaves command s s' verdict.Refused e = e
put_leaves command s s' verdict.TooLong e = e

answer_leaves : (command : Option Command) (s s' : ShelfSeen) (k k' : SinkSeen) (a : Answer) (r : Status) → s' ≡ s → PutGives a k k' r → LeavesShelf command s s' r
answer_leaves command s s' k k' a r e (risen, inl wrote) = subst (λ x. LeavesShelf command s s' x) (sym wrote.0) (put_leaves command s s' a.verdict e)
answer_leaves command s s' k k' a r e (risen, inr broke) = subst (λ x. LeavesShelf command s s' x) (sym broke.0) e

pub leaves_shelf : (command : Command) (s s' : ShelfSeen) (k k' : SinkSeen) (outcome : Result Answer Halt) (r : Status)
    → Concludes (MayAnswer command) (asked command) (names command) s s' outcome → Finishes outcome k k' r → LeavesShelf (Some command) s s' r
leaves_shelf command s s' k k' (Ok a) r gives done = answer_leaves (Some command) s s' k k' a r gives.0 done
leaves_shelf command s s' k k' (Err (halt.Ends a)) r gives done = answer_leaves (Some command) s s' k k' a r gives.0 done
leaves_shelf command s s' k k' (Err halt.NoMemory) r gives done = subst (λ x. LeavesShelf (Some command) s s' x) (sym done.0) gives
leaves_shelf command s s' k k' (Err halt.ReadFault) r gives done = subst (λ x. LeavesShelf (Some command) s s' x) (sym done.0) (fault_named command (known_to command s) s s' gives.1)
