-- A first stage and what follows it, as one run.
use Rattle.std.proofs.Common.{◌≡◌, ℕ, List, ◌∷◌, ◌++◌, Option, Some, None, Result, Ok, Err, refl, sym, subst}
use Rattle.shelf_io.specs.Seen.{Name, Files, ShelfSeen, WhereTold}
use Rattle.euclidc_commands.specs.declared.answer.Answer.{Answer}
use Rattle.euclidc_commands.specs.declared.answer.Halt.{Halt}
use Rattle.euclidc_commands.specs.declared.answer.Halt.TheVariants.{NoMemory, ReadFault, Ends}
use Rattle.euclidc_commands.specs.declared.status.Verdict.{Verdict}
use Rattle.euclidc_commands.specs.Runs.{Run, End, goes, ends, lacks, after, ◌>>=◌}
use Rattle.euclidc_commands.specs.Stages.{Among, Fault, Stops, Ending, Answering, known_files, Halts, Concludes}
use Rattle.euclidc_commands.proofs.Names.{among-left, among-right, known_files-append}
use Rattle.euclidc_commands.proofs.Told.{told_map, told_both}

asked-first : {A B : Type 0} (name : Name) (asked : List Name) (end : End A) (next : A → Run B) → Among name asked → Among name (after asked end next).asked
asked-first name asked (goes a) next among = among-left name asked (next a).asked among
asked-first name asked (ends text v) next among = among
asked-first name asked lacks next among = among

-- What follows the first stage reads at least one file.
module _ {A B : Type 0} (first : Files → Run A) (next : A → Files → Run B) (allows : B → List ℕ → Verdict → Type 0) (left : List Name) (n : Name) (others : List Name) where
  abbrev right : List Name
  right = n ∷ others

  abbrev pub whole : Files → Run B
  whole files = first files >>= λ a. next a files

  abbrev pub may : Answering
  may files text v = Ending allows (whole files).end text v

  abbrev pub asks : Files → List Name
  asks files = (whole files).asked

  -- the whole is judged over what the shelf tells
  over : (holds : Option Files) (P : Option Files → Type 0) → P holds → P (known_files (left ++ right) holds)
  over holds P h = subst P (sym (known_files-append left n others holds)) h

  fault-first : (holds : Option Files) (old new : ShelfSeen) → Fault holds (λ files. (first files).asked) left old new → Fault holds asks (left ++ right) old new
  fault-first None old new (name, among, failed) = (name, among-left name left right among, failed)
  fault-first (Some files) old new (name, among, why) = (name, asked-first name (first files).asked (first files).end (λ a. next a files) among, why)

  ended : (files : Files) (text : List ℕ) (v : Verdict) → (first files).end ≡ ends text v → may files text v
  ended files text v is =
      let P : End A → Type 0 = λ end. Ending allows (after (first files).asked end (λ a. next a files)).end text v in
      subst P (sym is) (refl, refl)

  -- where the first stage stops, the whole does
  pub halts_first : (old new : ShelfSeen) (halt : Halt) → Stops first left old new halt → Halts may asks (left ++ right) old new halt
  halts_first old new NoMemory stops = stops
  halts_first old new ReadFault stops = (stops.0, over old.holds (λ holds. Fault holds asks (left ++ right) old new) (fault-first old.holds old new stops.1))
  halts_first old new (Ends answer) stops =
      (stops.0, over old.holds (λ holds. WhereTold holds (λ files. may files answer.text answer.verdict)) (told_map old.holds _ _ (λ files is. ended files answer.text answer.verdict is) stops.1))

  went : (files : Files) (a : A) (text : List ℕ) (v : Verdict) → (first files).end ≡ goes a → Ending allows (next a files).end text v → may files text v
  went files a text v is answer =
      let P : End A → Type 0 = λ end. Ending allows (after (first files).asked end (λ x. next x files)).end text v in
      subst P (sym is) answer

  asked-next : (files : Files) (a : A) (name : Name) → (first files).end ≡ goes a → Among name (next a files).asked → Among name (asks files)
  asked-next files a name is among =
      let P : End A → Type 0 = λ end. Among name (after (first files).asked end (λ x. next x files)).asked in
      subst P (sym is) (among-right name (first files).asked (next a files).asked among)

  fault-next : (holds : Option Files) (old new : ShelfSeen) (a : A) → WhereTold holds (λ files. (first files).end ≡ goes a) → Fault holds (λ files. (next a files).asked) right old new → Fault holds asks (left ++ right) old new
  fault-next None old new a is (name, among, failed) = (name, among-right name left right among, failed)
  fault-next (Some files) old new a is (name, among, why) = (name, asked-next files a name is among, why)

  went-told : (old : ShelfSeen) (a : A) (answer : Answer) → WhereTold old.holds (λ files. (first files).end ≡ goes a) → WhereTold old.holds (λ files. Ending allows (next a files).end answer.text answer.verdict)
      → WhereTold (known_files (left ++ right) old.holds) (λ files. may files answer.text answer.verdict)
  went-told old a answer is told =
      over old.holds (λ holds. WhereTold holds (λ files. may files answer.text answer.verdict))
      (told_both old.holds _ _ _ (λ files end may_answer. went files a answer.text answer.verdict end may_answer) is told)

  halts_next : (old new : ShelfSeen) (a : A) (halt : Halt) → WhereTold old.holds (λ files. (first files).end ≡ goes a)
      → Halts (λ files. Ending allows (next a files).end) (λ files. (next a files).asked) right old new halt → Halts may asks (left ++ right) old new halt
  halts_next old new a NoMemory is halts = halts
  halts_next old new a ReadFault is halts = (halts.0, over old.holds (λ holds. Fault holds asks (left ++ right) old new) (fault-next old.holds old new a is halts.1))
  halts_next old new a (Ends answer) is halts = (halts.0, went-told old a answer is halts.1)

  concludes_from : (old new : ShelfSeen) (a : A) (result : Result Answer Halt) → WhereTold old.holds (λ files. (first files).end ≡ goes a)
      → Concludes (λ files. Ending allows (next a files).end) (λ files. (next a files).asked) right old new result → Concludes may asks (left ++ right) old new result
  concludes_from old new a (Ok answer) is gives = (gives.0, went-told old a answer is gives.1)
  concludes_from old new a (Err halt) is gives = halts_next old new a halt is gives

  -- where the first stage gives a value, the whole is what follows it
  pub concludes_next : (old mid new : ShelfSeen) (a : A) (result : Result Answer Halt) → mid ≡ old → WhereTold old.holds (λ files. (first files).end ≡ goes a)
      → Concludes (λ files. Ending allows (next a files).end) (λ files. (next a files).asked) right mid new result → Concludes may asks (left ++ right) old new result
  concludes_next old mid new a result same is gives =
      let P : ShelfSeen → Type 0 = λ s. Concludes (λ files. Ending allows (next a files).end) (λ files. (next a files).asked) right s new result in
      concludes_from old new a result is (subst P same gives)
