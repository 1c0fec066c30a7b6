-- An answer that is decided before all is read is never that a command is done.
use Rattle.std.proofs.Common.{◌≡◌, refl, sym, ℕ, List, Option, Some, None, Result, Ok, Err, Bool, true, false, length, nat_lt, if◌then◌else◌}
use Rattle.shelf_io.specs.Seen.{Name, Files}
use Rattle.euclidc_commands.specs.declared.role.Role.{Role}
use Rattle.euclidc_commands.specs.declared.status.Verdict.{Verdict}
use Rattle.euclidc_commands.specs.declared.status.Verdict.TheVariants.{Done, TooLong}
use Rattle.euclidc_commands.specs.Roles.{limit_of}
use Rattle.euclidc_commands.specs.Refusals.{too_long}
use Rattle.euclidc_commands.specs.Runs.{Run, End, goes, ends, lacks, after, ◌>>=◌, ending, judged, bytes_of, bytes_in, file}
use Rattle.euclidc_commands.specs.Stages.{Ending}

-- a decided answer is no Done
abbrev pub NeverDone : {A : Type 0} → End A → Type 0
NeverDone (goes a) = Unit {0}
NeverDone (ends text v) = v ≡ Done → ⊥
NeverDone lacks = Unit {0}

after-never : {A B : Type 0} (asked : List Name) (end : End A) (next : A → Run B) → NeverDone end → ((a : A) → NeverDone (next a).end) → NeverDone (after asked end next).end
after-never asked (goes a) next first follows = follows a
after-never asked (ends text v) next first follows = first
after-never asked lacks next first follows = tt

pub bind-never : {A B : Type 0} (run : Run A) (next : A → Run B) → NeverDone run.end → ((a : A) → NeverDone (next a).end) → NeverDone (run >>= next).end
bind-never run next first follows = after-never run.asked run.end next first follows

pub judged-never : {A E : Type 0} (refusal : E → List ℕ) (result : Result A E) → NeverDone (judged refusal result)
judged-never refusal (Ok a) = tt
judged-never refusal (Err error) = λ is. cc is

pub if-never : {A : Type 0} (b : Bool) (x y : End A) → NeverDone x → NeverDone y → NeverDone (if b then x else y)
if-never true x y first second = first
if-never false x y first second = second

bytes_of-never : (role : Role) (held : Option (List ℕ)) → NeverDone (bytes_of role held)
bytes_of-never role None = tt
bytes_of-never role (Some bytes) = if-never (nat_lt (limit_of role) (length bytes)) (ends (too_long role) TooLong) (goes bytes) (λ is. cc is) tt

judging : {A E : Type 0} → (E → List ℕ) → (List ℕ → Result A E) → List ℕ → Run A
judging refusal read bytes = ending (judged refusal (read bytes))

pub file-never : {A E : Type 0} (role : Role) (refusal : E → List ℕ) (read : List ℕ → Result A E) (name : Name) (files : Files) → NeverDone (file role refusal read name files).end
unfolding judging
file-never role refusal read name files = bind-never (bytes_in role name files) (judging refusal read) (bytes_of-never role (files name)) (λ bytes. judged-never refusal (read bytes))

-- where it may be done, all is read
pub done-went : {A : Type 0} (allows : A → List ℕ → Verdict → Type 0) (end : End A) (text : List ℕ) → NeverDone end → Ending allows end text Done → (a : A) × (end ≡ goes a) × allows a text Done
done-went allows (goes a) text never may = (a, refl, may)
done-went allows (ends w v) text never (same, is) = absurd (never (sym is))
done-went allows lacks text never none = absurd none
