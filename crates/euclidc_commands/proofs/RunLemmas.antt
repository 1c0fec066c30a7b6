-- A run that reaches a file which is not held lacks it, and it reaches files of the command alone.
use Rattle.std.proofs.Common.{◌≡◌, ℕ, List, None, Result, inl, inr, refl, sym, ap, ◌∙◌}
use Rattle.shelf_io.specs.Seen.{Name, Files}
use Rattle.euclidc_commands.specs.declared.role.Role.{Role}
use Rattle.euclidc_commands.specs.Runs.{Run, End, goes, ends, lacks, after, ◌>>=◌, ending, judged, bytes_of, bytes_in, file}
use Rattle.euclidc_commands.specs.Stages.{Among}
use Rattle.euclidc_commands.proofs.Names.{among-append, AllAmong, one_among, none_among}

-- where a name that is asked for is not held, the run lacks it
abbrev pub LacksMissing : {A : Type 0} → Files → Run A → Type 0
LacksMissing files run = (name : Name) → Among name run.asked → files name ≡ None → run.end ≡ lacks

pub ending-lacks : {A : Type 0} (files : Files) (end : End A) → LacksMissing files (ending end)
ending-lacks files end name none_left none = absurd none_left

after-lacks : {A B : Type 0} (files : Files) (asked : List Name) (end : End A) (next : A → Run B) → LacksMissing files (record { asked = asked; end = end }) → ((a : A) → LacksMissing files (next a))
    → LacksMissing files (after asked end next)
after-lacks files asked (goes a) next first then name among none =
    elim (among-append name asked (next a).asked among) [ inl left ↦ absurd (cc (first name left none)) | inr right ↦ then a name right none ]
after-lacks files asked (ends text v) next first then name among none = absurd (cc (first name among none))
after-lacks files asked lacks next first then name among none = refl

pub bind-lacks : {A B : Type 0} (files : Files) (run : Run A) (next : A → Run B) → LacksMissing files run → ((a : A) → LacksMissing files (next a)) → LacksMissing files (run >>= next)
bind-lacks files run next first then = after-lacks files run.asked run.end next first then

bytes_in-lacks : (role : Role) (name : Name) (files : Files) → LacksMissing files (bytes_in role name files)
bytes_in-lacks role name files n (inl is) none = ap (λ held. bytes_of role held) (ap files (sym is) ∙ none)
bytes_in-lacks role name files n (inr none_left) none = absurd none_left

judging : {A E : Type 0} → (E → List ℕ) → (List ℕ → Result A E) → List ℕ → Run A
judging refusal read bytes = ending (judged refusal (read bytes))

pub file-lacks : {A E : Type 0} (role : Role) (refusal : E → List ℕ) (read : List ℕ → Result A E) (name : Name) (files : Files) → LacksMissing files (file role refusal read name files)
unfolding judging
file-lacks role refusal read name files =
    bind-lacks files (bytes_in role name files) (judging refusal read) (bytes_in-lacks role name files) (λ bytes. ending-lacks files (judged refusal (read bytes)))

after-asks : {A B : Type 0} (names asked : List Name) (end : End A) (next : A → Run B) → AllAmong names asked → ((a : A) → AllAmong names (next a).asked) → AllAmong names (after asked end next).asked
after-asks names asked (goes a) next first then name among = elim (among-append name asked (next a).asked among) [ inl left ↦ first name left | inr right ↦ then a name right ]
after-asks names asked (ends text v) next first then name among = first name among
after-asks names asked lacks next first then name among = first name among

pub bind-asks : {A B : Type 0} (names : List Name) (run : Run A) (next : A → Run B) → AllAmong names run.asked → ((a : A) → AllAmong names (next a).asked) → AllAmong names (run >>= next).asked
bind-asks names run next first then = after-asks names run.asked run.end next first then

pub file-asks : {A E : Type 0} (names : List Name) (role : Role) (refusal : E → List ℕ) (read : List ℕ → Result A E) (name : Name) (files : Files) → Among name names → AllAmong names (file role refusal read name files).asked
unfolding judging
file-asks names role refusal read name files h = bind-asks names (bytes_in role name files) (judging refusal read) (one_among names name h) (λ bytes. none_among names)
