-- What holds of each command's run and of its answers.
use Rattle.std.proofs.Common.{◌≡◌, ℕ, List, None, subst}
use Rattle.shelf_io.specs.Seen.{Name, Files}
use Rattle.key_table.specs.Payments.{Entries}
use Rattle.dir_typing.specs.Typed.{Typed}
use Rattle.euclidc_commands.specs.declared.status.Verdict.{Verdict}
use Rattle.euclidc_commands.specs.declared.status.Verdict.TheVariants as verdict
use Rattle.euclidc_commands.specs.Runs.{End, goes}
use Rattle.euclidc_commands.specs.Stages.{Among, Ending}
use Rattle.euclidc_commands.specs.Decide.{Decides}
use Rattle.euclidc_commands.specs.Check.{Trial, Judged, AcceptedLaw}
use Rattle.euclidc_commands.specs.Commands.{Command, Decide, Report, Prove, Check, Convert, Sample, MayAnswer, asked, names, IsGood, IsMissing, Assures}
use Rattle.euclidc_commands.specs.Convert.{Converts}
use Rattle.euclidc_commands.specs.Inquiries.{Inquiry}
use Rattle.euclidc_commands.specs.Laws.{NeverLaw, EnoughLaw}
use Rattle.euclidc_commands.specs.Prove.{Proved}
use Rattle.euclidc_commands.specs.Report.{Reported}
use Rattle.euclidc_commands.proofs.DecideLemmas.{decide-lacks, decide-asks}
use Rattle.euclidc_commands.proofs.CheckLemmas.{check-lacks, check-asks, judged-done, check-assures}
use Rattle.euclidc_commands.proofs.ProveLemmas.{prove-lacks, prove-asks, prove-assures, proved-done, report-lacks, report-asks, report-assures, reported-done}
use Rattle.euclidc_commands.proofs.ConvertLemmas.{convert-lacks, convert-asks}

-- it reaches its files alone
pub asked-named : (command : Command) (files : Files) (name : Name) → Among name (asked command files) → Among name (names command)
asked-named (Decide source program_name payment_name) files name among = decide-asks source program_name payment_name files name among
asked-named (Report source program_name settings_name budget) files name among = report-asks source program_name settings_name files name among
asked-named (Prove source program_name settings_name target budget) files name among = prove-asks source program_name settings_name target files name among
asked-named (Check source program_name settings_name target certificate_name) files name among = check-asks source program_name settings_name target certificate_name files name among
asked-named (Convert form program_name) files name among = convert-asks form program_name files name among
asked-named (Sample seed) files name among = among

-- good files have the verdict Done alone
pub good-done : EnoughLaw → (command : Command) (files : Files) → IsGood command files → (text : List ℕ) (v : Verdict) → MayAnswer command files text v → v ≡ verdict.Done
good-done law (Decide source program_name payment_name) files (read, is) text v answer =
    let P : End (Typed × Entries) → Type 0 = λ e. Ending Decides e text v in
    let decided : P (goes read) = subst P is answer in
    decided.1
good-done law (Report source program_name settings_name budget) files (i, is, enough) text v answer =
    let P : End Inquiry → Type 0 = λ e. Ending (Reported budget) e text v in
    reported-done law i budget text v (subst P is answer) enough
good-done law (Prove source program_name settings_name target budget) files (i, is, enough) text v answer =
    let P : End Inquiry → Type 0 = λ e. Ending (Proved target budget) e text v in
    proved-done law i target budget text v (subst P is answer) enough
good-done law (Check source program_name settings_name target certificate_name) files (t, is, proves) text v answer =
    let P : End Trial → Type 0 = λ e. Ending Judged e text v in
    judged-done t text v (subst P is answer) proves
good-done law (Convert form program_name) files (written, is) text v answer =
    let P : End (List ℕ) → Type 0 = λ e. Ending Converts e text v in
    let converts : P (goes written) = subst P is answer in
    converts.1
good-done law (Sample seed) files good text v answer = answer.done

-- good files are held
pub good-held : (command : Command) (files : Files) → IsGood command files → (name : Name) → Among name (asked command files) → files name ≡ None → ⊥
good-held (Decide source program_name payment_name) files (read, is) name among none = cc (is, decide-lacks source program_name payment_name files name among none)
good-held (Report source program_name settings_name budget) files (i, is, enough) name among none = cc (is, report-lacks source program_name settings_name files name among none)
good-held (Prove source program_name settings_name target budget) files (i, is, enough) name among none = cc (is, prove-lacks source program_name settings_name target files name among none)
good-held (Check source program_name settings_name target certificate_name) files (t, is, proves) name among none = cc (is, check-lacks source program_name settings_name target certificate_name files name among none)
good-held (Convert form program_name) files (written, is) name among none = cc (is, convert-lacks form program_name files name among none)
good-held (Sample seed) files good name among none = among

-- there is no answer where a file that is reached is not held
pub missing-none : (command : Command) (files : Files) → IsMissing command files → (text : List ℕ) (v : Verdict) → MayAnswer command files text v → ⊥
missing-none (Decide source program_name payment_name) files (name, among, none) text v answer =
    let P : End (Typed × Entries) → Type 0 = λ e. Ending Decides e text v in
    subst P (decide-lacks source program_name payment_name files name among none) answer
missing-none (Report source program_name settings_name budget) files (name, among, none) text v answer =
    let P : End Inquiry → Type 0 = λ e. Ending (Reported budget) e text v in
    subst P (report-lacks source program_name settings_name files name among none) answer
missing-none (Prove source program_name settings_name target budget) files (name, among, none) text v answer =
    let P : End Inquiry → Type 0 = λ e. Ending (Proved target budget) e text v in
    subst P (prove-lacks source program_name settings_name target files name among none) answer
missing-none (Check source program_name settings_name target certificate_name) files (name, among, none) text v answer =
    let P : End Trial → Type 0 = λ e. Ending Judged e text v in
    subst P (check-lacks source program_name settings_name target certificate_name files name among none) answer
missing-none (Convert form program_name) files (name, among, none) text v answer =
    let P : End (List ℕ) → Type 0 = λ e. Ending Converts e text v in
    subst P (convert-lacks form program_name files name among none) answer
missing-none (Sample seed) files (name, among, none) text v answer = absurd among

-- what it means that a command is done
pub done-assures : AcceptedLaw → NeverLaw → (command : Command) (files : Files) (text : List ℕ) → MayAnswer command files text verdict.Done → Assures command files
done-assures law never (Decide source program_name payment_name) files text may = tt
done-assures law never (Report source program_name settings_name budget) files text may = report-assures never source program_name settings_name budget files text may
done-assures law never (Prove source program_name settings_name target budget) files text may = prove-assures never source program_name settings_name target budget files text may
done-assures law never (Check source program_name settings_name target certificate_name) files text may = check-assures law source program_name settings_name target certificate_name files text may
done-assures law never (Convert form program_name) files text may = tt
done-assures law never (Sample seed) files text may = tt
