-- What the commands `prove` and `report` reach, and when they have an answer.
use Rattle.std.proofs.Common.{◌≡◌, ℕ, List, [], ◌∷◌, length, inl, inr, refl, sym, ap, ◌∙◌}
use Rattle.std.specs.List.{All}
use Rattle.shelf_io.specs.Seen.{Name, Files}
use Rattle.key_table.specs.Tables.{Table}
use Rattle.euclid_ast.specs.declared.meaning.Choice as decided
use Rattle.dir_typing.specs.Typed.{Typed}
use Rattle.connector_settings.specs.declared.settings.Settings.{Settings}
use Rattle.connector_settings.specs.Reading.{settings_of}
use Rattle.euclidc_commands.specs.declared.role.Role.TheVariants as role
use Rattle.euclidc_commands.specs.declared.status.Verdict.{Verdict}
use Rattle.euclidc_commands.specs.declared.status.Verdict.TheVariants as verdict
use Rattle.euclidc_commands.specs.Budgets.{IsEnough}
use Rattle.euclidc_commands.specs.Findings.{is_open, verdict_where}
use Rattle.euclidc_commands.specs.Inquiries.{Inquiry, inquiry}
use Rattle.euclidc_commands.specs.Laws.{NeverLaw, EnoughLaw}
use Rattle.euclidc_commands.specs.Runs.{Run, goes, ◌>>=◌, ending}
use Rattle.euclidc_commands.specs.Stages.{Among, Ending}
use Rattle.euclidc_commands.specs.TypedFiles.{typed_file}
use Rattle.euclidc_commands.specs.SettingsFiles.{settings_refusal, settings_file}
use Rattle.euclidc_commands.specs.TableFiles.{TableSource, table_in, table_names}
use Rattle.euclidc_commands.specs.Targets.{target_in}
use Rattle.euclidc_commands.specs.Prove.{run_on, run_by, run, names, Proved, Assures}
use Rattle.euclidc_commands.specs.Report as report
use Rattle.euclidc_commands.specs.Report.{Reported, all_targets}
use Rattle.euclidc_commands.proofs.FindingLemmas.{closed, all_closed, settled, all_settled, done-closed}
use Rattle.euclidc_commands.proofs.Names.{among-right, AllAmong, none_among}
use Rattle.euclidc_commands.proofs.RunLemmas.{LacksMissing, ending-lacks, bind-lacks, file-lacks, bind-asks, file-asks}
use Rattle.euclidc_commands.proofs.Undone.{NeverDone, done-went, bind-never, file-never}
use Rattle.euclidc_commands.proofs.DecideLemmas.{typed_file-lacks, typed_file-asks, table_in-lacks, table_in-asks}
use Rattle.euclidc_commands.proofs.CheckLemmas.{typed_file-never, table_in-never, target_in-never}

asked_for : Typed → Settings → Run Inquiry
asked_for program settings = ending (goes (inquiry program settings))

aimed : Typed → decided.Choice → Settings → Run Inquiry
aimed program target settings = ending (target_in (length program.source.rules) target) >>= λ _. asked_for program settings

run_on-lacks : (table : Table) (program : Typed) (settings_name : Name) (target : decided.Choice) (files : Files) → LacksMissing files (run_on table program settings_name target files)
unfolding asked_for aimed
run_on-lacks table program settings_name target files =
    bind-lacks files (settings_file table settings_name files) (aimed program target) (file-lacks role.Settings settings_refusal (settings_of table) settings_name files)
    (λ settings. bind-lacks files (ending (target_in (length program.source.rules) target)) (λ _. asked_for program settings) (ending-lacks files (target_in (length program.source.rules) target))
    (λ _. ending-lacks files (goes (inquiry program settings))))

run_by-lacks : (table : Table) (program_name settings_name : Name) (target : decided.Choice) (files : Files) → LacksMissing files (run_by table program_name settings_name target files)
run_by-lacks table program_name settings_name target files =
    bind-lacks files (typed_file table program_name files) (λ program. run_on table program settings_name target files) (typed_file-lacks table program_name files) (λ program. run_on-lacks table program settings_name target files)

-- where a file that is reached is not held, the run lacks it
pub prove-lacks : (source : TableSource) (program_name settings_name : Name) (target : decided.Choice) (files : Files) → LacksMissing files (run source program_name settings_name target files)
prove-lacks source program_name settings_name target files =
    bind-lacks files (table_in source files) (λ table. run_by table program_name settings_name target files) (table_in-lacks source files) (λ table. run_by-lacks table program_name settings_name target files)

run_on-asks : (table : Table) (program : Typed) (settings_name : Name) (target : decided.Choice) (names : List Name) (files : Files) → Among settings_name names → AllAmong names (run_on table program settings_name target files).asked
unfolding asked_for aimed
run_on-asks table program settings_name target names files h =
    bind-asks names (settings_file table settings_name files) (aimed program target) (file-asks names role.Settings settings_refusal (settings_of table) settings_name files h)
    (λ settings. bind-asks names (ending (target_in (length program.source.rules) target)) (λ _. asked_for program settings) (none_among names) (λ _. none_among names))

run_by-asks : (table : Table) (program_name settings_name : Name) (target : decided.Choice) (names : List Name) (files : Files) → Among program_name names → Among settings_name names
    → AllAmong names (run_by table program_name settings_name target files).asked
run_by-asks table program_name settings_name target names files h k =
    bind-asks names (typed_file table program_name files) (λ program. run_on table program settings_name target files) (typed_file-asks names table program_name files h)
    (λ program. run_on-asks table program settings_name target names files k)

-- it reaches its files alone
pub prove-asks : (source : TableSource) (program_name settings_name : Name) (target : decided.Choice) (files : Files) → AllAmong (names source program_name settings_name) (run source program_name settings_name target files).asked
prove-asks source program_name settings_name target files =
    let others = program_name ∷ settings_name ∷ [] in
    let all = names source program_name settings_name in
    bind-asks all (table_in source files) (λ table. run_by table program_name settings_name target files) (table_in-asks source others files)
    (λ table. run_by-asks table program_name settings_name target all files (among-right program_name (table_names source) others (inl refl)) (among-right settings_name (table_names source) others (inr (inl refl))))

run_on-never : (table : Table) (program : Typed) (settings_name : Name) (target : decided.Choice) (files : Files) → NeverDone (run_on table program settings_name target files).end
unfolding asked_for aimed
run_on-never table program settings_name target files =
    bind-never (settings_file table settings_name files) (aimed program target) (file-never role.Settings settings_refusal (settings_of table) settings_name files)
    (λ settings. bind-never (ending (target_in (length program.source.rules) target)) (λ _. asked_for program settings) (target_in-never (length program.source.rules) target) (λ _. tt))

run_by-never : (table : Table) (program_name settings_name : Name) (target : decided.Choice) (files : Files) → NeverDone (run_by table program_name settings_name target files).end
run_by-never table program_name settings_name target files =
    bind-never (typed_file table program_name files) (λ program. run_on table program settings_name target files) (typed_file-never table program_name files) (λ program. run_on-never table program settings_name target files)

-- an answer that is decided before all is read is never Done
pub prove-never : (source : TableSource) (program_name settings_name : Name) (target : decided.Choice) (files : Files) → NeverDone (run source program_name settings_name target files).end
prove-never source program_name settings_name target files =
    bind-never (table_in source files) (λ table. run_by table program_name settings_name target files) (table_in-never source files) (λ table. run_by-never table program_name settings_name target files)

report_on-lacks : (table : Table) (program : Typed) (settings_name : Name) (files : Files) → LacksMissing files (report.run_on table program settings_name files)
unfolding asked_for
report_on-lacks table program settings_name files =
    bind-lacks files (settings_file table settings_name files) (asked_for program) (file-lacks role.Settings settings_refusal (settings_of table) settings_name files)
    (λ settings. ending-lacks files (goes (inquiry program settings)))

report_by-lacks : (table : Table) (program_name settings_name : Name) (files : Files) → LacksMissing files (report.run_by table program_name settings_name files)
report_by-lacks table program_name settings_name files =
    bind-lacks files (typed_file table program_name files) (λ program. report.run_on table program settings_name files) (typed_file-lacks table program_name files) (λ program. report_on-lacks table program settings_name files)

pub report-lacks : (source : TableSource) (program_name settings_name : Name) (files : Files) → LacksMissing files (report.run source program_name settings_name files)
report-lacks source program_name settings_name files =
    bind-lacks files (table_in source files) (λ table. report.run_by table program_name settings_name files) (table_in-lacks source files) (λ table. report_by-lacks table program_name settings_name files)

report_on-asks : (table : Table) (program : Typed) (settings_name : Name) (names : List Name) (files : Files) → Among settings_name names → AllAmong names (report.run_on table program settings_name files).asked
unfolding asked_for
report_on-asks table program settings_name names files h =
    bind-asks names (settings_file table settings_name files) (asked_for program) (file-asks names role.Settings settings_refusal (settings_of table) settings_name files h) (λ settings. none_among names)

report_by-asks : (table : Table) (program_name settings_name : Name) (names : List Name) (files : Files) → Among program_name names → Among settings_name names → AllAmong names (report.run_by table program_name settings_name files).asked
report_by-asks table program_name settings_name names files h k =
    bind-asks names (typed_file table program_name files) (λ program. report.run_on table program settings_name files) (typed_file-asks names table program_name files h)
    (λ program. report_on-asks table program settings_name names files k)

pub report-asks : (source : TableSource) (program_name settings_name : Name) (files : Files) → AllAmong (report.names source program_name settings_name) (report.run source program_name settings_name files).asked
report-asks source program_name settings_name files =
    let others = program_name ∷ settings_name ∷ [] in
    let all = report.names source program_name settings_name in
    bind-asks all (table_in source files) (λ table. report.run_by table program_name settings_name files) (table_in-asks source others files)
    (λ table. report_by-asks table program_name settings_name all files (among-right program_name (table_names source) others (inl refl)) (among-right settings_name (table_names source) others (inr (inl refl))))

report_on-never : (table : Table) (program : Typed) (settings_name : Name) (files : Files) → NeverDone (report.run_on table program settings_name files).end
unfolding asked_for
report_on-never table program settings_name files =
    bind-never (settings_file table settings_name files) (asked_for program) (file-never role.Settings settings_refusal (settings_of table) settings_name files) (λ settings. tt)

report_by-never : (table : Table) (program_name settings_name : Name) (files : Files) → NeverDone (report.run_by table program_name settings_name files).end
report_by-never table program_name settings_name files =
    bind-never (typed_file table program_name files) (λ program. report.run_on table program settings_name files) (typed_file-never table program_name files) (λ program. report_on-never table program settings_name files)

pub report-never : (source : TableSource) (program_name settings_name : Name) (files : Files) → NeverDone (report.run source program_name settings_name files).end
report-never source program_name settings_name files =
    bind-never (table_in source files) (λ table. report.run_by table program_name settings_name files) (table_in-never source files) (λ table. report_by-never table program_name settings_name files)

-- where `prove` may be done, some payment reaches the target, or none does
pub prove-assures : NeverLaw → (source : TableSource) (program_name settings_name : Name) (target : decided.Choice) (budget : ℕ) (files : Files) (text : List ℕ)
    → Ending (Proved target budget) (run source program_name settings_name target files).end text verdict.Done → Assures source program_name settings_name target files
prove-assures law source program_name settings_name target budget files text may =
    let (i, is, proved) = done-went (Proved target budget) (run source program_name settings_name target files).end text (prove-never source program_name settings_name target files) may in
    (i, is, settled law i budget target proved.report proved.found (done-closed (is_open proved.report) proved.says))

pub report-assures : NeverLaw → (source : TableSource) (program_name settings_name : Name) (budget : ℕ) (files : Files) (text : List ℕ)
    → Ending (Reported budget) (report.run source program_name settings_name files).end text verdict.Done → report.Assures source program_name settings_name files
report-assures law source program_name settings_name budget files text may =
    let (i, is, told) = done-went (Reported budget) (report.run source program_name settings_name files).end text (report-never source program_name settings_name files) may in
    let (left, tells, says) = told in
    (i, is, all_settled law i budget (all_targets i) tells.reports tells.found (sym tells.says ∙ done-closed left says))

-- with a budget that is enough the answer is Done
pub proved-done : EnoughLaw → (i : Inquiry) (target : decided.Choice) (budget : ℕ) (text : List ℕ) (v : Verdict) → Proved target budget i text v → IsEnough i budget target → v ≡ verdict.Done
proved-done law i target budget text v proved enough = proved.says ∙ ap verdict_where (closed law i budget target proved.report proved.found enough)

pub reported-done : EnoughLaw → (i : Inquiry) (budget : ℕ) (text : List ℕ) (v : Verdict) → Reported budget i text v → All (IsEnough i budget) (all_targets i) → v ≡ verdict.Done
reported-done law i budget text v (left, tells, says) enough = says ∙ ap verdict_where (tells.says ∙ all_closed law i budget (all_targets i) tells.reports tells.found enough)
