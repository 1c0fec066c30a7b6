-- What the command `check` reaches, and what its answers say.
use Rattle.std.proofs.Common.{◌≡◌, ℕ, List, [], ◌∷◌, length, decimal, codes, nat_lt, true, Result, Ok, Err, IfOk, inl, inr, refl, sym, subst}
use Rattle.shelf_io.specs.Seen.{Name, Files}
use Rattle.key_table.specs.declared.stop.NoMemory.{NoMemory}
use Rattle.key_table.specs.Tables.{Table}
use Rattle.key_table.specs.TableFiles.{table_of}
use Rattle.euclid_ast.specs.declared.meaning.Choice as decided
use Rattle.euclid_ast.specs.declared.meaning.Choice.TheVariants.{Rule, Default}
use Rattle.euclid_ast.specs.Meaning.{IsWithin}
use Rattle.dir_typing.specs.Typed.{Typed, IsTyped}
use Rattle.connector_settings.specs.declared.settings.Settings.{Settings}
use Rattle.connector_settings.specs.declared.layout.ConnectorGraph.{ConnectorGraph}
use Rattle.connector_settings.specs.GraphOf.{IsGraphOf}
use Rattle.connector_settings.specs.Reading.{settings_of}
use Rattle.rule_problem.specs.declared.certificate.Certificate.{Certificate}
use Rattle.rule_problem.specs.declared.problem.Problem.{Problem}
use Rattle.rule_problem.specs.Laws.{ProofLaw}
use Rattle.rule_problem.specs.Problems.{problem_fits}
use Rattle.rule_problem.specs.Proving.{Proves}
use Rattle.rule_report.specs.Paths.{paths_of}
use Rattle.rule_report.specs.Reaching.{ReachesLaw}
use Rattle.rule_report.specs.Targets.{IsProblemOf}
use Rattle.contradiction_checker.specs.declared.walk.Verdict as checked
use Rattle.contradiction_checker.specs.declared.walk.Verdict.TheVariants.{Accepted, Rejected}
use Rattle.contradiction_checker.specs.Judging.{Judges}
use Rattle.certificate_text.specs.Reading.{certificate_of}
use Rattle.euclidc_commands.specs.declared.answer.Answer.{Answer}
use Rattle.euclidc_commands.specs.declared.role.Role.TheVariants as role
use Rattle.euclidc_commands.specs.declared.status.Verdict.{Verdict}
use Rattle.euclidc_commands.specs.declared.status.Verdict.TheVariants as verdict
use Rattle.euclidc_commands.specs.Refusals.{refusal}
use Rattle.euclidc_commands.specs.Inquiries.{IsProblemFor}
use Rattle.euclidc_commands.specs.Runs.{Run, goes, ends, ◌>>=◌, ending, judged}
use Rattle.euclidc_commands.specs.Stages.{Among, Ending}
use Rattle.euclidc_commands.specs.ProgramFiles.{program_refusal, program_of, program_file}
use Rattle.euclidc_commands.specs.TypedFiles.{type_refusal, typed_of, typed_file}
use Rattle.euclidc_commands.specs.SettingsFiles.{settings_refusal, settings_file}
use Rattle.euclidc_commands.specs.CertificateFiles.{certificate_refusal, certificate_file}
use Rattle.euclidc_commands.specs.TableFiles.{TableSource, known, under, table_refusal, table_in, table_names}
use Rattle.euclidc_commands.specs.Targets.{target_in}
use Rattle.euclidc_commands.specs.Verdicts.{Tells}
use Rattle.euclidc_commands.specs.Check.{Trial, trial, run_under, run_on, run_by, run, names, Says, Judged, Assures, AcceptedLaw}
use Rattle.euclidc_commands.proofs.Names.{among-right, AllAmong, none_among}
use Rattle.euclidc_commands.proofs.RunLemmas.{LacksMissing, ending-lacks, bind-lacks, file-lacks, bind-asks, file-asks}
use Rattle.euclidc_commands.proofs.Undone.{NeverDone, done-went, bind-never, judged-never, if-never, file-never}
use Rattle.euclidc_commands.proofs.DecideLemmas.{typed_file-lacks, typed_file-asks, table_in-lacks, table_in-asks}

all_read : Typed → Settings → decided.Choice → Certificate → Run Trial
all_read program settings target certificate = ending (goes (trial program settings target certificate))

run_under-lacks : (table : Table) (program : Typed) (settings : Settings) (target : decided.Choice) (certificate_name : Name) (files : Files) → LacksMissing files (run_under table program settings target certificate_name files)
unfolding all_read
run_under-lacks table program settings target certificate_name files =
    bind-lacks files (ending (target_in (length program.source.rules) target)) (λ _. certificate_file table certificate_name files >>= all_read program settings target)
    (ending-lacks files (target_in (length program.source.rules) target))
    (λ _. bind-lacks files (certificate_file table certificate_name files) (all_read program settings target) (file-lacks role.Certificate certificate_refusal (certificate_of table) certificate_name files)
    (λ certificate. ending-lacks files (goes (trial program settings target certificate))))

run_on-lacks : (table : Table) (program : Typed) (settings_name : Name) (target : decided.Choice) (certificate_name : Name) (files : Files) → LacksMissing files (run_on table program settings_name target certificate_name files)
run_on-lacks table program settings_name target certificate_name files =
    bind-lacks files (settings_file table settings_name files) (λ settings. run_under table program settings target certificate_name files)
    (file-lacks role.Settings settings_refusal (settings_of table) settings_name files) (λ settings. run_under-lacks table program settings target certificate_name files)

run_by-lacks : (table : Table) (program_name settings_name : Name) (target : decided.Choice) (certificate_name : Name) (files : Files) → LacksMissing files (run_by table program_name settings_name target certificate_name files)
run_by-lacks table program_name settings_name target certificate_name files =
    bind-lacks files (typed_file table program_name files) (λ program. run_on table program settings_name target certificate_name files)
    (typed_file-lacks table program_name files) (λ program. run_on-lacks table program settings_name target certificate_name files)

-- where a file that is reached is not held, the run lacks it
pub check-lacks : (source : TableSource) (program_name settings_name : Name) (target : decided.Choice) (certificate_name : Name) (files : Files) → LacksMissing files (run source program_name settings_name target certificate_name files)
check-lacks source program_name settings_name target certificate_name files =
    bind-lacks files (table_in source files) (λ table. run_by table program_name settings_name target certificate_name files)
    (table_in-lacks source files) (λ table. run_by-lacks table program_name settings_name target certificate_name files)

run_under-asks : (table : Table) (program : Typed) (settings : Settings) (target : decided.Choice) (certificate_name : Name) (names : List Name) (files : Files) → Among certificate_name names
    → AllAmong names (run_under table program settings target certificate_name files).asked
unfolding all_read
run_under-asks table program settings target certificate_name names files h =
    bind-asks names (ending (target_in (length program.source.rules) target)) (λ _. certificate_file table certificate_name files >>= all_read program settings target) (none_among names)
    (λ _. bind-asks names (certificate_file table certificate_name files) (all_read program settings target) (file-asks names role.Certificate certificate_refusal (certificate_of table) certificate_name files h)
    (λ certificate. none_among names))

run_on-asks : (table : Table) (program : Typed) (settings_name : Name) (target : decided.Choice) (certificate_name : Name) (names : List Name) (files : Files) → Among settings_name names → Among certificate_name names
    → AllAmong names (run_on table program settings_name target certificate_name files).asked
run_on-asks table program settings_name target certificate_name names files h k =
    bind-asks names (settings_file table settings_name files) (λ settings. run_under table program settings target certificate_name files)
    (file-asks names role.Settings settings_refusal (settings_of table) settings_name files h) (λ settings. run_under-asks table program settings target certificate_name names files k)

run_by-asks : (table : Table) (program_name settings_name : Name) (target : decided.Choice) (certificate_name : Name) (names : List Name) (files : Files) → Among program_name names → Among settings_name names → Among certificate_name names
    → AllAmong names (run_by table program_name settings_name target certificate_name files).asked
run_by-asks table program_name settings_name target certificate_name names files h k l =
    bind-asks names (typed_file table program_name files) (λ program. run_on table program settings_name target certificate_name files)
    (typed_file-asks names table program_name files h) (λ program. run_on-asks table program settings_name target certificate_name names files k l)

-- it reaches its files alone
pub check-asks : (source : TableSource) (program_name settings_name : Name) (target : decided.Choice) (certificate_name : Name) (files : Files)
    → AllAmong (names source program_name settings_name certificate_name) (run source program_name settings_name target certificate_name files).asked
check-asks source program_name settings_name target certificate_name files =
    let others = program_name ∷ settings_name ∷ certificate_name ∷ [] in
    let all = names source program_name settings_name certificate_name in
    bind-asks all (table_in source files) (λ table. run_by table program_name settings_name target certificate_name files) (table_in-asks source others files)
    (λ table. run_by-asks table program_name settings_name target certificate_name all files
    (among-right program_name (table_names source) others (inl refl)) (among-right settings_name (table_names source) others (inr (inl refl)))
    (among-right certificate_name (table_names source) others (inr (inr (inl refl)))))

-- what a verdict tells is said of the certificate
pub says : (table : Table) (problem : Problem) (certificate : Certificate) (checked : checked.Verdict) (text : List ℕ) (v : Verdict)
    → Judges table problem certificate checked → (Proves table problem certificate → checked ≡ Accepted) → Tells checked text v → Says table problem certificate text v
says table problem certificate Accepted text v judged exact (same, is) = subst (λ w. Says table problem certificate text w) (sym is) (same, judged)
says table problem certificate (Rejected i) text v judged exact (same, is) =
    subst (λ w. Says table problem certificate text w) (sym is) (i, same, judged, λ proves. cc (exact proves))

says-done : (table : Table) (problem : Problem) (certificate : Certificate) (text : List ℕ) (v : Verdict) → Says table problem certificate text v → Proves table problem certificate → v ≡ verdict.Done
says-done table problem certificate text verdict.Done says proves = refl
says-done table problem certificate text verdict.No (i, same, fails, proves_not) proves = absurd (proves_not proves)
says-done table problem certificate text verdict.Refused says proves = absurd says
says-done table problem certificate text verdict.TooLong says proves = absurd says

-- what is known of a certificate on a problem, by a table and a typed program
record Facts (settings : Settings) (target : decided.Choice) (certificate : Certificate) (connectors : ConnectorGraph) (problem : Problem) (checked : checked.Verdict) (table : Table) (program : Typed) : Type 0 where
  typed : IsTyped program
  graph : IsGraphOf table settings connectors
  of_target : IsProblemOf (paths_of program) connectors.graph connectors.goal target problem
  fits : problem_fits table problem ≡ true
  judged : Judges table problem certificate checked
  exact : Proves table problem certificate → checked ≡ Accepted

-- the answer of what is known
pub tried : (table : Table) (lowered program : Typed) (settings : Settings) (target : decided.Choice) (certificate : Certificate) (connectors : ConnectorGraph) (problem : Problem) (checked : checked.Verdict) (answer : Result Answer NoMemory)
    → lowered ≡ program → program.table ≡ table → IsWithin target (length program.source.rules) → IsTyped lowered → IsGraphOf table settings connectors
    → IsProblemOf (paths_of lowered) connectors.graph connectors.goal target problem → problem_fits table problem ≡ true → Judges table problem certificate checked → (Proves table problem certificate → checked ≡ Accepted)
    → IfOk answer (λ (a : Answer). Tells checked a.text a.verdict) → IfOk answer (λ (a : Answer). Judged (trial program settings target certificate) a.text a.verdict)
tried table lowered program settings target certificate connectors problem checked (Err e) same by within typed graph of_target fits judged exact tells = tells
tried table lowered program settings target certificate connectors problem checked (Ok a) same by within typed graph of_target fits judged exact tells =
    let P : Table → Typed → Type 0 = λ t p. Facts settings target certificate connectors problem checked t p in
    let first : P table lowered = record { typed = typed; graph = graph; of_target = of_target; fits = fits; judged = judged; exact = exact } in
    let all : P program.table program = subst (λ t. P t program) (sym by) (subst (λ p. P table p) same first) in (
      connectors,
      problem,
      record { typed = all.typed; within = within; graph = all.graph; of_target = all.of_target; fits = all.fits },
      says program.table problem certificate checked a.text a.verdict all.judged all.exact tells,
    )

-- a certificate that proves on each problem is accepted
pub judged-done : (t : Trial) (text : List ℕ) (v : Verdict) → Judged t text v → ((connectors : ConnectorGraph) (problem : Problem) → IsProblemFor t.inquiry t.target connectors problem → Proves t.inquiry.program.table problem t.certificate) → v ≡ verdict.Done
judged-done t text v (connectors, problem, is, says) proves = says-done t.inquiry.program.table problem t.certificate text v says (proves connectors problem is)

-- no payment reaches the target where a certificate is accepted
pub accepted : ReachesLaw → ProofLaw → AcceptedLaw
accepted reaches proof t text (connectors, problem, is, says) payment reached =
    let satisfied = (reaches t.inquiry.program t.inquiry.settings connectors t.target problem is.typed is.within is.graph is.of_target payment).1 reached in
    let unsatisfied = proof t.inquiry.program.table problem t.certificate payment is.fits says.1 in
    cc (satisfied, unsatisfied)

pub typed_file-never : (table : Table) (name : Name) (files : Files) → NeverDone (typed_file table name files).end
typed_file-never table name files =
    bind-never (program_file name files) (λ program. ending (judged type_refusal (typed_of table program))) (file-never role.Program program_refusal program_of name files)
    (λ program. judged-never type_refusal (typed_of table program))

pub table_in-never : (source : TableSource) (files : Files) → NeverDone (table_in source files).end
table_in-never known files = tt
table_in-never (under name) files = file-never role.Table table_refusal table_of name files

pub target_in-never : (count : ℕ) (target : decided.Choice) → NeverDone (target_in count target)
unfolding target_in
target_in-never count (Rule rule) = if-never (nat_lt rule count) (goes tt) (ends (refusal (codes "target") 1 (decimal rule)) verdict.Refused) tt (λ is. cc is)
target_in-never count Default = tt

run_under-never : (table : Table) (program : Typed) (settings : Settings) (target : decided.Choice) (certificate_name : Name) (files : Files) → NeverDone (run_under table program settings target certificate_name files).end
unfolding all_read
run_under-never table program settings target certificate_name files =
    bind-never (ending (target_in (length program.source.rules) target)) (λ _. certificate_file table certificate_name files >>= all_read program settings target)
    (target_in-never (length program.source.rules) target)
    (λ _. bind-never (certificate_file table certificate_name files) (all_read program settings target) (file-never role.Certificate certificate_refusal (certificate_of table) certificate_name files) (λ certificate. tt))

run_on-never : (table : Table) (program : Typed) (settings_name : Name) (target : decided.Choice) (certificate_name : Name) (files : Files) → NeverDone (run_on table program settings_name target certificate_name files).end
run_on-never table program settings_name target certificate_name files =
    bind-never (settings_file table settings_name files) (λ settings. run_under table program settings target certificate_name files)
    (file-never role.Settings settings_refusal (settings_of table) settings_name files) (λ settings. run_under-never table program settings target certificate_name files)

run_by-never : (table : Table) (program_name settings_name : Name) (target : decided.Choice) (certificate_name : Name) (files : Files) → NeverDone (run_by table program_name settings_name target certificate_name files).end
run_by-never table program_name settings_name target certificate_name files =
    bind-never (typed_file table program_name files) (λ program. run_on table program settings_name target certificate_name files)
    (typed_file-never table program_name files) (λ program. run_on-never table program settings_name target certificate_name files)

run-never : (source : TableSource) (program_name settings_name : Name) (target : decided.Choice) (certificate_name : Name) (files : Files) → NeverDone (run source program_name settings_name target certificate_name files).end
run-never source program_name settings_name target certificate_name files =
    bind-never (table_in source files) (λ table. run_by table program_name settings_name target certificate_name files)
    (table_in-never source files) (λ table. run_by-never table program_name settings_name target certificate_name files)

-- where it may be done, no payment reaches the target
pub check-assures : AcceptedLaw → (source : TableSource) (program_name settings_name : Name) (target : decided.Choice) (certificate_name : Name) (files : Files) (text : List ℕ)
    → Ending Judged (run source program_name settings_name target certificate_name files).end text verdict.Done → Assures source program_name settings_name target certificate_name files
check-assures law source program_name settings_name target certificate_name files text may =
    let (t, is, judged) = done-went Judged (run source program_name settings_name target certificate_name files).end text (run-never source program_name settings_name target certificate_name files) may in
    (t, is, law t text judged)
