-- The command `check`.
use Rattle.std.specs.Prelude.{◌≡◌, ℕ, List, [], ◌∷◌, ◌++◌, length, codes, decimal}
use Rattle.shelf_io.specs.Seen.{Name, Files}
use Rattle.key_table.specs.Tables.{Table}
use Rattle.euclid_ast.specs.declared.meaning.Choice as decided
use Rattle.dir_typing.specs.Typed.{Typed}
use Rattle.connector_settings.specs.declared.settings.Settings.{Settings}
use Rattle.connector_settings.specs.declared.layout.ConnectorGraph.{ConnectorGraph}
use Rattle.rule_problem.specs.declared.certificate.Certificate.{Certificate}
use Rattle.rule_problem.specs.declared.problem.Problem.{Problem}
use Rattle.rule_problem.specs.Proving.{Proves, FailsAt}
use Rattle.euclidc_commands.specs.declared.status.Verdict.{Verdict}
use Rattle.euclidc_commands.specs.declared.status.Verdict.TheVariants as verdict
use Rattle.euclidc_commands.specs.Inquiries.{Inquiry, inquiry, IsProblemFor, IsNeverReached}
use Rattle.euclidc_commands.specs.Runs.{Run, goes, ◌>>=◌, ending}
use Rattle.euclidc_commands.specs.Stages.{Answering, Ending}
use Rattle.euclidc_commands.specs.TableFiles.{TableSource, table_in, table_names}
use Rattle.euclidc_commands.specs.TypedFiles.{typed_file}
use Rattle.euclidc_commands.specs.SettingsFiles.{settings_file}
use Rattle.euclidc_commands.specs.CertificateFiles.{certificate_file}
use Rattle.euclidc_commands.specs.Targets.{target_in}

-- what is read: a typed program and settings, a target of the program, and a certificate
pub record Trial : Type 0 where
  pub inquiry : Inquiry
  pub target : decided.Choice
  pub certificate : Certificate

abbrev pub trial : Typed → Settings → decided.Choice → Certificate → Trial
trial program settings target certificate = record { inquiry = inquiry program settings; target = target; certificate = certificate }

-- the target, which is to be one of the program's, and then the certificate
abbrev pub run_under : Table → Typed → Settings → decided.Choice → Name → Files → Run Trial
run_under table program settings target certificate_name files =
    ending (target_in (length program.source.rules) target) >>= λ _. certificate_file table certificate_name files >>= λ certificate. ending (goes (trial program settings target certificate))

-- the settings, and then the target and the certificate, for a program
abbrev pub run_on : Table → Typed → Name → decided.Choice → Name → Files → Run Trial
run_on table program settings_name target certificate_name files = settings_file table settings_name files >>= λ settings. run_under table program settings target certificate_name files

-- the program, typed by the table, and then what is judged on it
abbrev pub run_by : Table → Name → Name → decided.Choice → Name → Files → Run Trial
run_by table program_name settings_name target certificate_name files = typed_file table program_name files >>= λ program. run_on table program settings_name target certificate_name files

-- the table, the program, the settings, the target, and then the certificate
abbrev pub run : TableSource → Name → Name → decided.Choice → Name → Files → Run Trial
run source program_name settings_name target certificate_name files = table_in source files >>= λ table. run_by table program_name settings_name target certificate_name files

-- What is answered of a certificate on a problem: it is accepted where its items prove, and else rejected with the number of the item that fails.
abbrev pub Says : Table → Problem → Certificate → List ℕ → Verdict → Type 0
Says table problem certificate text verdict.Done = (text ≡ codes "accepted\n") × Proves table problem certificate
Says table problem certificate text verdict.No = (i : ℕ) × (text ≡ codes "rejected " ++ (decimal i ++ codes "\n")) × FailsAt table problem certificate i × (Proves table problem certificate → ⊥)
Says table problem certificate text _ = ⊥

-- The answer is what is said of the certificate on a problem of the target.
abbrev pub Judged : Trial → List ℕ → Verdict → Type 0
Judged t text v = (connectors : ConnectorGraph) × (problem : Problem) × IsProblemFor t.inquiry t.target connectors problem × Says t.inquiry.program.table problem t.certificate text v

-- the answers over these files
abbrev pub MayAnswer : TableSource → Name → Name → decided.Choice → Name → Answering
MayAnswer source program_name settings_name target certificate_name files = Ending Judged (run source program_name settings_name target certificate_name files).end

-- the names of the files that are reached
abbrev pub asked : TableSource → Name → Name → decided.Choice → Name → Files → List Name
asked source program_name settings_name target certificate_name files = (run source program_name settings_name target certificate_name files).asked

-- the names of its files
abbrev pub names : TableSource → Name → Name → Name → List Name
names source program_name settings_name certificate_name = table_names source ++ program_name ∷ settings_name ∷ certificate_name ∷ []

-- Its files are held, within their limits, and good, the target is one of the program's, and the certificate proves on each problem of the target.
abbrev pub IsGood : TableSource → Name → Name → decided.Choice → Name → Files → Type 0
IsGood source program_name settings_name target certificate_name files =
    (t : Trial) × ((run source program_name settings_name target certificate_name files).end ≡ goes t)
    × ((connectors : ConnectorGraph) (problem : Problem) → IsProblemFor t.inquiry t.target connectors problem → Proves t.inquiry.program.table problem t.certificate)

-- Where a certificate is accepted, no payment reaches the target, whoever made it.
abbrev pub AcceptedLaw : Type 0
AcceptedLaw = (t : Trial) (text : List ℕ) → Judged t text verdict.Done → IsNeverReached t.inquiry t.target

-- The files say all that is judged, and no payment reaches the target.
abbrev pub Assures : TableSource → Name → Name → decided.Choice → Name → Files → Type 0
Assures source program_name settings_name target certificate_name files =
    (t : Trial) × ((run source program_name settings_name target certificate_name files).end ≡ goes t) × IsNeverReached t.inquiry t.target
