-- The command `prove`.
use Rattle.std.specs.Prelude.{◌≡◌, ℕ, List, [], ◌∷◌, ◌++◌, length, ◌⊎◌}
use Rattle.shelf_io.specs.Seen.{Name, Files}
use Rattle.key_table.specs.Tables.{Table}
use Rattle.euclid_ast.specs.declared.meaning.Choice as decided
use Rattle.dir_typing.specs.Typed.{Typed}
use Rattle.rule_problem.specs.declared.certificate.Report.{Report}
use Rattle.euclidc_commands.specs.declared.status.Verdict.{Verdict}
use Rattle.euclidc_commands.specs.Inquiries.{Inquiry, inquiry, IsReached, IsNeverReached}
use Rattle.euclidc_commands.specs.Findings.{IsFound, report_text, is_open, verdict_where}
use Rattle.euclidc_commands.specs.Budgets.{IsEnough}
use Rattle.euclidc_commands.specs.Runs.{Run, goes, ◌>>=◌, ending}
use Rattle.euclidc_commands.specs.Stages.{Answering, Ending}
use Rattle.euclidc_commands.specs.TableFiles.{TableSource, table_in, table_names}
use Rattle.euclidc_commands.specs.TypedFiles.{typed_file}
use Rattle.euclidc_commands.specs.SettingsFiles.{settings_file}
use Rattle.euclidc_commands.specs.Targets.{target_in}

-- the settings, and then the target, which is to be one of the program's
abbrev pub run_on : Table → Typed → Name → decided.Choice → Files → Run Inquiry
run_on table program settings_name target files =
    settings_file table settings_name files >>= λ settings. ending (target_in (length program.source.rules) target) >>= λ _. ending (goes (inquiry program settings))

-- the program, typed by the table, and then the settings and the target
abbrev pub run_by : Table → Name → Name → decided.Choice → Files → Run Inquiry
run_by table program_name settings_name target files = typed_file table program_name files >>= λ program. run_on table program settings_name target files

-- the table, the program, the settings, and then the target
abbrev pub run : TableSource → Name → Name → decided.Choice → Files → Run Inquiry
run source program_name settings_name target files = table_in source files >>= λ table. run_by table program_name settings_name target files

-- The answer is the text of what is found on the target, and it says No exactly where that is a trace.
pub record Proved (target : decided.Choice) (budget : ℕ) (i : Inquiry) (text : List ℕ) (v : Verdict) : Type 0 where
  pub report : Report
  pub found : IsFound i budget target report
  pub same_text : text ≡ report_text i.program.table report
  pub says : v ≡ verdict_where (is_open report)

-- the answers over these files
abbrev pub MayAnswer : TableSource → Name → Name → decided.Choice → ℕ → Answering
MayAnswer source program_name settings_name target budget files = Ending (Proved target budget) (run source program_name settings_name target files).end

-- the names of the files that are reached
abbrev pub asked : TableSource → Name → Name → decided.Choice → Files → List Name
asked source program_name settings_name target files = (run source program_name settings_name target files).asked

-- the names of its files
abbrev pub names : TableSource → Name → Name → List Name
names source program_name settings_name = table_names source ++ program_name ∷ settings_name ∷ []

-- Its files are held, within their limits, and good, the target is one of the program's, and the budget is enough for it.
abbrev pub IsGood : TableSource → Name → Name → decided.Choice → ℕ → Files → Type 0
IsGood source program_name settings_name target budget files = (i : Inquiry) × ((run source program_name settings_name target files).end ≡ goes i) × IsEnough i budget target

-- The files say all that is asked, and some payment reaches the target, or none does.
abbrev pub Assures : TableSource → Name → Name → decided.Choice → Files → Type 0
Assures source program_name settings_name target files = (i : Inquiry) × ((run source program_name settings_name target files).end ≡ goes i) × (IsReached i target ⊎ IsNeverReached i target)
