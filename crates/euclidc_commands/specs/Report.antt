-- The command `report`.
use Rattle.std.specs.Prelude.{◌≡◌, ℕ, List, [], ◌∷◌, ◌++◌, length, codes, decimal, slice_get, Bool, ◌⊎◌}
use Rattle.std.specs.List.{All, AllZip, list_any}
use Rattle.std.specs.Option.{option_map_or}
use Rattle.serde_json.specs.Data.{string}
use Rattle.serde_json.specs.Written.{compact_text}
use Rattle.shelf_io.specs.Seen.{Name, Files}
use Rattle.key_table.specs.Tables.{Table}
use Rattle.euclid_ast.specs.declared.program.Rule.{Rule}
use Rattle.euclid_ast.specs.declared.program.Program.{Program}
use Rattle.euclid_ast.specs.declared.meaning.Choice as decided
use Rattle.euclid_ast.specs.declared.meaning.Choice.TheVariants as choice
use Rattle.dir_typing.specs.Typed.{Typed}
use Rattle.rule_problem.specs.declared.certificate.Report.{Report}
use Rattle.rule_problem.specs.declared.certificate.Report.TheVariants.{Reach, Never, Spent}
use Rattle.rule_report.specs.Answers.{targets_of}
use Rattle.euclidc_commands.specs.declared.status.Verdict.{Verdict}
use Rattle.euclidc_commands.specs.Inquiries.{Inquiry, inquiry, IsReached, IsNeverReached}
use Rattle.euclidc_commands.specs.Findings.{IsFound, report_text, is_open, verdict_where}
use Rattle.euclidc_commands.specs.Budgets.{IsEnough}
use Rattle.euclidc_commands.specs.Runs.{Run, goes, ◌>>=◌, ending}
use Rattle.euclidc_commands.specs.Stages.{Answering, Ending}
use Rattle.euclidc_commands.specs.TableFiles.{TableSource, table_in, table_names}
use Rattle.euclidc_commands.specs.TypedFiles.{typed_file}
use Rattle.euclidc_commands.specs.SettingsFiles.{settings_file}

-- the settings, for a program
abbrev pub run_on : Table → Typed → Name → Files → Run Inquiry
run_on table program settings_name files = settings_file table settings_name files >>= λ settings. ending (goes (inquiry program settings))

-- the program, typed by the table, and then the settings
abbrev pub run_by : Table → Name → Name → Files → Run Inquiry
run_by table program_name settings_name files = typed_file table program_name files >>= λ program. run_on table program settings_name files

-- the table, the program, and then the settings
abbrev pub run : TableSource → Name → Name → Files → Run Inquiry
run source program_name settings_name files = table_in source files >>= λ table. run_by table program_name settings_name files

-- the number and the name of a rule
abbrev pub rule_label : ℕ → Rule → List ℕ
rule_label number rule = codes "rule " ++ decimal number ++ codes " " ++ compact_text (string rule.name)

-- what a target is called
abbrev pub target_label : Program → decided.Choice → List ℕ
target_label program (choice.Rule number) = option_map_or (rule_label number) (slice_get program.rules number) []
target_label program choice.Default = codes "default"

-- the word for what is found
abbrev pub word_for : Report → List ℕ
word_for (Reach payment) = codes " reached\n"
word_for (Never certificate) = codes " never\n"
word_for (Spent trace) = codes " open\n"

-- the line that names a target and says what is found on it, and then that
abbrev pub block : Typed → decided.Choice → Report → List ℕ
block p target report = target_label p.source target ++ word_for report ++ report_text p.table report

-- the block of each target, one after another
abbrev pub blocks : Typed → List decided.Choice → List Report → List ℕ
blocks p (target ∷ targets) (report ∷ reports) = block p target report ++ blocks p targets reports
blocks p _ _ = []

-- A text tells what is found on each of some targets in turn, where something may be found, and whether one of them is left open.
pub record Tells (Finds : decided.Choice → Report → Type 0) (p : Typed) (targets : List decided.Choice) (text : List ℕ) (is_left : Bool) : Type 0 where
  pub reports : List Report
  pub found : AllZip Finds targets reports
  pub same_text : text ≡ blocks p targets reports
  pub says : is_left ≡ list_any is_open reports

-- the targets of a program: each rule in order, and then the default
abbrev pub all_targets : Inquiry → List decided.Choice
all_targets i = targets_of (length i.program.source.rules)

-- The answer tells what is found on each target, and it says No exactly where one is left open.
abbrev pub Reported : ℕ → Inquiry → List ℕ → Verdict → Type 0
Reported budget i text v = (is_left : Bool) × Tells (IsFound i budget) i.program (all_targets i) text is_left × (v ≡ verdict_where is_left)

-- the answers over these files
abbrev pub MayAnswer : TableSource → Name → Name → ℕ → Answering
MayAnswer source program_name settings_name budget files = Ending (Reported budget) (run source program_name settings_name files).end

-- the names of the files that are reached
abbrev pub asked : TableSource → Name → Name → Files → List Name
asked source program_name settings_name files = (run source program_name settings_name files).asked

-- the names of its files
abbrev pub names : TableSource → Name → Name → List Name
names source program_name settings_name = table_names source ++ program_name ∷ settings_name ∷ []

-- Its files are held, within their limits, and good, and the budget is enough for each target.
abbrev pub IsGood : TableSource → Name → Name → ℕ → Files → Type 0
IsGood source program_name settings_name budget files = (i : Inquiry) × ((run source program_name settings_name files).end ≡ goes i) × All (IsEnough i budget) (all_targets i)

-- The files say all that is asked, and each target some payment reaches, or none does.
abbrev pub Assures : TableSource → Name → Name → Files → Type 0
Assures source program_name settings_name files = (i : Inquiry) × ((run source program_name settings_name files).end ≡ goes i) × All (λ target. IsReached i target ⊎ IsNeverReached i target) (all_targets i)
