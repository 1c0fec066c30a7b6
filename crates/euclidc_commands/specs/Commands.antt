-- The commands.
use Rattle.std.specs.Str.Parse.{digits_value}
use Rattle.std.specs.Prelude.{◌≡◌, ℕ, List, [], ◌∷◌, Option, Some, None, codes, bytes_eq, if◌then◌else◌}
use Rattle.euclidc_commands.specs.Words.{Word, fits, decide_form, report_form, prove_form, check_form, convert_form, sample_form}
use Rattle.shelf_io.specs.Seen.{Name, Files}
use Rattle.euclid_ast.specs.declared.meaning.Choice as decided
use Rattle.euclidc_commands.specs.declared.command.Form.{Form}
use Rattle.euclidc_commands.specs.declared.command.Form.TheVariants as form
use Rattle.euclidc_commands.specs.TableFiles.{TableSource, known, under}
use Rattle.euclidc_commands.specs.Stages.{Answering, Among}
use Rattle.euclidc_commands.specs.Targets.{target_of}
use Rattle.euclidc_commands.specs.Decide as decide
use Rattle.euclidc_commands.specs.Report as report
use Rattle.euclidc_commands.specs.Prove as prove
use Rattle.euclidc_commands.specs.Check as check
use Rattle.euclidc_commands.specs.Convert as convert
use Rattle.euclidc_commands.specs.Sample as sample

pub data Command : Type 0 where
  Decide : TableSource → Name → Name → Command
  Report : TableSource → Name → Name → ℕ → Command
  Prove : TableSource → Name → Name → decided.Choice → ℕ → Command
  Check : TableSource → Name → Name → decided.Choice → Name → Command
  Convert : Form → Name → Command
  Sample : ℕ → Command

-- `-` stands for the built-in table, and another word for a file.
abbrev pub source_of : Word → TableSource
source_of word = if bytes_eq word (codes "-") then known else under word

abbrev pub decide_of : List Word → Option Command
decide_of (verb ∷ table_word ∷ program_name ∷ payment_name ∷ []) = Some (Decide (source_of table_word) program_name payment_name)
decide_of _ = None

abbrev pub report_of : List Word → Option Command
report_of (verb ∷ table_word ∷ program_name ∷ settings_name ∷ budget_word ∷ []) = Some (Report (source_of table_word) program_name settings_name (digits_value 10 budget_word))
report_of _ = None

abbrev pub prove_of : List Word → Option Command
prove_of (verb ∷ table_word ∷ program_name ∷ settings_name ∷ target_word ∷ budget_word ∷ []) = Some (Prove (source_of table_word) program_name settings_name (target_of target_word) (digits_value 10 budget_word))
prove_of _ = None

abbrev pub check_of : List Word → Option Command
check_of (verb ∷ table_word ∷ program_name ∷ settings_name ∷ target_word ∷ certificate_name ∷ []) = Some (Check (source_of table_word) program_name settings_name (target_of target_word) certificate_name)
check_of _ = None

abbrev pub convert_of : Form → List Word → Option Command
convert_of written (verb ∷ program_name ∷ word ∷ []) = Some (Convert written program_name)
convert_of written _ = None

abbrev pub sample_of : List Word → Option Command
sample_of (verb ∷ seed_word ∷ []) = Some (Sample (digits_value 10 seed_word))
sample_of _ = None

-- The words as a command, where they have one of its forms.
abbrev pub command_of : List Word → Option Command
command_of words =
    if fits decide_form words then decide_of words
    else if fits report_form words then report_of words
    else if fits prove_form words then prove_of words
    else if fits check_form words then check_of words
    else if fits (convert_form (codes "json")) words then convert_of form.Json words
    else if fits (convert_form (codes "text")) words then convert_of form.Text words
    else if fits sample_form words then sample_of words
    else None

-- the text where the words are no command
abbrev pub usage : List ℕ
usage = codes "usage: euclidc decide K P PAY | report K P S B | prove K P S T B | check K P S T C | convert P json|text | sample N\n"

-- What a command may answer over some files.
abbrev pub MayAnswer : Command → Answering
MayAnswer (Decide source program_name payment_name) files = decide.MayAnswer source program_name payment_name files
MayAnswer (Report source program_name settings_name budget) files = report.MayAnswer source program_name settings_name budget files
MayAnswer (Prove source program_name settings_name target budget) files = prove.MayAnswer source program_name settings_name target budget files
MayAnswer (Check source program_name settings_name target certificate_name) files = check.MayAnswer source program_name settings_name target certificate_name files
MayAnswer (Convert written program_name) files = convert.MayAnswer written program_name files
MayAnswer (Sample seed) files = sample.MayAnswer seed files

-- the names of the files that a command reaches
abbrev pub asked : Command → Files → List Name
asked (Decide source program_name payment_name) files = decide.asked source program_name payment_name files
asked (Report source program_name settings_name budget) files = report.asked source program_name settings_name files
asked (Prove source program_name settings_name target budget) files = prove.asked source program_name settings_name target files
asked (Check source program_name settings_name target certificate_name) files = check.asked source program_name settings_name target certificate_name files
asked (Convert written program_name) files = convert.asked written program_name files
asked (Sample seed) files = sample.asked seed files

-- the names of a command's files
abbrev pub names : Command → List Name
names (Decide source program_name payment_name) = decide.names source program_name payment_name
names (Report source program_name settings_name budget) = report.names source program_name settings_name
names (Prove source program_name settings_name target budget) = prove.names source program_name settings_name
names (Check source program_name settings_name target certificate_name) = check.names source program_name settings_name certificate_name
names (Convert written program_name) = convert.names program_name
names (Sample seed) = sample.names seed

-- The files of a command are held, within their limits, and good.
abbrev pub IsGood : Command → Files → Type 0
IsGood (Decide source program_name payment_name) files = decide.IsGood source program_name payment_name files
IsGood (Report source program_name settings_name budget) files = report.IsGood source program_name settings_name budget files
IsGood (Prove source program_name settings_name target budget) files = prove.IsGood source program_name settings_name target budget files
IsGood (Check source program_name settings_name target certificate_name) files = check.IsGood source program_name settings_name target certificate_name files
IsGood (Convert written program_name) files = convert.IsGood written program_name files
IsGood (Sample seed) files = Unit {0}

-- A file that the command reaches is not held.
abbrev pub IsMissing : Command → Files → Type 0
IsMissing command files = (name : Name) × Among name (asked command files) × (files name ≡ None)

-- What it means that a command is done.
abbrev pub Assures : Command → Files → Type 0
Assures (Report source program_name settings_name budget) files = report.Assures source program_name settings_name files
Assures (Prove source program_name settings_name target budget) files = prove.Assures source program_name settings_name target files
Assures (Check source program_name settings_name target certificate_name) files = check.Assures source program_name settings_name target certificate_name files
Assures _ files = Unit {0}
