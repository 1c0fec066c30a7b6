-- The command `convert`.
use Rattle.std.specs.Prelude.{◌≡◌, ℕ, List, [], ◌∷◌, ◌++◌, codes}
use Rattle.serde_json.specs.Written.{compact_text}
use Rattle.shelf_io.specs.Seen.{Name, Files}
use Rattle.euclid_ast.specs.declared.program.Program.{Program}
use Rattle.json_program.specs.Written.{program_data}
use Rattle.euclid_printer.specs.declared.error.Inexpressible.{Inexpressible}
use Rattle.euclid_printer.specs.Expressible.{printed}
use Rattle.euclidc_commands.specs.declared.command.Form.{Form}
use Rattle.euclidc_commands.specs.declared.command.Form.TheVariants as form
use Rattle.euclidc_commands.specs.declared.status.Verdict.{Verdict}
use Rattle.euclidc_commands.specs.declared.status.Verdict.TheVariants as verdict
use Rattle.euclidc_commands.specs.ProgramFiles.{program_file}
use Rattle.euclidc_commands.specs.Refusals.{refusal, rule_place}
use Rattle.euclidc_commands.specs.Runs.{Run, End, goes, ◌>>=◌, ending, judged}
use Rattle.euclidc_commands.specs.Stages.{Answering, Ending}

-- the line of a program that the text form cannot say, with the first rule that it cannot say
abbrev pub convert_refusal : Inexpressible → List ℕ
convert_refusal fault = refusal (codes "convert") 1 (rule_place fault.rule)

-- A program in a form: its JSON as one line, or its text.
abbrev pub converted : Form → Program → End (List ℕ)
converted form.Json program = goes (compact_text (program_data program) ++ codes "\n")
converted form.Text program = judged convert_refusal (printed program)

-- the program, which is not typed, and then its text in the form
abbrev pub run : Form → Name → Files → Run (List ℕ)
run form program_name files = program_file program_name files >>= λ program. ending (converted form program)

-- The answer is that text.
abbrev pub Converts : List ℕ → List ℕ → Verdict → Type 0
Converts written text v = (text ≡ written) × (v ≡ verdict.Done)

-- the answers over these files
abbrev pub MayAnswer : Form → Name → Answering
MayAnswer form program_name files = Ending Converts (run form program_name files).end

-- the names of the files that are reached
abbrev pub asked : Form → Name → Files → List Name
asked form program_name files = (run form program_name files).asked

-- the names of its files
abbrev pub names : Name → List Name
names program_name = program_name ∷ []

-- Its file is held, within its limit, and good, and the form can say the program.
abbrev pub IsGood : Form → Name → Files → Type 0
IsGood form program_name files = (written : List ℕ) × ((run form program_name files).end ≡ goes written)
