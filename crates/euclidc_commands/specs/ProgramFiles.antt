-- The file of a program.
use Rattle.std.specs.Prelude.{ℕ, List, Bool, not, ◌||◌, ◌==◌, false, slice_index_or, position, if◌then◌else◌, Result, Ok, Err, codes, decimal}
use Rattle.std.specs.Option.{option_map_or}
use Rattle.serde_json.specs.Data.{string}
use Rattle.serde_json.specs.Written.{compact_text}
use Rattle.shelf_io.specs.Seen.{Name, Files}
use Rattle.euclid_ast.specs.declared.program.Program.{Program}
use Rattle.json_program.specs.declared.error.JsonError.{JsonError}
use Rattle.json_program.specs.Programs as json
use Rattle.euclid_parser.specs.declared.error.ParseError.{ParseError}
use Rattle.euclid_parser.specs.TextFiles.{text_file}
use Rattle.euclidc_commands.specs.declared.role.Role.TheVariants as role
use Rattle.euclidc_commands.specs.Refusals.{refusal}
use Rattle.euclidc_commands.specs.Runs.{Run, file}

-- whether a byte is none of the tab, the line feed, the carriage return and the space
abbrev pub is_sign : ℕ → Bool
is_sign byte = not (byte == 9 || byte == 10 || byte == 13 || byte == 32)

-- A file is JSON where its first byte past these is `{`, and else a text.
abbrev pub is_json : List ℕ → Bool
is_json bytes = option_map_or (λ place. slice_index_or bytes place 0 == 123) (position is_sign bytes) false

-- Why a file is no program: it has a fault as JSON, or as text.
pub data ProgramFault : Type 0 where
  json_fault : JsonError → ProgramFault
  text_fault : ParseError → ProgramFault

-- what was read in one of the forms
abbrev pub read_as : {E : Type 0} → (E → ProgramFault) → Result Program E → Result Program ProgramFault
read_as fault (Ok program) = Ok program
read_as fault (Err error) = Err (fault error)

-- The program that the bytes of a file are.
abbrev pub program_of : List ℕ → Result Program ProgramFault
program_of bytes = if is_json bytes then read_as json_fault (json.program_file bytes) else read_as text_fault (text_file bytes)

-- The line of a refusal: with the path as a JSON string, or with the number of a byte.
abbrev pub program_refusal : ProgramFault → List ℕ
program_refusal (json_fault error) = refusal (codes "program json") error.code (compact_text (string error.path))
program_refusal (text_fault error) = refusal (codes "program text") error.code (decimal error.at)

abbrev pub program_file : Name → Files → Run Program
program_file = file role.Program program_refusal program_of
