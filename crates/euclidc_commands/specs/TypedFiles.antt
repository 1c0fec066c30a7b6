-- The file of a program that is typed by a key table.
use Rattle.std.specs.Prelude.{ℕ, List, ◌∷◌, ◌++◌, Result, codes, decimal}
use Rattle.shelf_io.specs.Seen.{Name, Files}
use Rattle.key_table.specs.Tables.{Table}
use Rattle.euclid_ast.specs.declared.program.Program.{Program}
use Rattle.dir_typing.specs.declared.fault.Place.{Place}
use Rattle.dir_typing.specs.declared.fault.Place.TheVariants as place
use Rattle.dir_typing.specs.declared.fault.TypeFault.{TypeFault}
use Rattle.dir_typing.specs.Faults.{faults}
use Rattle.dir_typing.specs.Typed as typing
use Rattle.dir_typing.specs.Typed.{Typed, typed}
use Rattle.euclidc_commands.specs.Refusals.{refusal, rule_place}
use Rattle.euclidc_commands.specs.Runs.{Run, ◌>>=◌, ending, judged}
use Rattle.euclidc_commands.specs.ProgramFiles.{program_file}

-- the selection, or the number of a comparison
unfoldable pub place_text : Place → List ℕ
place_text place.Selection = codes "selection"
place_text (place.Comparison number) = decimal number

-- the line of a refusal
abbrev pub type_refusal : TypeFault → List ℕ
type_refusal fault = refusal (codes "program type") fault.code (rule_place fault.rule ++ 32 ∷ place_text fault.place)

-- A program with its table, where it has no fault by that.
abbrev pub typed_of : Table → Program → Result Typed TypeFault
typed_of table program = typing.judged (faults table program) (typed table program)

abbrev pub typed_file : Table → Name → Files → Run Typed
typed_file table name files = program_file name files >>= λ program. ending (judged type_refusal (typed_of table program))
