-- Programs in JSON.
use Rattle.std.specs.Prelude.{ℕ, List, [], codes, Bool, false, bytes_eq, if◌then◌else◌, Result, Ok, Err}
use Rattle.std.specs.Option.{option_map_or}
use Rattle.serde_json.specs.Data.{Data}
use Rattle.serde_json.specs.Find.{get, as_str}
use Rattle.key_table.specs.Answers as answers
use Rattle.euclid_ast.specs.declared.selection.Selection.{Selection}
use Rattle.euclid_ast.specs.declared.program.Rule.{Rule}
use Rattle.euclid_ast.specs.declared.program.Program.{Program}
use Rattle.json_shape.specs.declared.error.ShapeError.{ShapeError}
use Rattle.json_shape.specs.Shapes.{json_of}
use Rattle.json_shape.specs.Each as plainly
use Rattle.json_shape.specs.Fields as fields
use Rattle.json_shape.specs.Counted.{◌>>=◌, pure, plain}
use Rattle.json_shape.specs.Counting.{within_field, items}
use Rattle.json_program.specs.declared.error.JsonError.{JsonError}
use Rattle.json_program.specs.Begun.{Reading, Reader, none_begun}
use Rattle.json_program.specs.Selections.{selection_of}
use Rattle.json_program.specs.Statements.{statement_of}
use Rattle.json_program.specs.Texts.{text_of, name_in}

-- what a rule gives, under either of two names
unfoldable pub given_of : plainly.Reader Selection
given_of path d = fields.within_field (name_in (codes "connectorSelection") (codes "routingOutput") d) selection_of path d

-- a rule, whose statements nest at most so deep
unfoldable pub rule_of : ℕ → Reader Rule
rule_of levels path d = do
  name ← plain (fields.within_field (codes "name") text_of path d)
  selection ← plain (given_of path d)
  statements ← within_field (codes "statements") (items 16384 (statement_of levels)) path d
  pure (record { name = name; selection = selection; statements = statements })

-- a program of such rules
unfoldable pub program_of : ℕ → Reader Program
program_of levels path d = do
  default ← plain (fields.within_field (codes "defaultSelection") selection_of path d)
  rules ← within_field (codes "rules") (items 256 (rule_of levels)) path d
  pure (record { default_selection = default; rules = rules })

-- whether a program stands in a wrapper, whose type is `advanced`
abbrev pub is_wrapped : Data → Bool
is_wrapped d = option_map_or (λ type. option_map_or (λ word. bytes_eq word (codes "advanced")) (as_str type) false) (get (codes "type") d) false

-- the program at the root, or in the wrapper there
abbrev pub program_in : ℕ → Data → Reading Program
program_in levels d = if is_wrapped d then within_field (codes "data") (program_of levels) [] d else program_of levels [] d

-- the program that a file is, or its first fault, where statements nest at most so deep
abbrev pub program_or_fault : ℕ → List ℕ → Result Program ShapeError
program_or_fault levels bytes = answers.◌>>=◌ (json_of bytes) (λ d. answers.◌>>=◌ (program_in levels d none_begun) (λ read. Ok read.0))

-- a fault of a program as the error of this crate
abbrev pub widened : Result Program ShapeError → Result Program JsonError
widened (Ok program) = Ok program
widened (Err error) = Err (record { code = error.code; path = error.path })

-- The program that a file is, or its first fault: 1 NotJson, 2 Missing, 3 WrongShape, 4 NotWhole, 5 Limit, 6 UnknownForm, 7 UnknownOperator. Statements nest 32 deep at most.
unfoldable pub program_file : List ℕ → Result Program JsonError
program_file bytes = widened (program_or_fault 32 bytes)
