-- The lines of a decision.
use Rattle.std.specs.Prelude.{ℕ, List, [], ◌++◌, codes, decimal, slice_get}
use Rattle.std.specs.Option.{option_map_or}
use Rattle.serde_json.specs.Data.{string}
use Rattle.serde_json.specs.Written.{compact_text}
use Rattle.euclid_ast.specs.declared.selection.Selection.{Selection}
use Rattle.euclid_ast.specs.declared.program.Rule.{Rule}
use Rattle.euclid_ast.specs.declared.program.Program.{Program}
use Rattle.euclid_ast.specs.declared.meaning.Choice as decided
use Rattle.euclid_ast.specs.declared.meaning.Choice.TheVariants as choice
use Rattle.json_program.specs.Written.{selection_data}

-- the line that names a rule, and the line of its selection
abbrev pub rule_text : ℕ → Rule → List ℕ
rule_text number rule = codes "rule " ++ decimal number ++ codes " " ++ compact_text (string rule.name) ++ codes "\n" ++ compact_text (selection_data rule.selection) ++ codes "\n"

abbrev pub default_text : Selection → List ℕ
default_text selection = codes "default\n" ++ compact_text (selection_data selection) ++ codes "\n"

-- What decides, and the selection that it gives.
abbrev pub decision_text : Program → decided.Choice → List ℕ
decision_text program (choice.Rule number) = option_map_or (rule_text number) (slice_get program.rules number) []
decision_text program choice.Default = default_text program.default_selection
