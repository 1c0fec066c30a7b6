-- What a source program decides.
use Rattle.std.specs.Prelude.{ℕ, ◌<◌, List, Bool, true, ◌&&◌, Option, Some, None, position}
use Rattle.std.specs.List.{list_any, list_all}
use Rattle.key_table.specs.Tables.{Table}
use Rattle.key_table.specs.Payments.{Entries}
use Rattle.euclid_ast.specs.declared.statement.Comparison.{Comparison}
use Rattle.euclid_ast.specs.declared.statement.Statement.{Statement}
use Rattle.euclid_ast.specs.declared.statement.Statement.TheOpen.{Statement-F}
use Rattle.euclid_ast.specs.declared.statement.Statement.TheFolds.{fold-Statement}
use Rattle.euclid_ast.specs.declared.program.Rule.{Rule}
use Rattle.euclid_ast.specs.declared.program.Program.{Program}
use Rattle.euclid_ast.specs.declared.meaning.Choice as decided
use Rattle.euclid_ast.specs.declared.meaning.Choice.TheVariants as choice_variant
use Rattle.euclid_ast.specs.Comparisons.{comparison_holds}

-- A list that isn't there asks nothing; one that is there asks for one that holds.
abbrev pub nested_holds : Option (List Bool) → Bool
nested_holds None = true
nested_holds (Some nested) = list_any (λ holds. holds) nested

-- One statement, by whether a comparison holds and, for each nested statement, whether it does.
abbrev pub holds_step : (Comparison → Bool) → Statement-F Bool → Bool
holds_step holds s = list_all holds s.condition && nested_holds s.nested

abbrev pub statement_holds : Table → Entries → Statement → Bool
statement_holds table payment = fold-Statement Bool (holds_step (comparison_holds table payment))

-- A rule matches where one of its statements holds.
abbrev pub rule_matches : Table → Entries → Rule → Bool
rule_matches table payment rule = list_any (statement_holds table payment) rule.statements

abbrev pub choice_of : Option ℕ → decided.Choice
choice_of None = choice_variant.Default
choice_of (Some rule) = choice_variant.Rule rule

-- The first rule that matches decides, else the default.
abbrev pub choice : Table → Entries → Program → decided.Choice
choice table payment program = choice_of (position (rule_matches table payment) program.rules)

-- a rule that decides is one of so many
abbrev pub IsWithin : decided.Choice → ℕ → Type 0
IsWithin (choice_variant.Rule rule) count = rule < count
IsWithin choice_variant.Default count = Unit {0}
