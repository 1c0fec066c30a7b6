-- Source programs with numbers for names. A name that is none has the number past the last one.
use Rattle.std.specs.Prelude.{ℕ, List, length, map}
use Rattle.std.specs.Option.{unwrap_or}
use Rattle.key_table.specs.Tables.{Table, find_key, find_variant, variants_at}
use Rattle.key_table.specs.Slots.{at}
use Rattle.euclid_ast.specs.declared.statement.ValueForm.{ValueForm}
use Rattle.euclid_ast.specs.declared.statement.ValueForm.TheVariants.{Number, Variant, Metadata, Str, Numbers, Variants, NumberTests}
use Rattle.euclid_ast.specs.declared.statement.Comparison.{Comparison}
use Rattle.euclid_ast.specs.declared.statement.Statement.{Statement}
use Rattle.euclid_ast.specs.declared.statement.Statement.TheOpen.{Statement-F}
use Rattle.euclid_ast.specs.declared.statement.Statement.TheFolds.{fold-Statement}
use Rattle.euclid_ast.specs.declared.program.Rule.{Rule}
use Rattle.euclid_ast.specs.Comparisons.{sub_of}
use Rattle.dir_typing.specs.declared.dir.DirValue.{DirValue}
use Rattle.dir_typing.specs.declared.dir.DirValue.TheVariants as dir
use Rattle.dir_typing.specs.declared.dir.DirComparison.{DirComparison}
use Rattle.dir_typing.specs.declared.dir.DirStatement.{DirStatement, roll-DirStatement}
use Rattle.dir_typing.specs.declared.dir.DirRule.{DirRule}

-- the number of the key with a name
abbrev pub key_number : Table → List ℕ → ℕ
key_number table name = unwrap_or (find_key name table) (length table)

-- the number of a key's variant with a name
abbrev pub variant_number : Table → ℕ → List ℕ → ℕ
variant_number table key word = unwrap_or (find_variant key word table) (length (variants_at key table))

-- A value with numbers for variants. A metadata variant is its text, since its key is the slot's sub name.
abbrev pub value_of : Table → ℕ → ValueForm → DirValue
value_of table key (Number n) = dir.Number n
value_of table key (Variant word) = dir.Variant (variant_number table key word)
value_of table key (Metadata sub text) = dir.Text text
value_of table key (Str text) = dir.Text text
value_of table key (Numbers ns) = dir.Numbers ns
value_of table key (Variants words) = dir.Variants (map (variant_number table key) words)
value_of table key (NumberTests tests) = dir.NumberTests tests

-- a comparison of the slot with the key's number
abbrev pub comparison_of : Table → Comparison → DirComparison
comparison_of table c = record {
  slot = at (key_number table c.lhs) (sub_of c.value);
  op = c.op;
  value = value_of table (key_number table c.lhs) c.value;
}

-- one statement, over what its nested statements are
abbrev pub statement_step : Table → Statement-F DirStatement → DirStatement
statement_step table s = roll-DirStatement (record { condition = map (comparison_of table) s.condition; nested = s.nested })

-- a statement of such comparisons, nested as before
abbrev pub statement_of : Table → Statement → DirStatement
statement_of table = fold-Statement DirStatement (statement_step table)

-- a rule of such statements, with its name and its selection
abbrev pub rule_of : Table → Rule → DirRule
rule_of table rule = record { name = rule.name; selection = rule.selection; statements = map (statement_of table) rule.statements }
