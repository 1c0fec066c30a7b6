-- The file of a key table.
use Rattle.std.specs.Prelude.{ℕ, List, [], ◌∷◌, Option, Some, None, codes, decimal}
use Rattle.shelf_io.specs.Seen.{Name, Files}
use Rattle.key_table.specs.declared.table.TableError.{TableError}
use Rattle.key_table.specs.Tables.{Table}
use Rattle.key_table.specs.BuiltIn.{built_in}
use Rattle.key_table.specs.TableFiles.{table_of}
use Rattle.euclidc_commands.specs.declared.role.Role.TheVariants as role
use Rattle.euclidc_commands.specs.Refusals.{refusal}
use Rattle.euclidc_commands.specs.Runs.{Run, goes, ending, file}

-- Where the key table stands: it is built in, or in a file.
pub data TableSource : Type 0 where
  known : TableSource
  under : Name → TableSource

-- the number of a key, where there is one
unfoldable pub key_text : Option ℕ → List ℕ
key_text None = codes "-"
key_text (Some key) = decimal key

-- the line of a refusal
abbrev pub table_refusal : TableError → List ℕ
table_refusal error = refusal (codes "table") error.code (key_text error.key)

abbrev pub table_file : Name → Files → Run Table
table_file = file role.Table table_refusal table_of

abbrev pub table_in : TableSource → Files → Run Table
table_in known files = ending (goes built_in)
table_in (under name) files = table_file name files

-- the names of its files
abbrev pub table_names : TableSource → List Name
table_names known = []
table_names (under name) = name ∷ []
