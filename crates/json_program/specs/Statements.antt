-- Statements in JSON.
use Rattle.std.specs.Prelude.{ℕ, zero, suc, List, codes, Option, Err}
use Rattle.euclid_ast.specs.declared.statement.Comparison.{Comparison}
use Rattle.euclid_ast.specs.declared.statement.Statement.{Statement, roll-Statement}
use Rattle.json_shape.specs.Paths.{fault}
use Rattle.json_shape.specs.Counted.{◌>>=◌, pure, plain}
use Rattle.json_shape.specs.Counting.{within_field, within_optional, items}
use Rattle.json_program.specs.Begun.{Reader, statement_begun, comparison_begun}
use Rattle.json_program.specs.Comparisons.{fields_of}

-- a comparison, which is counted before its fields are judged
unfoldable pub comparison_of : Reader Comparison
comparison_of path d = comparison_begun path >>= λ _. plain (fields_of path d)

-- the condition of a statement
abbrev pub condition_of : Reader (List Comparison)
condition_of path d = within_field (codes "condition") (items 16384 comparison_of) path d

-- the nested statements of a statement, by how one is read
abbrev pub nested_of : Reader Statement → Reader (Option (List Statement))
nested_of read path d = within_optional (codes "nested") (items 16384 read) path d

-- a statement, which is counted before its fields are judged, by how a nested one is read
unfoldable pub body_of : Reader Statement → Reader Statement
body_of read path d = do
  _ ← statement_begun path
  condition ← condition_of path d
  nested ← nested_of read path d
  pure (roll-Statement (record { condition = condition; nested = nested }))

-- A statement where so many levels may open. The first one past them is too deep.
unfoldable pub statement_of : ℕ → Reader Statement
statement_of zero path d counts = Err (fault 5 path)
statement_of (suc levels) path d counts = body_of (statement_of levels) path d counts
