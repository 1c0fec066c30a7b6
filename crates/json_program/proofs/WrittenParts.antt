-- A statement's JSON by its parts.
use Rattle.std.proofs.Common.{◌≡◌, List, Option, Some, None, map, refl, ◌∙◌}
use Rattle.std.specs.Prelude.{codes}
use Rattle.serde_json.specs.Data.{Data}
use Rattle.euclid_ast.specs.declared.statement.Comparison.{Comparison}
use Rattle.euclid_ast.specs.declared.statement.Statement.{Statement}
use Rattle.euclid_ast.specs.declared.statement.Statement.TheViews.{out-Statement}
use Rattle.euclid_ast.specs.declared.statement.Statement.TheFolds.{fold_out-Statement, map-Statement}
use Rattle.json_program.specs.Written.{comparison_data, list_data, nested_data, pair, statement_step, statement_data}

-- the JSON of nested statements
abbrev pub nested_json : Option (List Statement) → Data
nested_json None = nested_data None
nested_json (Some ss) = list_data (map statement_data ss)

step-map : (cs : List Comparison) (nested : Option (List Statement))
    → statement_step (map-Statement Statement Data statement_data (record { condition = cs; nested = nested })) ≡ pair (codes "condition") (list_data (map comparison_data cs)) (codes "nested") (nested_json nested)
step-map cs None = refl
step-map cs (Some ss) = refl

pub data_out : (s : Statement) → statement_data s ≡ pair (codes "condition") (list_data (map comparison_data (out-Statement s).condition)) (codes "nested") (nested_json (out-Statement s).nested)
data_out s = fold_out-Statement Data statement_step s ∙ step-map (out-Statement s).condition (out-Statement s).nested
