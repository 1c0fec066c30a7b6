-- A statement by its parts.
use Rattle.std.proofs.Common.{◌≡◌, List, [], ◌++◌, map, Option, Some, None, refl, ap, ◌∙◌}
use Rattle.std.proofs.lemmas.List.Folds.{flat_map-map}
use Rattle.std.specs.Option.{option_map_or}
use Rattle.key_table.specs.Tables.{Table}
use Rattle.euclid_ast.specs.declared.statement.Comparison.{Comparison}
use Rattle.euclid_ast.specs.declared.statement.Statement.{Statement}
use Rattle.euclid_ast.specs.declared.statement.Statement.TheViews.{out-Statement}
use Rattle.euclid_ast.specs.declared.statement.Statement.TheFolds.{fold_out-Statement, map-Statement}
use Rattle.euclid_ast.specs.Limits.{comparisons_step, comparisons_of, comparisons_in}
use Rattle.dir_typing.specs.declared.dir.DirStatement.{DirStatement, roll-DirStatement}
use Rattle.dir_typing.specs.Numbered.{comparison_of, statement_step, statement_of}

-- the comparisons of nested statements, none where there are no such statements
abbrev pub nested_comparisons : Option (List Statement) → List Comparison
nested_comparisons nested = option_map_or comparisons_in nested []

-- the same statements with numbers for names
abbrev pub nested_statements : Table → Option (List Statement) → Option (List DirStatement)
nested_statements table None = None
nested_statements table (Some nested) = Some (map (statement_of table) nested)

comparisons-map : (condition : List Comparison) (nested : Option (List Statement))
    → comparisons_step (map-Statement Statement (List Comparison) comparisons_of (record { condition = condition; nested = nested })) ≡ condition ++ nested_comparisons nested
comparisons-map condition None = refl
comparisons-map condition (Some nested) = ap (λ cs. condition ++ cs) (flat_map-map (λ cs. cs) comparisons_of nested)

-- the comparisons of a statement, by its condition and its nested statements
pub comparisons_of-out : (s : Statement) → comparisons_of s ≡ (out-Statement s).condition ++ nested_comparisons (out-Statement s).nested
comparisons_of-out s = fold_out-Statement (List Comparison) comparisons_step s ∙ comparisons-map (out-Statement s).condition (out-Statement s).nested

statement-map : (table : Table) (condition : List Comparison) (nested : Option (List Statement))
    → statement_step table (map-Statement Statement DirStatement (statement_of table) (record { condition = condition; nested = nested }))
    ≡ roll-DirStatement (record { condition = map (comparison_of table) condition; nested = nested_statements table nested })
statement-map table condition None = refl
statement-map table condition (Some nested) = refl

-- a statement with numbers for names, by its parts
pub statement_of-out : (table : Table) (s : Statement)
    → statement_of table s ≡ roll-DirStatement (record { condition = map (comparison_of table) (out-Statement s).condition; nested = nested_statements table (out-Statement s).nested })
statement_of-out table s = fold_out-Statement DirStatement (statement_step table) s ∙ statement-map table (out-Statement s).condition (out-Statement s).nested
