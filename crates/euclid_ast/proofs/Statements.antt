-- The meaning of one statement by its parts.
use Rattle.std.proofs.Common.{◌≡◌, List, [], ◌∷◌, Bool, true, ◌&&◌, ◌||◌, Option, Some, None, map, refl, ap, ◌∙◌}
use Rattle.std.specs.List.{list_any, list_all}
use Rattle.key_table.specs.Tables.{Table}
use Rattle.key_table.specs.Payments.{Entries}
use Rattle.euclid_ast.specs.declared.statement.Comparison.{Comparison}
use Rattle.euclid_ast.specs.declared.statement.Statement.{Statement}
use Rattle.euclid_ast.specs.declared.statement.Statement.TheViews.{out-Statement}
use Rattle.euclid_ast.specs.declared.statement.Statement.TheFolds.{fold_out-Statement, map-Statement}
use Rattle.euclid_ast.specs.Comparisons.{comparison_holds}
use Rattle.euclid_ast.specs.Meaning.{holds_step, statement_holds}

-- what nested statements ask, over the statements themselves
abbrev pub nested_of : (Statement → Bool) → Option (List Statement) → Bool
nested_of holds None = true
nested_of holds (Some nested) = list_any holds nested

any-map : {X : Type 0} (f : X → Bool) (xs : List X) → list_any (λ b. b) (map f xs) ≡ list_any f xs
any-map f [] = refl
any-map f (x ∷ xs) = ap (λ b. f x || b) (any-map f xs)

step-map : (h : Comparison → Bool) (f : Statement → Bool) (condition : List Comparison) (nested : Option (List Statement))
    → holds_step h (map-Statement Statement Bool f (record { condition = condition; nested = nested })) ≡ (list_all h condition && nested_of f nested)
step-map h f condition None = refl
step-map h f condition (Some nested) = ap (λ b. list_all h condition && b) (any-map f nested)

pub statement_holds-out : (table : Table) (payment : Entries) (s : Statement)
    → statement_holds table payment s ≡ (list_all (comparison_holds table payment) (out-Statement s).condition && nested_of (statement_holds table payment) (out-Statement s).nested)
statement_holds-out table payment s = fold_out-Statement Bool (holds_step (comparison_holds table payment)) s ∙ step-map (comparison_holds table payment) (statement_holds table payment) (out-Statement s).condition (out-Statement s).nested
