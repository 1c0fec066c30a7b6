-- Whether a statement is within the limits, by its parts.
use Rattle.std.proofs.Common.{◌≡◌, ℕ, zero, suc, max, List, map, Bool, true, false, ◌&&◌, leb, Option, Some, None, refl, ap, sym, ◌∙◌, append-nil, arith}
use Rattle.std.specs.List.{list_all, flat_map, fold}
use Rattle.std.specs.Option.{option_map_or}
use Rattle.std.proofs.Math.Bool.{and-true}
use Rattle.std.proofs.lemmas.Bool.{le-leb, lt-leb}
use Rattle.std.proofs.lemmas.List.Folds.{list_all-append, list_all-map}
use Rattle.euclid_ast.specs.declared.statement.Comparison.{Comparison}
use Rattle.euclid_ast.specs.declared.statement.Statement.{Statement}
use Rattle.euclid_ast.specs.declared.statement.Statement.TheOpen.{Statement-F}
use Rattle.euclid_ast.specs.declared.statement.Statement.TheViews.{roll-Statement}
use Rattle.euclid_ast.specs.declared.statement.Statement.TheFolds.{fold-roll-Statement, fold_out-Statement}
use Rattle.euclid_ast.specs.Limits.{levels_step, levels_of, comparisons_step, comparisons_of, is_comparison}
use Rattle.json_program.specs.Parts.{is_statement}
use Rattle.json_program.proofs.Tests.{list_all-both, list_all-flat_map, leb-add_one, leb-fold_max}

-- a statement of these parts
abbrev pub layer : List Comparison → Option (List Statement) → Statement-F Statement
layer cs nested = record { condition = cs; nested = nested }

-- whether it nests at most so deep
levels-nested : (levels : ℕ) (cs : List Comparison) (ss : List Statement) → leb (levels_of (roll-Statement (layer cs (Some ss)))) (suc levels) ≡ list_all (λ s. leb (levels_of s) levels) ss
levels-nested levels cs ss =
    ap (λ n. leb n (suc levels)) (fold-roll-Statement ℕ levels_step (layer cs (Some ss))) ∙ leb-add_one (fold max 0 (map levels_of ss)) levels ∙ leb-fold_max levels_of levels 0 ss
    ∙ ap (λ b. b && list_all (λ s. leb (levels_of s) levels) ss) (le-leb 0 levels (omega arith))

levels-alone : (levels : ℕ) (cs : List Comparison) → leb (levels_of (roll-Statement (layer cs None))) (suc levels) ≡ true
levels-alone levels cs = ap (λ n. leb n (suc levels)) (fold-roll-Statement ℕ levels_step (layer cs None)) ∙ le-leb 1 (suc levels) (omega arith)

-- whether its comparisons are within the limits
comparisons-nested : (cs : List Comparison) (ss : List Statement) → list_all is_comparison (comparisons_of (roll-Statement (layer cs (Some ss)))) ≡ (list_all is_comparison cs && list_all (λ s. list_all is_comparison (comparisons_of s)) ss)
comparisons-nested cs ss =
    ap (list_all is_comparison) (fold-roll-Statement (List Comparison) comparisons_step (layer cs (Some ss))) ∙ list_all-append is_comparison cs (flat_map (λ nested. nested) (map comparisons_of ss))
    ∙ ap (λ b. list_all is_comparison cs && b) (list_all-flat_map is_comparison (λ nested. nested) (map comparisons_of ss) ∙ list_all-map (list_all is_comparison) comparisons_of ss)

comparisons-alone : (cs : List Comparison) → list_all is_comparison (comparisons_of (roll-Statement (layer cs None))) ≡ list_all is_comparison cs
comparisons-alone cs = ap (list_all is_comparison) (fold-roll-Statement (List Comparison) comparisons_step (layer cs None) ∙ append-nil cs)

between : (a b c : Bool) → (a && (b && c)) ≡ (b && (a && c))
between true b c = refl
between false true c = refl
between false false c = refl

-- A statement takes a level, and the nested ones are within the limits in the others.
pub is_statement-roll : (levels : ℕ) (cs : List Comparison) (nested : Option (List Statement))
    → is_statement (suc levels) (roll-Statement (record { condition = cs; nested = nested })) ≡ (list_all is_comparison cs && option_map_or (list_all (is_statement levels)) nested true)
is_statement-roll levels cs None = rw (levels-alone levels cs, comparisons-alone cs) (sym (and-true (list_all is_comparison cs)))
is_statement-roll levels cs (Some ss) =
    rw (levels-nested levels cs ss, comparisons-nested cs ss)
    (between (list_all (λ s. leb (levels_of s) levels) ss) (list_all is_comparison cs) (list_all (λ s. list_all is_comparison (comparisons_of s)) ss)
    ∙ ap (λ b. list_all is_comparison cs && b) (sym (list_all-both (λ s. leb (levels_of s) levels) (λ s. list_all is_comparison (comparisons_of s)) ss)))

-- a statement of such parts is within the limits
pub is_statement_made : (levels : ℕ) (cs : List Comparison) (nested : Option (List Statement))
    → list_all is_comparison cs ≡ true → option_map_or (list_all (is_statement levels)) nested true ≡ true → is_statement (suc levels) (roll-Statement (record { condition = cs; nested = nested })) ≡ true
is_statement_made levels cs nested h g = is_statement-roll levels cs nested ∙ rw (h, g)

-- each statement takes a level
pub is_statement-zero : (s : Statement) → is_statement zero s ≡ false
is_statement-zero s =
    let e = fold_out-Statement ℕ levels_step s in
    ap (λ b. b && list_all is_comparison (comparisons_of s)) (lt-leb (levels_of s) 0 (omega (arith, e)))
