-- How many statements there are, so that each nested list has fewer than the statement that has it.
use Rattle.std.proofs.Common.{◌≡◌, ◌+◌, ◌<◌, ◌≤◌, ℕ, zero, suc, List, [], ◌∷◌, length, get_or, map, Option, Some, None, refl, ap, ◌∙◌, arith}
use Rattle.rule_report.specs.declared.numbered.NumberedStatement.{NumberedStatement}
use Rattle.rule_report.specs.declared.numbered.NumberedStatement.TheOpen.{NumberedStatement-F}
use Rattle.rule_report.specs.declared.numbered.NumberedStatement.TheViews.{out-NumberedStatement}
use Rattle.rule_report.specs.declared.numbered.NumberedStatement.TheFolds.{fold-NumberedStatement, fold_out-NumberedStatement, map-NumberedStatement}

abbrev total : List ℕ → ℕ
total [] = 0
total (n ∷ ns) = n + total ns

abbrev nested_total : Option (List ℕ) → ℕ
nested_total None = 0
nested_total (Some ns) = total ns

abbrev weight_step : NumberedStatement-F ℕ → ℕ
weight_step s = 1 + nested_total s.nested

-- how many statements a statement is
abbrev pub weight : NumberedStatement → ℕ
weight = fold-NumberedStatement ℕ weight_step

-- how many some statements are
abbrev pub weights : List NumberedStatement → ℕ
weights ss = total (map weight ss)

weight_level : (condition : List ℕ) (nested : List NumberedStatement) → weight_step (map-NumberedStatement NumberedStatement ℕ weight (record { condition = condition; nested = Some nested })) ≡ 1 + weights nested
weight_level condition nested = refl

pub weight_nested : (s : NumberedStatement) (nested : List NumberedStatement) → (out-NumberedStatement s).nested ≡ Some nested → weight s ≡ 1 + weights nested
weight_nested s nested is =
    fold_out-NumberedStatement ℕ weight_step s
    ∙ ap (λ o. weight_step (map-NumberedStatement NumberedStatement ℕ weight (record { condition = (out-NumberedStatement s).condition; nested = o }))) is
    ∙ weight_level (out-NumberedStatement s).condition nested

pub weight_at : (ss : List NumberedStatement) (i : ℕ) (d : NumberedStatement) → i < length ss → weight (get_or ss i d) ≤ weights ss
weight_at [] i d less = absurd (omega arith)
weight_at (s ∷ ss) zero d less = omega arith
weight_at (s ∷ ss) (suc i) d less = let rest = weight_at ss i d (omega arith) in omega (arith, rest)
