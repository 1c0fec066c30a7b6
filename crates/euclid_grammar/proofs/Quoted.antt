-- The tree of a program with quoted names says that program.
use Rattle.std.proofs.Common.{◌≡◌, List, [], ◌∷◌, map, refl, ap, ◌∙◌}
use Rattle.euclid_ast.specs.declared.statement.Statement.{Statement}
use Rattle.euclid_ast.specs.declared.program.Rule.{Rule}
use Rattle.euclid_ast.specs.declared.program.Program.{Program}
use Rattle.euclid_grammar.specs.Grammar.{rule_quoted, rule_of, quoted, shape}
use Rattle.euclid_grammar.specs.OwnTrees.{owns}

rules_own : (rs : List Rule) → map rule_of (map rule_quoted rs) ≡ rs
rules_own [] = refl
rules_own (r ∷ rs) =
    ap (λ (ss : List Statement). record { name = r.name; selection = r.selection; statements = ss } ∷ map rule_of (map rule_quoted rs)) (owns r.statements)
    ∙ ap (λ (rest : List Rule). r ∷ rest) (rules_own rs)

pub shape-quoted : (p : Program) → shape (quoted p) ≡ p
shape-quoted p = ap (λ (rs : List Rule). record { default_selection = p.default_selection; rules = rs }) (rules_own p.rules)
