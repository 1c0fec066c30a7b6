use Rattle.std.proofs.Common.{◌≡◌, map, drop}
use Rattle.euclid_ast.specs.declared.program.Rule.{Rule}
use Rattle.dir_typing.specs.Selections.{first_family}
use Rattle.dir_typing.proofs.selection.first_family_in.Given as goal

abbrev pub invariant-loop-rule : goal.invariant-loop-rule
invariant-loop-rule l = first_family (map (λ (rule : Rule). rule.selection) l.rules) ≡ first_family (map (λ (rule : Rule). rule.selection) (drop l.rule-index l.rules))
