use Rattle.std.proofs.Common.{◌+◌, ◌*◌, List, [], ◌∷◌, ◌++◌, decimal, ap, sym, ◌∙◌, arith}
use Rattle.euclid_ast.specs.declared.statement.Statement.{Statement}
use Rattle.sample_program.specs.Programs.{statement}
use Rattle.sample_program.specs.Draws.{next, state, drawn}
use Rattle.sample_program.proofs.Drawing.{state_more, rule_is}
use Rattle.sample_program.proofs.program.rule.Goals as goal

pub returns-clause-state : goal.returns-clause-state
returns-clause-state c seed is =
    c.below.ensures.state ∙ ap next (c.in_ok-condition.ensures.state seed (4 * c.args.number) is) ∙ sym (state_more seed (4 * c.args.number + 3)) ∙ ap (state seed) (omega arith)

pub returns-clause-rule : goal.returns-clause-rule
returns-clause-rule c seed is =
    let last = c.below.ensures.state ∙ ap next (c.in_ok-condition.ensures.state seed (4 * c.args.number) is) ∙ sym (state_more seed (4 * c.args.number + 3)) in
    rule_is seed c.args.number c.in_ok-name.name c.in_ok-selection.selection c.push.new.self c.in_ok-condition.condition c.below.result
    (c.in_ok-name.ensures ∙ ap (λ n. 114 ∷ decimal n) c.from.ensures) c.in_ok-selection.ensures (c.below.ensures.drawn ∙ ap (drawn 4) last)
    (c.in_ok-push.ensures.ok ∙ ap (λ (ss : List Statement). ss ++ statement c.in_ok-condition.condition ∷ []) c.in_ok-statements.ensures) (c.in_ok-condition.ensures.condition seed (4 * c.args.number) is)
