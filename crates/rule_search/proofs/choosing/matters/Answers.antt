use Rattle.rule_search.proofs.Choices.{by_want, by_bar, by_goal, matters_back}
use Rattle.std.proofs.Common.{ap, sym, ◌∙◌, subst}
use Rattle.domain_store.specs.Verdicts.{HasGoalVerdict}
use Rattle.rule_problem.specs.declared.problem.Problem.{Problem}
use Rattle.rule_search.proofs.choosing.matters.Goals as goal

pub returns-then-stands_in_wants-clause-yes : goal.returns-then-stands_in_wants-clause-yes
returns-then-stands_in_wants-clause-yes c = λ _.
    by_want c.args.store.now c.args.verdicts.now c.requires.verdicts c.requires.numbered c.args.number c.args.atom.now c.requires.there c.as_slice.result.now (c.as_slice.ensures ∙ ap (λ (p : Problem). p.wants) c.problem-problem.ensures.value) (sym c.stands_in_wants.ensures ∙ c.if-stands_in_wants.true)

pub returns-then-stands_in_open-clause-yes : goal.returns-then-stands_in_open-clause-yes
returns-then-stands_in_open-clause-yes c = λ _.
    by_bar c.args.store.now c.args.verdicts.now c.requires.verdicts c.requires.numbered c.args.number c.args.atom.now c.requires.there c.as_slice-2.result.now (c.as_slice-2.ensures ∙ ap (λ (p : Problem). p.bars) c.problem-problem.ensures.value) (sym c.stands_in_open.ensures ∙ c.if-stands_in_open.true)

pub returns-clause-yes : goal.returns-clause-yes
returns-clause-yes c = λ told.
    let of_goal = c.awaits_goal.ensures.0 told in
    by_goal c.args.store.now c.args.verdicts.now c.requires.verdicts c.requires.numbered c.args.number c.args.atom.now c.requires.there c.goal_law.ensures (subst (HasGoalVerdict c.args.store.now) of_goal.0 c.requires.goal) of_goal.1

pub returns-clause-no : goal.returns-clause-no
returns-clause-no c = λ matters.
    c.awaits_goal.ensures.1 (matters_back c.args.store.now c.args.verdicts.now c.requires.verdicts c.requires.numbered c.args.number c.args.atom.now c.requires.there c.args.goal c.requires.goal c.as_slice.result.now c.as_slice-2.result.now
    (c.as_slice.ensures ∙ ap (λ (p : Problem). p.wants) c.problem-problem.ensures.value) (c.as_slice-2.ensures ∙ ap (λ (p : Problem). p.bars) c.problem-problem.ensures.value) (sym c.stands_in_wants.ensures ∙ c.if-stands_in_wants.false) (sym c.stands_in_open.ensures ∙ c.if-stands_in_open.false) matters)
