use Rattle.std.proofs.Common.{ap, sym, ◌∙◌, subst}
use Rattle.rule_problem.specs.declared.problem.Problem.{Problem}
use Rattle.key_table.specs.declared.atom.Verdict3.TheVariants.{Entailed, Undecided}
use Rattle.domain_store.specs.Verdicts.{HasGoalVerdict}
use Rattle.rule_search.proofs.Judged.{bar_stands, want_stands, goal_stands, settled_stands, open_stands}
use Rattle.rule_search.proofs.judging.judged.Goals as goal

pub returns-in-Some : goal.returns-in-Some
returns-in-Some c =
    bar_stands c.args.store.now c.args.verdicts.now c.requires.verdicts c.as_slice-bars.result.now c.in-Some.bar (c.as_slice-bars.ensures ∙ ap (λ (p : Problem). p.bars) c.problem-problem.ensures.value) (sym c.failing_bar.ensures ∙ c.in-Some.is)

pub returns-in-Some-failing_want : goal.returns-in-Some-failing_want
returns-in-Some-failing_want c =
    want_stands c.args.store.now c.args.verdicts.now c.requires.verdicts c.as_slice-wants.result.now c.in-Some-failing_want.want (c.as_slice-wants.ensures ∙ ap (λ (p : Problem). p.wants) c.problem-problem.ensures.value) (sym c.failing_want.ensures ∙ c.in-Some-failing_want.is)

pub returns-in-Refuted : goal.returns-in-Refuted
returns-in-Refuted c = goal_stands c.args.store.now c.args.verdicts.now c.requires.verdicts (subst (HasGoalVerdict c.args.store.now) c.in-Refuted.is c.in_ok-goal_verdict.ensures)

pub returns-then-are_met : goal.returns-then-are_met
returns-then-are_met c =
    settled_stands c.args.store.now c.args.verdicts.now c.requires.verdicts c.as_slice-wants.result.now c.as_slice-bars.result.now (c.as_slice-wants.ensures ∙ ap (λ (p : Problem). p.wants) c.problem-problem.ensures.value) (c.as_slice-bars.ensures ∙ ap (λ (p : Problem). p.bars) c.problem-problem.ensures.value)
    (subst (HasGoalVerdict c.args.store.now) c.in-Entailed.is c.in_ok-goal_verdict.ensures) (sym c.are_met.ensures ∙ c.if-are_met.true)

pub returns-else-are_met : goal.returns-else-are_met
returns-else-are_met c =
    open_stands c.args.store.now c.args.verdicts.now c.requires.verdicts c.left_law.ensures.options c.goal_law.ensures c.assumptions-open.ensures.open c.as_slice-wants.result.now c.as_slice-bars.result.now (c.as_slice-wants.ensures ∙ ap (λ (p : Problem). p.wants) c.problem-problem.ensures.value) (c.as_slice-bars.ensures ∙ ap (λ (p : Problem). p.bars) c.problem-problem.ensures.value)
    (sym c.failing_bar.ensures ∙ c.in_default.is) (sym c.failing_want.ensures ∙ c.in_default-failing_want.is) Entailed (subst (HasGoalVerdict c.args.store.now) c.in-Entailed.is c.in_ok-goal_verdict.ensures) (λ e. cc) (λ _. sym c.are_met.ensures ∙ c.if-are_met.false)

pub returns-in-Undecided : goal.returns-in-Undecided
returns-in-Undecided c =
    open_stands c.args.store.now c.args.verdicts.now c.requires.verdicts c.left_law.ensures.options c.goal_law.ensures c.assumptions-open.ensures.open c.as_slice-wants.result.now c.as_slice-bars.result.now (c.as_slice-wants.ensures ∙ ap (λ (p : Problem). p.wants) c.problem-problem.ensures.value) (c.as_slice-bars.ensures ∙ ap (λ (p : Problem). p.bars) c.problem-problem.ensures.value)
    (sym c.failing_bar.ensures ∙ c.in_default.is) (sym c.failing_want.ensures ∙ c.in_default-failing_want.is) Undecided (subst (HasGoalVerdict c.args.store.now) c.in-Undecided.is c.in_ok-goal_verdict.ensures) (λ e. cc) (λ e. cc)
