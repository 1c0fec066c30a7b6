use Rattle.std.proofs.Common.{◌<◌, length, subst, sym}
use Rattle.rule_problem.specs.declared.problem.Problem.{Problem}
use Rattle.rule_search.proofs.Choices.{goal_within}
use Rattle.rule_search.proofs.choosing.awaits_goal.Goals as goal

pub has_atom-requires : goal.has_atom-requires
has_atom-requires c = subst (λ (p : Problem). p.goal < length p.graph) (sym c.problem-problem.ensures.value) (goal_within c.args.store.now.table c.args.store.now.problem c.problem-problem.ensures.fits)
