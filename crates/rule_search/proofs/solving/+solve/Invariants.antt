use Rattle.std.proofs.Common.{◌+◌, ◌*◌}
use Rattle.rule_search.proofs.solving.+solve.Given as goal

abbrev pub decreases-branch : goal.decreases-branch
decreases-branch l = 3 * l.budget + 2

abbrev pub decreases-side : goal.decreases-side
decreases-side l = 3 * l.budget + 1

abbrev pub decreases-solve : goal.decreases-solve
decreases-solve l = 3 * l.budget
