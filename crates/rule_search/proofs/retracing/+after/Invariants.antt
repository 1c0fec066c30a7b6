use Rattle.std.proofs.Common.{◌+◌, ◌*◌, ◌-◌, length}
use Rattle.rule_search.proofs.retracing.+after.Given as goal

abbrev pub decreases-after : goal.decreases-after
decreases-after l = 2 * (length l.items.now - l.at)

abbrev pub decreases-side : goal.decreases-side
decreases-side l = 2 * (length l.items.now - l.at) + 1
