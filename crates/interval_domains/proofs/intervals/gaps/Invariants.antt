use Rattle.std.proofs.Common.{take, drop}
use Rattle.interval_domains.proofs.Gaps.{AreGaps}
use Rattle.interval_domains.proofs.intervals.gaps.Given as goal

abbrev pub invariant-loop-interval : goal.invariant-loop-interval
invariant-loop-interval l = AreGaps l.others l.list (take l.interval-index l.list) (drop l.interval-index l.list) l.next
