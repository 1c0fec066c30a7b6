use Rattle.std.proofs.Common.{pos, arith}
use Rattle.interval_domains.specs.declared.interval.Interval.{Interval}
use Rattle.interval_domains.proofs.Hulls.{hull_is}
use Rattle.interval_domains.proofs.coverage.hull.Goals as goal

abbrev none : Interval
none = record { first = pos 0; last = pos 0 }

pub returns : goal.returns
returns c = hull_is c.args.list.now _ none none c.up_to.result c.requires (omega (arith, c.if-count-eq0.false)) c.up_to.ensures
