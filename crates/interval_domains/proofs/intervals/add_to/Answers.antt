use Rattle.std.proofs.Common.{List, ◌∙◌, sym, subst, arith}
use Rattle.std.proofs.lemmas.Int.{ints}
use Rattle.interval_domains.specs.declared.interval.Interval.{Interval}
use Rattle.interval_domains.specs.Intervals.{AreApart}
use Rattle.interval_domains.proofs.IntervalLemmas.{set_apart, set_has, push_apart}
use Rattle.interval_domains.proofs.intervals.add_to.Goals as goal

pub returns-then-reaches-clause-apart : goal.returns-then-reaches-clause-apart
returns-then-reaches-clause-apart c =
    set_apart c.args.list.now.items _ c.index-top.result.now c.args.added (omega (arith, c.if-count-eq0.false)) c.index-top.ensures c.requires.apart c.requires.one c.requires.starts _ c.joined.ensures

pub returns-then-reaches-clause-ok : goal.returns-then-reaches-clause-ok
returns-then-reaches-clause-ok c =
    let meets = sym c.reaches.ensures ∙ c.if-reaches.true in
    set_has c.args.list.now.items _ c.index-top.result.now c.args.added (omega (arith, c.if-count-eq0.false)) c.index-top.ensures c.requires.apart c.requires.one c.requires.starts _ c.joined.ensures (grind (arith, ints))

pub returns-clause-apart : goal.returns-clause-apart
returns-clause-apart c =
    let P : List Interval → Type 0 = λ ys. AreApart ys in
    let past = sym c.reaches.ensures ∙ c.if-reaches.false in
    subst P (sym c.in_ok-push-2.ensures.items) (push_apart c.args.list.now.items _ c.index-top.result.now c.args.added (omega (arith, c.if-count-eq0.false)) c.index-top.ensures c.requires.apart c.requires.one c.requires.starts (grind (arith, ints)))
