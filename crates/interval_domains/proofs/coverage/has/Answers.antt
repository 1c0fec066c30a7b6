use Rattle.std.proofs.Common.{◌∙◌, rules}
use Rattle.std.proofs.lemmas.Fn.{always_returns_same}
use Rattle.interval_domains.specs.declared.interval.Interval.{Interval}
use Rattle.interval_domains.specs.Intervals.{side}
use Rattle.interval_domains.proofs.Hulls.{searched_number}
use Rattle.interval_domains.proofs.coverage.has.Goals as goal

pub returns : goal.returns
returns c =
    let facts = c.binary_search_by.ensures in
    let fits = c.ranges.number in
    c.is_ok.ensures.value
    ∙ searched_number c.args.list.now c.args.number _ c.requires facts.bound
    (facts.position (λ (i : Interval). side c.args.number i) (always_returns_same _ _ _ (λ a r g called. search rules)))
