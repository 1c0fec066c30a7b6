use Rattle.std.proofs.Common.{sym, subst}
use Rattle.interval_domains.specs.declared.domain.SlotDomain.{SlotDomain}
use Rattle.interval_domains.specs.Members.{members}
use Rattle.key_table.specs.OptionSets.{HasOption}
use Rattle.domain_store.specs.PickedPayments.{FitsAt}
use Rattle.domain_store.proofs.PaymentLemmas.{picks_fresh, picks_more}
use Rattle.domain_store.proofs.picks.picks_of.Goals as goal

pub put_pick-requires-clause-filled : goal.put_pick-requires-clause-filled
put_pick-requires-clause-filled c =
    let P : SlotDomain → Type 0 = λ d. HasOption (members d) in
    subst P (sym c.domain-item.is) (c.requires.filled c.loop-domain.domain-index c.domain-item.result c.loop-domain-test.true)

pub put_pick-requires-clause-fresh : goal.put_pick-requires-clause-fresh
put_pick-requires-clause-fresh c = picks_fresh c.args.domains.now c.loop-domain.domain-index c.domain-item.result _ c.loop-domain-test.true c.domain-item.is c.requires.once c.loop-domain.invariant.picks

pub loop-domain-preserved : goal.loop-domain-preserved
loop-domain-preserved c = record {
  picks = picks_more c.args.domains.now c.loop-domain.domain-index c.domain-item.result _ _ c.loop-domain-test.true c.domain-item.is c.requires.once c.loop-domain.invariant.picks c.in_ok-put_pick.ensures.pick c.in_ok-put_pick.ensures.others;
  legal = λ table fits.
      let P : SlotDomain → Type 0 = λ d. FitsAt table d in
      c.in_ok-put_pick.ensures.legal table (subst P (sym c.domain-item.is) (fits c.loop-domain.domain-index c.domain-item.result c.loop-domain-test.true)) (c.loop-domain.invariant.legal table fits);
}
