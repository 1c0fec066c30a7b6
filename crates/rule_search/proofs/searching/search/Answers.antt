use Rattle.std.proofs.Common.{◌∙◌, sym, subst}
use Rattle.domain_store.specs.Stores.{Seen}
use Rattle.rule_search.specs.Standings.{AreNumbered}
use Rattle.rule_search.proofs.Reached.{numbered}
use Rattle.rule_search.proofs.searching.search.Goals as goal

pub payment_at_once-requires-clause-numbered : goal.payment_at_once-requires-clause-numbered
payment_at_once-requires-clause-numbered c =
    subst (λ (s : Seen). AreNumbered s.problem) (sym c.in_ok-store.ensures) (numbered c.atom_law.ensures c.args.table.now c.args.problem.now c.requires.fits c.requires.few_atoms c.requires.few_wants c.requires.few_bars)

pub runs-requires-clause-numbered : goal.runs-requires-clause-numbered
runs-requires-clause-numbered c =
    subst (λ (s : Seen). AreNumbered s.problem) (sym (c.in_ok-payment.ensures.none c.in-None.is ∙ c.in_ok-store.ensures)) (numbered c.atom_law.ensures c.args.table.now c.args.problem.now c.requires.fits c.requires.few_atoms c.requires.few_wants c.requires.few_bars)
