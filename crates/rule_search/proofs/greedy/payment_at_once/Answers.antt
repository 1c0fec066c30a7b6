use Rattle.rule_search.proofs.Reached.{reached}
use Rattle.rule_search.proofs.greedy.payment_at_once.Goals as goal

pub returns-clause-found : goal.returns-clause-found
returns-clause-found c = reached c.settled_law.ensures c.payment_law.ensures.assumed c.args.store.now c.settles.new.store c.in_ok-payment.payment (c.in_ok-settles.ensures.settled c.if-not-branch.false) c.in_ok-payment.ensures
