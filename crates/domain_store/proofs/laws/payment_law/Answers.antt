use Rattle.domain_store.proofs.PaymentLemmas.{forced_in, assumed_in}
use Rattle.domain_store.proofs.laws.payment_law.Goals as goal

pub returns-clause-forced : goal.returns-clause-forced
returns-clause-forced c = forced_in c.left_law.ensures.options

pub returns-clause-assumed : goal.returns-clause-assumed
returns-clause-assumed c = assumed_in c.left_law.ensures.options c.forces_law.ensures.assumed
