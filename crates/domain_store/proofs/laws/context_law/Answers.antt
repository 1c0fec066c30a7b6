use Rattle.domain_store.proofs.ContextLemmas.{context_more}
use Rattle.domain_store.proofs.laws.context_law.Goals as goal

pub returns : goal.returns
returns c = context_more
