use Rattle.std.proofs.Common.{subst}
use Rattle.domain_store.specs.Stores.{Seen, HasNoVoid}
use Rattle.domain_store.proofs.KeptLemmas.{no_void}
use Rattle.domain_store.proofs.store.Store.assumptions.Goals as goal

pub returns-clause-open : goal.returns-clause-open
returns-clause-open c = let P : Seen → Type 0 = λ s. HasNoVoid s in subst P c.self.view_is (no_void _ _ _ _ _ c.self.invariant c.slot_law.ensures.same)
