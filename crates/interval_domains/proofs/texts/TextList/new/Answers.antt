use Rattle.std.proofs.Common.{ℕ, List, sym, subst}
use Rattle.interval_domains.specs.TextLists.{AreListed}
use Rattle.interval_domains.proofs.TextLemmas.{none_listed}
use Rattle.interval_domains.proofs.texts.TextList.new.Goals as goal

pub invariant_of-result : goal.invariant_of-result
invariant_of-result c = let P : List (List ℕ) → Type 0 = λ texts. AreListed texts in subst P (sym c.new.ensures.items) none_listed
