use Rattle.std.proofs.Common.{ℕ, ◌<◌}
use Rattle.rule_search.specs.Choosing.{IsLiveAt}
use Rattle.rule_search.proofs.choosing.first_live.Given as goal

abbrev pub invariant-loop-atom : goal.invariant-loop-atom
invariant-loop-atom l = (m : ℕ) → m < l.atom → IsLiveAt l.store m → ⊥
