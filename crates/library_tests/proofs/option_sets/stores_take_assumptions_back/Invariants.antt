use Rattle.std.proofs.Common.{◌≡◌, length}
use Rattle.library_tests.proofs.option_sets.stores_take_assumptions_back.Given as goal

abbrev pub invariant-loop-line : goal.invariant-loop-line
invariant-loop-line g l =
    (length l.store.problem.atoms ≡ 3) ×
    (goal.iterator-loop-line g).can_next l.line-iterator ×
    (goal.iterator-loop-line g).is_finite l.line-iterator
