use Rattle.rule_search.specs.Finding.{IsOfSame}
use Rattle.rule_search.proofs.greedy.meet_wants.Given as goal

abbrev pub invariant-loop-paths : goal.invariant-loop-paths
invariant-loop-paths l = IsOfSame l.fn.store l.store
