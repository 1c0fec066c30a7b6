use Rattle.rule_search.specs.Finding.{IsOfSame}
use Rattle.rule_search.proofs.greedy.meet_want.Given as goal

abbrev pub invariant-loop-path : goal.invariant-loop-path
invariant-loop-path l = IsOfSame l.fn.store l.store
