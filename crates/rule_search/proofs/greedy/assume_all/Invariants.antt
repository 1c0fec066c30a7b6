use Rattle.rule_search.specs.Finding.{IsOfSame}
use Rattle.rule_search.proofs.greedy.assume_all.Given as goal

abbrev pub invariant-loop-literal : goal.invariant-loop-literal
invariant-loop-literal l = IsOfSame l.fn.store l.store
