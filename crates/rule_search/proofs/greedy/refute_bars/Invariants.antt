use Rattle.rule_search.specs.Finding.{IsOfSame}
use Rattle.rule_search.proofs.greedy.refute_bars.Given as goal

abbrev pub invariant-loop-bar : goal.invariant-loop-bar
invariant-loop-bar l = IsOfSame l.fn.store l.store
