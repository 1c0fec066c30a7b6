use Rattle.std.proofs.Common.{◌≡◌, ◌+◌, length}
use Rattle.rule_search.specs.Finding.{IsOfSame}
use Rattle.rule_search.proofs.greedy.clear.Given as goal

abbrev pub invariant-loop : goal.invariant-loop
invariant-loop l = IsOfSame l.fn.store l.store × (length l.store.assumptions + l.counter ≡ l.count)
