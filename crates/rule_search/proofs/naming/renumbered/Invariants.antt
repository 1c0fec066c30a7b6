use Rattle.std.proofs.Common.{◌≡◌, take, map}
use Rattle.rule_search.specs.Naming.{place_of, renumbered}
use Rattle.rule_search.proofs.naming.renumbered.Given as goal

abbrev pub invariant-loop-item : goal.invariant-loop-item
invariant-loop-item l = l.list ≡ map (renumbered (place_of l.numbers.keys)) (take l.item-index l.items)
