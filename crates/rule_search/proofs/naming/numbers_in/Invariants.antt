use Rattle.std.proofs.Common.{◌≡◌, take}
use Rattle.rule_search.specs.Naming.{firsts, numbers_of}
use Rattle.rule_search.proofs.naming.numbers_in.Given as goal

abbrev pub invariant-loop-item : goal.invariant-loop-item
invariant-loop-item l = l.numbers.keys ≡ firsts (numbers_of (take l.item-index l.items))
