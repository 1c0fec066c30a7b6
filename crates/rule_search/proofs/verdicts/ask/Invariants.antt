use Rattle.std.proofs.Common.{◌≡◌, length}
use Rattle.rule_search.proofs.Telling.{ToldTo}
use Rattle.rule_search.proofs.verdicts.ask.Given as goal

abbrev pub invariant-loop-atom : goal.invariant-loop-atom
invariant-loop-atom l = record {
  count : length l.verdicts.items ≡ l.atom;
  told : ToldTo l.store l.verdicts.items;
}
