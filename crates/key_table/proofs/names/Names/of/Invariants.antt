use Rattle.std.proofs.Common.{◌≡◌, ◌≤◌, map, fold, drop, length}
use Rattle.key_table.specs.NameLists.{with_name, with_names}
use Rattle.key_table.proofs.names.Names.of.Given as goal

abbrev pub invariant-loop-word : goal.invariant-loop-word
invariant-loop-word l = record {
  count : length l.names ≤ l.word-index;
  rest : with_names (map (λ w. w.now) l.words) ≡ fold with_name l.names (map (λ w. w.now) (drop l.word-index l.words));
}
