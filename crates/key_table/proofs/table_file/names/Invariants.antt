use Rattle.std.proofs.Common.{◌≡◌, ◌≤◌, [], length, map, true}
use Rattle.key_table.specs.Names.{are_names}
use Rattle.toml.specs.View.{view}
use Rattle.key_table.specs.TableFiles.{in_turn, name_added}
use Rattle.key_table.proofs.TableFileLemmas.{turns_from}
use Rattle.key_table.proofs.table_file.names.Given as goal

abbrev pub invariant-loop-item : goal.invariant-loop-item
invariant-loop-item l = record {
  count : length l.names ≤ l.item-index;
  rest : turns_from (name_added l.key) l.names l.item-index l.items ≡ in_turn (name_added l.key) [] (map view l.items);
  named : are_names l.names ≡ true;
}
