use Rattle.std.proofs.Common.{◌≡◌, [], map}
use Rattle.toml.specs.View.{view}
use Rattle.key_table.specs.TableFiles.{in_turn, key_added}
use Rattle.key_table.proofs.TableFileLemmas.{turns_from}
use Rattle.key_table.proofs.table_file.keys.Given as goal

abbrev pub invariant-loop-entry : goal.invariant-loop-entry
invariant-loop-entry l = turns_from key_added l.table l.entry-index l.entries ≡ in_turn key_added [] (map view l.entries)
