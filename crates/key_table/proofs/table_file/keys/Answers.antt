use Rattle.std.proofs.Common.{[], map, arith}
use Rattle.std.proofs.lemmas.Result.{err_from_is_err_and}
use Rattle.toml.specs.View.{view}
use Rattle.key_table.specs.TableFiles.{in_turn, key_added}
use Rattle.key_table.proofs.TableFileLemmas.{turn_goes_on, turn_stops, turns_end}
use Rattle.key_table.proofs.table_file.keys.Goals as goal

pub returns-in_err-add_key : goal.returns-in_err-add_key
returns-in_err-add_key c =
    let p = err_from_is_err_and c.from_residual.result c.from_residual.ensures.1 in
    rw (p.1, p.2) (turn_stops c.in_err-add_key.field-0.0 key_added c.loop-entry.table c.loop-entry.entry-index c.args.entries.now c.entry-item.result (in_turn key_added [] (map view c.args.entries.now))
    c.loop-entry-test.true c.entry-item.is c.in_err-add_key.ensures c.loop-entry.invariant)

pub loop-entry-preserved : goal.loop-entry-preserved
loop-entry-preserved c = turn_goes_on key_added c.loop-entry.table _ c.loop-entry.entry-index c.args.entries.now c.entry-item.result (in_turn key_added [] (map view c.args.entries.now)) c.loop-entry-test.true c.entry-item.is c.in_ok-add_key.ensures c.loop-entry.invariant

pub returns : goal.returns
returns c = turns_end key_added c.loop-entry.table c.loop-entry.entry-index c.args.entries.now (in_turn key_added [] (map view c.args.entries.now)) c.loop-entry-test.false c.loop-entry.invariant
