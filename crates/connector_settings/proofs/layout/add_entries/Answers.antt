use Rattle.std.proofs.Common.{List, length, ap, arith}
use Rattle.connector_settings.specs.declared.settings.TypeEntry.{TypeEntry}
use Rattle.connector_settings.specs.Layout.{planned}
use Rattle.connector_settings.proofs.Weights.{room_for_entry}
use Rattle.connector_settings.proofs.layout.add_entries.Goals as goal

pub add_entry-requires : goal.add_entry-requires
add_entry-requires c =
    let types = c.as_slice-entry-items.result.now in
    let i = c.loop-entry.entry-index in
    let room = room_for_entry c.args.keys c.args.method.now.method (planned c.args.builder.now c.args.roots.now.items) (planned c.loop-entry.builder c.loop-entry.roots.items) types i c.entry-item.result c.loop-entry.invariant (omega arith) in
    omega (arith, room, ap (λ (ts : List TypeEntry). length ts) c.as_slice-entry-items.ensures)
