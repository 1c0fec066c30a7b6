use Rattle.std.proofs.Common.{◌≡◌, ◌≤◌, map, length, true}
use Rattle.std.specs.List.{list_all}
use Rattle.serde_json.specs.View.{view}
use Rattle.json_shape.specs.Each.{each}
use Rattle.json_shape.proofs.InTurn.{behind, rest_of}
use Rattle.json_shape.proofs.items.each.Given as goal

abbrev pub invariant-loop-i : goal.invariant-loop-i
invariant-loop-i g l = let reads = g.R.Reader.reads l.reader in record {
  items : behind l.items (rest_of reads l.path l.i l.nodes) ≡ each reads l.path 0 (map view l.nodes);
  fit : list_all (g.R.Reader.fits l.reader) l.items ≡ true;
  few : length l.items ≤ l.i;
}
