-- Room for a walk, which grows or stays.
use Rattle.std.proofs.Common.{ℕ, ◌≤◌, arith}
use Rattle.contradiction_checker.specs.declared.notes.Notes.{Notes}
use Rattle.contradiction_checker.specs.declared.trail.Trail.{Trail}
use Rattle.contradiction_checker.specs.Rooms.{HasRoomFor, Extends}
use Rattle.contradiction_checker.specs.Trails.{HasRoom, Widens}

pub room_kept : (atoms items : ℕ) (old new : Trail) → HasRoom atoms items old → Widens old new → HasRoom atoms items new
room_kept atoms items old new room widens = record {
  assumed = omega (arith, room.assumed, widens.assumed);
  before = omega (arith, room.before, widens.before);
  heads = omega (arith, room.heads, widens.heads);
  changed = omega (arith, room.changed, widens.changed);
}

pub widens_more : (first old new : Trail) → Widens first old → Widens old new → Widens first new
widens_more first old new one other = record {
  assumed = omega (arith, one.assumed, other.assumed);
  before = omega (arith, one.before, other.before);
  heads = omega (arith, one.heads, other.heads);
  changed = omega (arith, one.changed, other.changed);
}

pub fewer_fit : (items fewer nodes : ℕ) (old new : Notes) → fewer ≤ items → HasRoomFor items nodes old → Extends old new → HasRoomFor fewer nodes new
fewer_fit items fewer nodes old new less room extends = record {
  mine = omega (arith, less, room.mine, extends.mine);
  verdicts = omega (arith, room.verdicts, extends.verdicts);
  of_nodes = omega (arith, room.of_nodes, extends.of_nodes);
}

pub extends_more : (first old new : Notes) → Extends first old → Extends old new → Extends first new
extends_more first old new one other = record {
  mine = omega (arith, one.mine, other.mine);
  verdicts = omega (arith, one.verdicts, other.verdicts);
  of_nodes = omega (arith, one.of_nodes, other.of_nodes);
}
