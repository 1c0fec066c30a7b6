use Rattle.std.proofs.Common.{◌≤◌, length, slice_get, vec_len}
use Rattle.rule_problem.specs.Reasons.{Holds}
use Rattle.contradiction_checker.specs.Findings.{AreFound, test_at}
use Rattle.contradiction_checker.specs.Rooms.{Extends}
use Rattle.contradiction_checker.specs.Trails.{IsLinked, HasRoom, Widens}
use Rattle.contradiction_checker.proofs.Sides.{Leads}
use Rattle.contradiction_checker.proofs.walk.walk.Given as goal

abbrev pub invariant-loop-i : goal.invariant-loop-i
invariant-loop-i l = record {
  leads : Leads l.atoms l.items (Holds l.table l.problem l.atoms) l.trail.assumed.items l.i;
  few : vec_len l.trail.assumed ≤ l.i;
  time : l.trail.time ≤ l.i;
  of_atoms : AreFound l.table l.atoms l.trail (slice_get l.problem.atoms) l.notes.of_atoms.items;
  of_nodes : AreFound l.table l.atoms l.trail (test_at l.problem.graph) l.notes.of_nodes.items;
  linked : IsLinked l.atoms l.trail;
  room : HasRoom (length l.atoms) (length l.items) l.trail;
  widens : Widens l.fn.trail l.trail;
  room_for_notes : Extends l.fn.notes l.notes;
}
