use Rattle.std.proofs.Common.{List, length, slice_get, sym, ◌∙◌, subst, ◌+◌, arith}
use Rattle.rule_problem.specs.Reasons.{Holds}
use Rattle.contradiction_checker.specs.declared.options.Assumed.{Assumed}
use Rattle.contradiction_checker.specs.Findings.{test_at}
use Rattle.contradiction_checker.proofs.Findings.{none_found, still_found}
use Rattle.contradiction_checker.proofs.Rooms.{room_kept, widens_more, extends_more}
use Rattle.contradiction_checker.proofs.Sides.{leads_first}
use Rattle.contradiction_checker.proofs.Steps.{Walks, walks_split, rejected, ended, walks_turned, ran_out}
use Rattle.contradiction_checker.proofs.walk.walk.Goals as goal

pub loop-i-init : goal.loop-i-init
loop-i-init c =
    let W : List Assumed → Type 0 = λ s. Walks c.args.table.now c.args.problem.now c.args.atoms.now c.args.items.now s 0 in
    record {
      leads = subst W (sym c.clear.ensures.items) (leads_first c.args.atoms.now c.args.items.now (Holds c.args.table.now c.args.problem.now c.args.atoms.now));
      few = omega arith;
      time = omega (arith, c.clear.ensures.time);
      of_atoms = none_found c.args.table.now c.args.atoms.now c.clear.new.self (slice_get c.args.problem.now.atoms) c.clear-2.new.self.of_atoms.items c.clear-2.ensures.of_atoms;
      of_nodes = none_found c.args.table.now c.args.atoms.now c.clear.new.self (test_at c.args.problem.now.graph) c.clear-2.new.self.of_nodes.items c.clear-2.ensures.of_nodes;
      linked = c.clear.ensures.linked c.args.atoms.now;
      room = room_kept (length c.args.atoms.now) (length c.args.items.now) c.args.trail.now c.clear.new.self c.requires.room c.clear.ensures.room;
      widens = c.clear.ensures.room;
      room_for_notes = c.clear-2.ensures.room;
    }

pub loop-i-preserved-in-Some : goal.loop-i-preserved-in-Some
loop-i-preserved-in-Some c =
    let W : List Assumed → Type 0 = λ s. Walks c.args.table.now c.args.problem.now c.args.atoms.now c.args.items.now s (c.loop-i.i + 1) in
    record {
      leads = subst W (sym c.push.ensures.items) (walks_split c.args.table.now c.args.problem.now c.args.atoms.now c.args.items.now c.loop-i.trail.assumed.items c.loop-i.i c.in-Some.atom (omega arith) c.in-Some.ensures c.loop-i.invariant.leads);
      few = omega arith;
      time = omega (arith, c.push.ensures.time, c.loop-i.invariant.time);
      of_atoms = still_found c.args.table.now c.args.atoms.now c.loop-i.trail c.push.new.self (slice_get c.args.problem.now.atoms) c.loop-i.notes.of_atoms.items c.push.ensures.passes c.loop-i.invariant.of_atoms;
      of_nodes = still_found c.args.table.now c.args.atoms.now c.loop-i.trail c.push.new.self (test_at c.args.problem.now.graph) c.loop-i.notes.of_nodes.items c.push.ensures.passes c.loop-i.invariant.of_nodes;
      linked = c.push.ensures.linked;
      room = room_kept (length c.args.atoms.now) (length c.args.items.now) c.loop-i.trail c.push.new.self c.loop-i.invariant.room c.push.ensures.room;
      widens = widens_more c.args.trail.now c.loop-i.trail c.push.new.self c.loop-i.invariant.widens c.push.ensures.room;
      room_for_notes = c.loop-i.invariant.room_for_notes;
    }

pub returns-then-not-reason_holds-clause-value : goal.returns-then-not-reason_holds-clause-value
returns-then-not-reason_holds-clause-value c =
    let atoms = c.args.atoms.now in
    rejected c.atom_law.ensures c.agree_law.ensures c.args.table.now c.args.problem.now atoms c.args.items.now c.loop-i.trail.assumed.items c.loop-i.i c.requires.problem c.requires.atoms (omega arith) c.in_default.ensures (sym c.reason_holds.ensures.value ∙ c.if-not-reason_holds.true) c.loop-i.invariant.leads

pub returns-then-not-turn-clause-value : goal.returns-then-not-turn-clause-value
returns-then-not-turn-clause-value c =
    let atoms = c.args.atoms.now in
    ended c.atom_law.ensures c.agree_law.ensures c.args.table.now c.args.problem.now atoms c.args.items.now c.loop-i.trail.assumed.items c.loop-i.i c.at_end.result c.requires.problem c.requires.atoms (omega arith) c.in_default.ensures (sym c.reason_holds.ensures.value ∙ c.if-not-reason_holds.false) c.loop-i.invariant.leads c.if-not-turn.ensures.turned c.at_end.ensures

pub loop-i-preserved : goal.loop-i-preserved
loop-i-preserved c =
    let atoms = c.args.atoms.now in
    record {
      leads = walks_turned c.atom_law.ensures c.agree_law.ensures c.args.table.now c.args.problem.now atoms c.args.items.now c.loop-i.trail.assumed.items c.turn.new.self.assumed.items c.loop-i.i c.requires.problem c.requires.atoms (omega arith) c.in_default.ensures (sym c.reason_holds.ensures.value ∙ c.if-not-reason_holds.false) c.loop-i.invariant.leads c.if-not-turn.ensures.turned;
      few = omega arith;
      time = omega (arith, c.turn.ensures.time, c.loop-i.invariant.time);
      of_atoms = still_found c.args.table.now atoms c.loop-i.trail c.turn.new.self (slice_get c.args.problem.now.atoms) c.reason_holds.new.notes.of_atoms.items c.turn.ensures.passes c.reason_holds.ensures.of_atoms;
      of_nodes = still_found c.args.table.now atoms c.loop-i.trail c.turn.new.self (test_at c.args.problem.now.graph) c.reason_holds.new.notes.of_nodes.items c.turn.ensures.passes c.reason_holds.ensures.of_nodes;
      linked = c.turn.ensures.linked;
      room = room_kept (length c.args.atoms.now) (length c.args.items.now) c.loop-i.trail c.turn.new.self c.loop-i.invariant.room c.turn.ensures.room;
      widens = widens_more c.args.trail.now c.loop-i.trail c.turn.new.self c.loop-i.invariant.widens c.turn.ensures.room;
      room_for_notes = extends_more c.args.notes.now c.loop-i.notes c.reason_holds.new.notes c.loop-i.invariant.room_for_notes c.reason_holds.ensures.room;
    }

pub returns-clause-value : goal.returns-clause-value
returns-clause-value c = ran_out c.args.table.now c.args.problem.now c.args.atoms.now c.args.items.now c.loop-i.trail.assumed.items c.loop-i.i (omega arith) (omega arith) c.loop-i.invariant.leads
