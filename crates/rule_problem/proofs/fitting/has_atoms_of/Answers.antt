use Rattle.std.proofs.Common.{◌+◌, Bool, Bor, Option, drop, ◌&&◌, ◌∙◌, sym, ap, option_copied}
use Rattle.std.specs.List.{list_all, cons_option}
use Rattle.key_table.specs.declared.atom.Atom.{Atom}
use Rattle.constraint_graph.specs.Graphs.{atoms_of}
use Rattle.rule_problem.specs.Distinct.{is_among}
use Rattle.rule_problem.proofs.GraphAtoms.{atoms_from}
use Rattle.rule_problem.proofs.fitting.has_atoms_of.Goals as goal
use Rattle.rule_problem.proofs.fitting.has_atoms_of.Goals.{in-Some+else-not-is_among, in_default}

pub returns-then-not-is_among : goal.returns-then-not-is_among
returns-then-not-is_among c =
    let p : Atom → Bool = is_among c.args.atoms.now in
    let later = atoms_of (drop (c.loop-node.node + 1) c.args.graph.now) in
    let step = atoms_from p c.args.graph.now c.loop-node.node (option_copied c.atom.result) c.atom.ensures in
    let there = ap (λ (r : Option (Bor Atom)). list_all p (cons_option (option_copied r) later)) c.in-Some.is in
    sym (c.loop-node.invariant ∙ step ∙ there ∙ ap (λ (b : Bool). b && list_all p later) (sym c.is_among.ensures ∙ c.if-not-is_among.true))

pub loop-node-preserved : goal.loop-node-preserved
loop-node-preserved c =
    let p : Atom → Bool = is_among c.args.atoms.now in
    let later = atoms_of (drop (c.loop-node.node + 1) c.args.graph.now) in
    let step = atoms_from p c.args.graph.now c.loop-node.node (option_copied c.atom.result) c.atom.ensures in
    elim c.match-atom.branch [
      | in-Some+else-not-is_among w ↦
          c.loop-node.invariant ∙ step ∙ ap (λ (r : Option (Bor Atom)). list_all p (cons_option (option_copied r) later)) w.in-Some.is
          ∙ ap (λ (b : Bool). b && list_all p later) (sym w.is_among.ensures ∙ w.if-not-is_among.false)
      | in_default w ↦ c.loop-node.invariant ∙ step ∙ ap (λ (r : Option (Bor Atom)). list_all p (cons_option (option_copied r) later)) w.in_default.is
    ]
