use Rattle.std.proofs.Common.{List, map, subst}
use Rattle.constraint_graph.specs.Graphs.{atoms_of}
use Rattle.key_table.specs.declared.atom.Atom.{Atom}
use Rattle.rule_report.specs.Paths.{rule_paths}
use Rattle.rule_report.specs.Numbered.{IsGrown}
use Rattle.rule_report.proofs.SharedLemmas.{shared_is}
use Rattle.rule_report.proofs.shared.shared_by.Goals as goal

pub returns : goal.returns
returns c =
    let P : List Atom → Type 0 = λ z. IsGrown z c.number_rules.new.atoms.keys in
    shared_is c.atom_law.ensures (map rule_paths c.args.rules.now) (atoms_of c.args.graph.now)
    (record { atoms = c.number_graph.new.atoms; rules = c.in_ok-rules.rules; graph_atoms = c.in_ok-graph_atoms.graph_atoms }) c.number_rules.new.atoms.keys
    (subst P c.new-atoms.ensures.empty c.in_ok-rules.ensures.grown) c.in_ok-rules.ensures.right c.in_ok-graph_atoms.ensures.grown c.in_ok-graph_atoms.ensures.right
