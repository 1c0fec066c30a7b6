use Rattle.std.proofs.Common.{◌≡◌, drop}
use Rattle.std.specs.List.{list_all}
use Rattle.constraint_graph.specs.Graphs.{atoms_of}
use Rattle.rule_problem.specs.Distinct.{is_among}
use Rattle.rule_problem.proofs.fitting.has_atoms_of.Given as goal

abbrev pub invariant-loop-node : goal.invariant-loop-node
invariant-loop-node l = list_all (is_among l.atoms) (atoms_of l.graph) ≡ list_all (is_among l.atoms) (atoms_of (drop l.node l.graph))
