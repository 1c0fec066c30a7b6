use Rattle.std.proofs.Common.{take}
use Rattle.constraint_graph.specs.Graphs.{atoms_of}
use Rattle.rule_report.specs.Numbered.{IsGrown, AreNumbersOf}
use Rattle.rule_report.proofs.atoms.number_graph.Given as goal

abbrev pub invariant-loop-node : goal.invariant-loop-node
invariant-loop-node l = IsGrown l.fn.atoms.keys l.atoms.keys × AreNumbersOf l.atoms.keys l.numbers (atoms_of (take l.node l.graph))
