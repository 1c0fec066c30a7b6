use Rattle.std.proofs.Common.{take}
use Rattle.rule_report.specs.Numbered.{IsGrown, AreNumbersOf}
use Rattle.rule_report.proofs.atoms.number_atoms.Given as goal

abbrev pub invariant-loop-atom : goal.invariant-loop-atom
invariant-loop-atom l = IsGrown l.fn.atoms.keys l.atoms.keys × AreNumbersOf l.atoms.keys l.numbers (take l.atom-index l.condition)
