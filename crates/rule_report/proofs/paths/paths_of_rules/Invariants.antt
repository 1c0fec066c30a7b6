use Rattle.std.proofs.Common.{[], map, take}
use Rattle.std.specs.List.{flat_map}
use Rattle.rule_report.specs.Numbered.{atoms_at, rule_numbers}
use Rattle.rule_report.specs.Taken.{IsTaking, IsAdded}
use Rattle.rule_report.proofs.paths.paths_of_rules.Given as goal

abbrev pub invariant-loop-rule : goal.invariant-loop-rule
invariant-loop-rule l = IsTaking l.shared l.taken
    × IsAdded l.fn.taken.atoms (flat_map (λ rule. map (atoms_at l.shared) (rule_numbers rule)) (take l.rule-index l.rules)) l.taken.atoms [] l.paths
