use Rattle.std.proofs.Common.{◌≡◌, take, fold}
use Rattle.rule_problem.specs.Distinct.{with_atom}
use Rattle.rule_report.specs.Numbered.{atoms_at}
use Rattle.rule_report.specs.Targets.{said, all_true}
use Rattle.rule_report.specs.Taken.{IsTaking}
use Rattle.rule_report.proofs.taken.take_all.Given as goal

abbrev pub invariant-loop-place : goal.invariant-loop-place
invariant-loop-place l = IsTaking l.shared l.taken
    × (l.taken.atoms ≡ fold with_atom l.fn.taken.atoms (atoms_at l.shared (take l.place-index l.places)))
    × (said l.taken.atoms l.path ≡ all_true (atoms_at l.shared (take l.place-index l.places)))
