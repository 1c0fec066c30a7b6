use Rattle.std.proofs.Common.{take}
use Rattle.rule_report.proofs.Growth.{grown_then}
use Rattle.rule_report.proofs.Images.{take_next}
use Rattle.rule_report.proofs.atoms.number_atoms.Goals as goal

pub loop-atom-preserved : goal.loop-atom-preserved
loop-atom-preserved c = (
  grown_then c.args.atoms.now.keys c.loop-atom.atoms.keys c.push_number.new.atoms.keys c.loop-atom.invariant.0 c.in_ok-push_number.ensures.grown,
  rw (take_next c.args.condition.now c.loop-atom.atom-index c.atom-item.result c.loop-atom-test.true c.atom-item.is)
      (c.in_ok-push_number.ensures.right (take c.loop-atom.atom-index c.args.condition.now) c.loop-atom.invariant.1),
)
