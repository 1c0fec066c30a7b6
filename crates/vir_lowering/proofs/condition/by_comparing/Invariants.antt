use Rattle.std.proofs.Common.{◌≡◌, take}
use Rattle.vir_lowering.proofs.GroupedAtoms.{placed}
use Rattle.vir_lowering.proofs.condition.by_comparing.Given as goal

abbrev pub invariant-loop-i : goal.invariant-loop-i
invariant-loop-i l = l.atoms ≡ placed l.comparisons (take l.i l.comparisons)
