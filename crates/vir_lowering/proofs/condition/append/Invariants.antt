use Rattle.std.proofs.Common.{◌≡◌, ◌++◌, take}
use Rattle.vir_lowering.proofs.condition.append.Given as goal

abbrev pub invariant-loop-atom : goal.invariant-loop-atom
invariant-loop-atom l = l.atoms ≡ l.fn.atoms ++ take l.atom-index l.group
