use Rattle.std.proofs.Common.{◌≡◌, [], fold, map, take}
use Rattle.vir_lowering.specs.Atoms.{atom_of}
use Rattle.vir_lowering.specs.Groups.{with_atom}
use Rattle.vir_lowering.proofs.condition.groups_of.Given as goal

abbrev pub invariant-loop-comparison : goal.invariant-loop-comparison
invariant-loop-comparison l = l.groups.entries ≡ fold with_atom [] (map atom_of (take l.comparison-index l.comparisons))
