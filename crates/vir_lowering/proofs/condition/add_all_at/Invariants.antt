use Rattle.std.proofs.Common.{◌≡◌, ◌++◌, map, drop}
use Rattle.vir_lowering.specs.Atoms.{atom_of}
use Rattle.vir_lowering.specs.Grouped.{atoms_at}
use Rattle.vir_lowering.proofs.condition.add_all_at.Given as goal

abbrev pub invariant-loop-comparison : goal.invariant-loop-comparison
invariant-loop-comparison l = l.atoms ++ atoms_at (map atom_of (drop l.comparison-index l.comparisons)) l.slot ≡ l.fn.atoms ++ atoms_at (map atom_of l.comparisons) l.slot
