use Rattle.std.proofs.Common.{◌≡◌, ◌++◌}
use Rattle.vir_lowering.specs.Groups.{atoms_of_groups}
use Rattle.vir_lowering.proofs.condition.joined.Given as goal

abbrev pub invariant-loop-group : goal.invariant-loop-group
invariant-loop-group l = l.atoms ++ atoms_of_groups l.group-iterator ≡ atoms_of_groups l.groups.entries
