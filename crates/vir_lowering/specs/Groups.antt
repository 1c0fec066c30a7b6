-- Atoms in groups, one for each slot.
use Rattle.std.specs.Prelude.{List, [], ◌∷◌, ◌++◌, if◌then◌else◌}
use Rattle.std.specs.List.{flat_map}
use Rattle.key_table.specs.declared.slot.Slot.{Slot}
use Rattle.key_table.specs.declared.atom.Atom.{Atom}
use Rattle.vir_lowering.specs.Grouped.{is_slot}

abbrev pub Groups : Type 0
Groups = List (Slot × List Atom)

-- The groups with one atom more: it goes last into the group of its slot, and where there is none into a new group, which goes last.
abbrev pub with_atom : Groups → Atom → Groups
with_atom [] atom = (atom.slot, atom ∷ []) ∷ []
with_atom (group ∷ groups) atom = if is_slot atom.slot group.0 then (group.0, group.1 ++ atom ∷ []) ∷ groups else group ∷ with_atom groups atom

-- the atoms of all groups, one group after another
abbrev pub atoms_of_groups : Groups → List Atom
atoms_of_groups groups = flat_map (λ (group : Slot × List Atom). group.1) groups
