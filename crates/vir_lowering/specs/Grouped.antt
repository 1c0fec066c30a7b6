-- Atoms by their slots.
use Rattle.std.specs.Prelude.{List, [], ◌∷◌, ◌++◌, map, fold, Bool, if◌then◌else◌}
use Rattle.std.specs.List.{list_any, flat_map, filter}
use Rattle.std.specs.Ordering.{is_eq}
use Rattle.key_table.specs.declared.slot.Slot.{Slot}
use Rattle.key_table.specs.declared.atom.Atom.{Atom}
use Rattle.key_table.specs.Slots.{slot_cmp}

-- whether two slots are the same
abbrev pub is_slot : Slot → Slot → Bool
is_slot slot other = is_eq (slot_cmp slot other)

-- the slots, and one more last unless it is among them
abbrev pub with_slot : List Slot → Slot → List Slot
with_slot slots slot = if list_any (is_slot slot) slots then slots else slots ++ slot ∷ []

-- the slots of atoms, each once, in order of first appearance
abbrev pub slots_of : List Atom → List Slot
slots_of atoms = fold with_slot [] (map (λ (a : Atom). a.slot) atoms)

-- the atoms at a slot, in their order
abbrev pub atoms_at : List Atom → Slot → List Atom
atoms_at atoms slot = filter (λ (a : Atom). is_slot a.slot slot) atoms

-- The atoms at the first slot, then those at the next one.
abbrev pub grouped : List Atom → List Atom
grouped atoms = flat_map (atoms_at atoms) (slots_of atoms)
