-- Atoms told apart: lists in which none stands twice, and the place of an atom in a list.
use Rattle.std.specs.Prelude.{ℕ, List, [], ◌∷◌, ◌++◌, Bool, true, not, ◌&&◌, if◌then◌else◌, fold}
use Rattle.std.specs.List.{list_any, position_or_len}
use Rattle.key_table.specs.declared.atom.Atom.{Atom}
use Rattle.key_table.specs.contracts.atom.AtomPartialEq.TheImpl as by_atom

-- whether two atoms have the same slot, the same `none_of` and the same tests in the same order
abbrev pub is_same : Atom → Atom → Bool
is_same a b = by_atom.eq-value.it a b

-- whether an atom stands in a list
abbrev pub is_among : List Atom → Atom → Bool
is_among atoms atom = list_any (λ other. is_same atom other) atoms

-- whether no atom stands twice
abbrev pub are_distinct : List Atom → Bool
are_distinct [] = true
are_distinct (atom ∷ atoms) = not (is_among atoms atom) && are_distinct atoms

-- the atoms with one more, if it is not there yet
abbrev pub with_atom : List Atom → Atom → List Atom
with_atom atoms atom = if is_among atoms atom then atoms else atoms ++ atom ∷ []

-- each atom once, in order of first standing
abbrev pub firsts : List Atom → List Atom
firsts atoms = fold with_atom [] atoms

-- the place of an atom in a list
abbrev pub place_in : List Atom → Atom → ℕ
place_in atoms atom = position_or_len (λ other. is_same atom other) atoms
