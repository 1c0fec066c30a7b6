-- A node is undecided only where some atom is.
use Rattle.std.proofs.Common.{◌≡◌, List, [], ◌∷◌, ◌⊎◌, inl, inr, refl, false, arith}
use Rattle.std.specs.List.{AllByRecursion, Contains}
use Rattle.key_table.specs.declared.atom.Atom.{Atom}
use Rattle.key_table.specs.declared.atom.Verdict3.{Verdict3}
use Rattle.key_table.specs.declared.atom.Verdict3.TheVariants.{Entailed, Refuted, Undecided}
use Rattle.key_table.specs.Contexts.{wanted}
use Rattle.constraint_graph.specs.Logics.{three_valued, lesser, greater}
use Rattle.constraint_graph.specs.Graphs.{atoms_of}
use Rattle.constraint_graph.specs.Laws.{UndecidedLaw}
use Rattle.constraint_graph.proofs.Atoms.{there}
use Rattle.constraint_graph.proofs.Relations.{Keeps, value_related}

-- The first verdict is decided.
abbrev Decided : Verdict3 → Verdict3 → Type 0
Decided v _ = v ≡ Undecided → ⊥

lesser_decided : (a b c d : Verdict3) → Decided a c → Decided b d → Decided (lesser a b) (lesser c d)
lesser_decided Entailed b c d h k = k
lesser_decided Refuted b c d h k = h
lesser_decided Undecided b c d h k = absurd (h refl)

greater_decided : (a b c d : Verdict3) → Decided a c → Decided b d → Decided (greater a b) (greater c d)
greater_decided Entailed b c d h k = h
greater_decided Refuted b c d h k = k
greater_decided Undecided b c d h k = absurd (h refl)

opposite_decided : (a c : Verdict3) → Decided a c → Decided (wanted false a) (wanted false c)
opposite_decided Entailed c h = λ e. cc
opposite_decided Refuted c h = λ e. cc
opposite_decided Undecided c h = absurd (h refl)

keeps : Keeps three_valued three_valued Decided
keeps = record { yes = λ e. cc; no = λ e. cc; both = lesser_decided; either = greater_decided; opposite = opposite_decided }

-- an undecided one among these atoms
abbrev Found : (Atom → Verdict3) → List Atom → Type 0
Found says atoms = (atom : Atom) × Contains atoms atom × (says atom ≡ Undecided)

-- each of these atoms is decided
abbrev NoneOf : (Atom → Verdict3) → List Atom → Type 0
NoneOf says atoms = AllByRecursion (λ atom. says atom ≡ Undecided → ⊥) atoms

-- one atom more, which is decided
later : (says : Atom → Verdict3) (a : Atom) (atoms : List Atom) → (says a ≡ Undecided → ⊥) → Found says atoms ⊎ NoneOf says atoms → Found says (a ∷ atoms) ⊎ NoneOf says (a ∷ atoms)
later says a atoms here (inl found) = inl (found.0, there a found.0 atoms found.1, found.2)
later says a atoms here (inr none) = inr (here, none)

-- one of the atoms is undecided, or none is
undecided_or : (says : Atom → Verdict3) (atoms : List Atom) → Found says atoms ⊎ NoneOf says atoms
undecided_or says [] = inr tt
undecided_or says (a ∷ atoms) =
    elim (says a) as (λ (v : Verdict3). says a ≡ v → Found says (a ∷ atoms) ⊎ NoneOf says (a ∷ atoms)) [
      | Undecided ↦ (λ is. inl (a, (0, omega arith, refl), is))
      | Entailed ↦ (λ is. later says a atoms (λ e. cc) (undecided_or says atoms))
      | Refuted ↦ (λ is. later says a atoms (λ e. cc) (undecided_or says atoms))
    ] refl

pub undecided : UndecidedLaw
undecided says nodes node is =
    elim (undecided_or says (atoms_of nodes)) [
      | inl found ↦ found
      | inr none ↦ absurd (value_related three_valued three_valued Decided keeps says says nodes node none is)
    ]
