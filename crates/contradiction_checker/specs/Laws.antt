-- Trying a few options decides over all of them.
use Rattle.std.specs.Prelude.{◌≡◌, ◌↔◌, Bool, true, Option}
use Rattle.std.specs.List.{AllByRecursion}
use Rattle.key_table.specs.declared.atom.Atom.{Atom}
use Rattle.key_table.specs.declared.slot.Datum.{Datum}
use Rattle.key_table.specs.Tables.{Table}
use Rattle.key_table.specs.Atoms.{atom_fits}
use Rattle.key_table.specs.Options.{holds_of}
use Rattle.key_table.specs.Contexts.{Assumption, Context, IsLeft}
use Rattle.contradiction_checker.specs.Tries.{leaves}

-- Each atom of the context fits.
abbrev pub Fit : Table → Context → Type 0
Fit table context = AllByRecursion (λ (a : Assumption). atom_fits table a.atom ≡ true) context

-- An option that the context leaves to the slot of an atom, and on which the atom has a truth.
pub record IsLeftWith (table : Table) (context : Context) (atom : Atom) (truth : Bool) : Type 0 where
  pub option : Option Datum
  pub left : IsLeft table context atom.slot option
  pub has : holds_of atom option ≡ truth

-- Where the atoms fit, one of the few options that are tried has a truth exactly where some option has it.
abbrev pub TriesLaw : Type 0
TriesLaw = (table : Table) (context : Context) (atom : Atom) (truth : Bool) → atom_fits table atom ≡ true → Fit table context → (leaves table context atom truth ≡ true) ↔ IsLeftWith table context atom truth
