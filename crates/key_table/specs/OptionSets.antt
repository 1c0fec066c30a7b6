-- Sets of options of a slot: what an atom leaves of one, and what one tells of an atom.
use Rattle.std.specs.Prelude.{◌≡◌, Bool, true, false, ◌&&◌, Option}
use Rattle.std.specs.Bool.{beq}
use Rattle.key_table.specs.declared.atom.Atom.{Atom}
use Rattle.key_table.specs.declared.atom.Verdict3.{Verdict3}
use Rattle.key_table.specs.declared.atom.Verdict3.TheVariants.{Entailed, Refuted, Undecided}
use Rattle.key_table.specs.declared.slot.Datum.{Datum}
use Rattle.key_table.specs.Options.{holds_of}

-- for each option whether it is in the set
abbrev pub Options : Type 0
Options = Option Datum → Bool

-- Some option is in the set.
abbrev pub HasOption : Options → Type 0
HasOption options = (o : Option Datum) × (options o ≡ true)

-- the options of the set on which the atom has the truth
abbrev pub kept : Atom → Bool → Options → Options
kept atom truth options o = options o && beq (holds_of atom o) truth

-- An atom is entailed where it holds of every option in the set, refuted where it holds of none, and undecided where it holds of some and not of some other.
abbrev pub IsVerdict : Options → Atom → Verdict3 → Type 0
IsVerdict options atom Entailed = (o : Option Datum) → options o ≡ true → holds_of atom o ≡ true
IsVerdict options atom Refuted = (o : Option Datum) → options o ≡ true → holds_of atom o ≡ false
IsVerdict options atom Undecided = HasOption (kept atom true options) × HasOption (kept atom false options)
