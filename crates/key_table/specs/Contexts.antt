-- Contexts: atoms that are taken to have a truth, the options that they leave to a slot, and what follows for other atoms.
use Rattle.std.specs.Prelude.{◌≡◌, List, Bool, true, false, not, ◌&&◌, Option, if◌then◌else◌}
use Rattle.std.specs.List.{list_all, Contains}
use Rattle.std.specs.Bool.{beq}
use Rattle.std.specs.Ordering.{is_eq}
use Rattle.key_table.specs.declared.atom.Atom.{Atom}
use Rattle.key_table.specs.declared.atom.Verdict3.{Verdict3}
use Rattle.key_table.specs.declared.atom.Verdict3.TheVariants.{Entailed, Refuted, Undecided}
use Rattle.key_table.specs.declared.slot.Slot.{Slot}
use Rattle.key_table.specs.declared.slot.Datum.{Datum}
use Rattle.key_table.specs.Slots.{slot_cmp}
use Rattle.key_table.specs.Tables.{Table}
use Rattle.key_table.specs.Options.{is_option, holds_of}
use Rattle.key_table.specs.OptionSets.{Options, HasOption, IsVerdict}

-- An atom that is taken to have a truth.
pub record Assumption : Type 0 where
  pub atom : Atom
  pub truth : Bool

abbrev pub Context : Type 0
Context = List Assumption

abbrev pub assume : Atom → Bool → Assumption
assume atom truth = record { atom = atom; truth = truth }

-- whether an assumption has its truth on an option
abbrev pub has_truth : Option Datum → Assumption → Bool
has_truth option a = beq (holds_of a.atom option) a.truth

-- whether an assumption, where it is on the slot, has its truth on an option of it
abbrev pub meets_on : Slot → Option Datum → Assumption → Bool
meets_on slot option a = if is_eq (slot_cmp slot a.atom.slot) then has_truth option a else true

-- An option of a slot meets a context where each of its assumptions on that slot has its truth on the option.
abbrev pub meets : Context → Slot → Option Datum → Bool
meets context slot option = list_all (meets_on slot option) context

-- An option that the context leaves to a slot: it is legal there, and meets the context.
pub record IsLeft (table : Table) (context : Context) (slot : Slot) (option : Option Datum) : Type 0 where
  pub legal : is_option table slot option ≡ true
  pub met : meets context slot option ≡ true

-- A slot is void where no option is left to it.
abbrev pub IsVoid : Table → Context → Slot → Type 0
IsVoid table context slot = (option : Option Datum) → IsLeft table context slot option → ⊥

-- A context forces a truth on an atom where the atom has it on every option that is left to its slot.
abbrev pub Forces : Table → Context → Atom → Bool → Type 0
Forces table context atom truth = (option : Option Datum) → IsLeft table context atom.slot option → holds_of atom option ≡ truth

abbrev pub Entails : Table → Context → Atom → Type 0
Entails table context atom = Forces table context atom true

abbrev pub Refutes : Table → Context → Atom → Type 0
Refutes table context atom = Forces table context atom false

-- The verdict of an atom. On a void slot it is both refuted and entailed, and counts as refuted.
abbrev pub HasVerdict : Table → Context → Atom → Verdict3 → Type 0
HasVerdict table context atom Refuted = Refutes table context atom
HasVerdict table context atom Entailed = Entails table context atom × (¬ (Refutes table context atom))
HasVerdict table context atom Undecided = (¬ (Entails table context atom)) × (¬ (Refutes table context atom))

-- A literal wants a truth of an atom: it is entailed where that truth is forced, and refuted where the other one is.
abbrev pub EntailsWanted : Table → Context → Atom → Bool → Type 0
EntailsWanted table context atom want = Forces table context atom want

abbrev pub RefutesWanted : Table → Context → Atom → Bool → Type 0
RefutesWanted table context atom want = Forces table context atom (not want)

-- So the verdict of a literal that wants false is that of its atom, with entailed and refuted exchanged.
abbrev pub wanted : Bool → Verdict3 → Verdict3
wanted true verdict = verdict
wanted false Entailed = Refuted
wanted false Refuted = Entailed
wanted false Undecided = Undecided

-- the options that a context leaves to a slot, as a set
unfoldable pub left : Table → Context → Slot → Options
left table context slot option = is_option table slot option && meets context slot option

-- Each assumption of the first context is one of the second.
abbrev pub IsWithin : Context → Context → Type 0
IsWithin c d = (a : Assumption) → Contains c a → Contains d a

-- An assumption is forced.
abbrev pub AssumedLaw : Type 0
AssumedLaw = (table : Table) (c : Context) (atom : Atom) (truth : Bool) → Contains c (assume atom truth) → Forces table c atom truth

-- What fewer assumptions force, more assumptions force.
abbrev pub MoreLaw : Type 0
MoreLaw = (table : Table) (c d : Context) (atom : Atom) (truth : Bool) → IsWithin c d → Forces table c atom truth → Forces table d atom truth

-- Where a slot is not void, the verdict of an atom on the set of options that are left to it is its verdict in the context.
abbrev pub VerdictLaw : Type 0
VerdictLaw = (table : Table) (context : Context) (atom : Atom) (verdict : Verdict3) → HasOption (left table context atom.slot) → IsVerdict (left table context atom.slot) atom verdict → HasVerdict table context atom verdict

-- An option is in that set exactly where the context leaves it to the slot.
abbrev pub LeftLaw : Type 0
LeftLaw = (table : Table) (context : Context) (slot : Slot) (option : Option Datum) → (left table context slot option ≡ true → IsLeft table context slot option) × (IsLeft table context slot option → left table context slot option ≡ true)
