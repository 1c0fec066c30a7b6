-- What was found of atoms, and whether it is so still.
use Rattle.std.specs.Prelude.{◌≡◌, ℕ, ◌≤◌, nat_lt, List, slice_get, Bool, true, false, if◌then◌else◌, Option, Some, None}
use Rattle.std.specs.Option.{option_map_or}
use Rattle.key_table.specs.declared.atom.Atom.{Atom}
use Rattle.key_table.specs.declared.atom.Verdict3.{Verdict3}
use Rattle.key_table.specs.declared.atom.Verdict3.TheVariants.{Entailed, Refuted, Undecided}
use Rattle.key_table.specs.Tables.{Table}
use Rattle.constraint_graph.specs.declared.node.Node.{Node}
use Rattle.constraint_graph.specs.Graphs.{atom_of}
use Rattle.contradiction_checker.specs.declared.finding.Finding.{Finding}
use Rattle.contradiction_checker.specs.declared.finding.Known.{Known}
use Rattle.contradiction_checker.specs.declared.trail.Trail.{Trail}
use Rattle.contradiction_checker.specs.Assumed.{context_of}
use Rattle.contradiction_checker.specs.Chains.{chain_of}
use Rattle.contradiction_checker.specs.Tries.{leaves}

-- whether a chain was last changed before a time
abbrev pub has_stayed : List ℕ → ℕ → ℕ → Bool
has_stayed changed chain time = option_map_or (λ at. nat_lt at time) (slice_get changed chain) false

-- whether a truth is left, where it is known
abbrev pub known : Known → Bool → Option Bool
known k true = k.yes
known k false = k.no

-- the verdict of an atom, by whether it can be true and whether it can be false
abbrev pub verdict_of : Option Bool → Option Bool → Option Verdict3
verdict_of (Some false) _ = Some Refuted
verdict_of (Some true) (Some false) = Some Entailed
verdict_of (Some true) (Some true) = Some Undecided
verdict_of (Some true) None = None
verdict_of None _ = None

-- what is known with this of a truth
abbrev pub with_known : Known → Bool → Bool → Known
with_known k true left = record { yes = Some left; no = k.no }
with_known k false left = record { yes = k.yes; no = Some left }

-- that nothing is known
abbrev pub nothing_known : Known
nothing_known = record { yes = None; no = None }

-- that nothing is found
abbrev pub nothing : Finding
nothing = record { chain = 0; time = 0; known = nothing_known }

-- what of a finding is known still: nothing where its chain changed since
abbrev pub known_in : Trail → Finding → Known
known_in trail finding = if has_stayed trail.changed.items finding.chain finding.time then finding.known else nothing_known

-- What was found of an atom is of the past, and is so still where its chain stayed.
pub record IsFound (table : Table) (atoms : List Atom) (trail : Trail) (atom : Atom) (finding : Finding) : Type 0 where
  pub past : finding.time ≤ trail.time
  pub chain : has_stayed trail.changed.items finding.chain finding.time ≡ true → finding.chain ≡ chain_of trail.last_chain atom.slot
  pub right : (truth left : Bool) → has_stayed trail.changed.items finding.chain finding.time ≡ true → known finding.known truth ≡ Some left → left ≡ leaves table (context_of atoms trail.assumed.items) atom truth

-- Of each truth of an atom that is known it is known rightly whether it is left.
pub record IsRight (table : Table) (atoms : List Atom) (trail : Trail) (atom : Atom) (k : Known) : Type 0 where
  pub of : (truth left : Bool) → known k truth ≡ Some left → left ≡ leaves table (context_of atoms trail.assumed.items) atom truth

-- Each finding is one of the atom that is asked for at its place, if one is.
pub record AreFound (table : Table) (atoms : List Atom) (trail : Trail) (asked : ℕ → Option Atom) (findings : List Finding) : Type 0 where
  pub at : (k : ℕ) (atom : Atom) (finding : Finding) → asked k ≡ Some atom → slice_get findings k ≡ Some finding → IsFound table atoms trail atom finding

-- The finding at a place, if there is one, is of this atom.
pub record IsFoundAt (table : Table) (atoms : List Atom) (trail : Trail) (atom : Atom) (place : ℕ) (findings : List Finding) : Type 0 where
  pub of_it : (finding : Finding) → slice_get findings place ≡ Some finding → IsFound table atoms trail atom finding

-- New findings are as well found as the old ones, whatever other atoms are asked for than this one at its place.
pub record KeepsFound (table : Table) (atoms : List Atom) (trail : Trail) (atom : Atom) (place : ℕ) (old new : List Finding) : Type 0 where
  pub for_all : (asked : ℕ → Option Atom) → asked place ≡ Some atom → AreFound table atoms trail asked old → AreFound table atoms trail asked new

-- the atom of a test node by its number
abbrev pub test_at : List Node → ℕ → Option Atom
test_at nodes k = option_map_or atom_of (slice_get nodes k) None

-- Nothing is found yet.
pub record AreNothing (findings : List Finding) : Type 0 where
  pub none : (k : ℕ) (finding : Finding) → slice_get findings k ≡ Some finding → finding.time ≡ 0
