-- What a store keeps: for each slot of the atoms one domain, with exactly the options that the assumptions leave to it.
use Rattle.std.specs.Prelude.{◌≡◌, ℕ, ◌<◌, List, Bool, true, Option, Some, length, map, option_map, slice_get, slice_index_or}
use Rattle.std.specs.List.{All}
use Rattle.key_table.specs.declared.atom.Atom.{Atom}
use Rattle.key_table.specs.declared.slot.Slot.{Slot}
use Rattle.key_table.specs.OptionSets.{HasOption}
use Rattle.key_table.specs.Options.{is_option}
use Rattle.key_table.specs.Tables.{Table}
use Rattle.constraint_graph.specs.declared.node.Node.{Node}
use Rattle.constraint_graph.specs.Graphs.{atom_of}
use Rattle.interval_domains.specs.declared.domain.SlotDomain.{SlotDomain}
use Rattle.interval_domains.specs.Members.{members, slot_of}
use Rattle.rule_problem.specs.Problems.{problem_fits}
use Rattle.domain_store.specs.Stores.{Seen, before, open_options}

-- A domain has exactly the options that the assumptions leave to its slot, and is not void.
pub record IsDomain (seen : Seen) (domain : SlotDomain) : Type 0 where
  pub exact : members domain ≡ open_options seen (slot_of domain)
  pub filled : HasOption (members domain)

-- No slot stands twice.
abbrev pub StandOnce : List Slot → Type 0
StandOnce slots = (i j : ℕ) (slot : Slot) → slice_get slots i ≡ Some slot → slice_get slots j ≡ Some slot → i ≡ j

-- The slots are those of the atoms, each once, and the place of each atom is that of its slot.
pub record ArePlaces (atoms : List Atom) (slots : List Slot) (place_of : List ℕ) : Type 0 where
  pub count : length place_of ≡ length atoms
  pub at : (n : ℕ) (atom : Atom) → slice_get atoms n ≡ Some atom → slice_get slots (slice_index_or place_of n 0) ≡ Some atom.slot
  pub owned : (i : ℕ) (slot : Slot) → slice_get slots i ≡ Some slot → (n : ℕ) × (atom : Atom) × (slice_get atoms n ≡ Some atom) × (atom.slot ≡ slot)
  pub once : StandOnce slots

-- the atom of a node with a number, where there is such a node and it has one
abbrev pub atom_at : List Node → ℕ → Option (Option Atom)
atom_at graph node = option_map atom_of (slice_get graph node)

-- The place of each node that has an atom is that of its slot.
pub record AreNodePlaces (graph : List Node) (slots : List Slot) (place_of : List ℕ) : Type 0 where
  pub count : length place_of ≡ length graph
  pub at : (node : ℕ) (atom : Atom) → atom_at graph node ≡ Some (Some atom) → slice_get slots (slice_index_or place_of node 0) ≡ Some atom.slot

-- Each domain has all options of its slot.
abbrev pub AreFull : Table → List SlotDomain → Type 0
AreFull table domains = All (λ (d : SlotDomain). members d ≡ is_option table (slot_of d)) domains

-- Each assumption is on an atom, and the domain that it replaced has the slot of that atom, and exactly the options that the assumptions before it leave.
pub record AreReplaced (seen : Seen) (old : List SlotDomain) : Type 0 where
  pub depth : length old ≡ length seen.assumptions
  pub on : (k : ℕ) (p : ℕ × Bool) (d : SlotDomain) → k < length seen.assumptions →
      option_map (λ (atom : Atom). atom.slot) (slice_get seen.problem.atoms (slice_index_or seen.assumptions k p).0) ≡ Some (slot_of (slice_index_or old k d))
  pub domains : (k : ℕ) (d : SlotDomain) → k < length seen.assumptions → IsDomain (before seen k) (slice_index_or old k d)

-- The problem fits, the places are right, each domain is what the assumptions leave to its slot, and each replaced one what those before its assumption left.
pub record IsKept (seen : Seen) (domains : List SlotDomain) (place_of node_place_of : List ℕ) (old : List SlotDomain) : Type 0 where
  pub fits : problem_fits seen.table seen.problem ≡ true
  pub places : ArePlaces seen.problem.atoms (map slot_of domains) place_of
  pub nodes : AreNodePlaces seen.problem.graph (map slot_of domains) node_place_of
  pub exact : (i : ℕ) (d : SlotDomain) → i < length domains → IsDomain seen (slice_index_or domains i d)
  pub replaced : AreReplaced seen old
