-- Assumptions in chains, so that those on one slot are found without going over all of them.
use Rattle.std.specs.Prelude.{◌≡◌, ℕ, ◌+◌, ◌*◌, ◌%◌, ◌<◌, ◌==◌, List, length, drop, take, map, fold, slice_get, slice_index_or, Bool, false, Option, Some, None}
use Rattle.std.specs.List.{list_any}
use Rattle.std.specs.Option.{option_map_or}
use Rattle.key_table.specs.declared.atom.Atom.{Atom}
use Rattle.key_table.specs.declared.slot.Slot.{Slot}
use Rattle.contradiction_checker.specs.declared.options.Assumed.{Assumed}

-- a number with one more byte
abbrev pub with_byte : ℕ → ℕ → ℕ
with_byte number byte = (number * 31 + byte) % 16777213

-- A number of a slot, which few other slots have: its key and the bytes of its sub name in one.
abbrev pub slot_number : ℕ → Option (List ℕ) → ℕ
slot_number key None = key
slot_number key (Some sub) = fold with_byte key sub

-- the chain of a slot, where there are so many chains and one more
abbrev pub chain_of : ℕ → Slot → ℕ
chain_of count slot = slot_number slot.key slot.sub % (count + 1)

-- the chain of an atom by its number
abbrev pub chain_at : List Atom → ℕ → ℕ → ℕ
chain_at atoms count atom = option_map_or (λ (a : Atom). chain_of count a.slot) (slice_get atoms atom) 0

-- whether an atom by its number is in a chain
abbrev pub is_in : List Atom → ℕ → ℕ → ℕ → Bool
is_in atoms count chain atom = chain_at atoms count atom == chain

-- From a place on, no atom is in a chain.
abbrev pub EndsBy : List Atom → ℕ → ℕ → List ℕ → ℕ → Type 0
EndsBy atoms count chain numbers end = list_any (is_in atoms count chain) (drop end numbers) ≡ false

-- the numbers of the atoms of assumptions
abbrev pub numbers_of : List Assumed → List ℕ
numbers_of assumed = map (λ (a : Assumed). a.atom) assumed

-- Atoms are linked: for each there is a place before it by which those of its chain before it end, and for each chain that has a head a place by which all of it end.
pub record AreLinked (atoms : List Atom) (count : ℕ) (numbers before heads : List ℕ) : Type 0 where
  pub lengths : length before ≡ length numbers
  pub linked : (k : ℕ) → k < length numbers → EndsBy atoms count (chain_at atoms count (slice_index_or numbers k 0)) (take k numbers) (slice_index_or before k 0)
  pub headed : (chain : ℕ) → chain < length heads → EndsBy atoms count chain numbers (slice_index_or heads chain 0)
