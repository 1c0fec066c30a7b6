-- What contracts see of a store, and the context in which it stands.
use Rattle.std.specs.Prelude.{ℕ, List, [], ◌∷◌, ◌++◌, take, Bool, option_map, slice_get}
use Rattle.std.specs.List.{filter_map}
use Rattle.key_table.specs.declared.atom.Atom.{Atom}
use Rattle.key_table.specs.declared.slot.Slot.{Slot}
use Rattle.key_table.specs.Contexts.{Context, assume, left}
use Rattle.key_table.specs.OptionSets.{Options, HasOption}
use Rattle.key_table.specs.Tables.{Table}
use Rattle.rule_problem.specs.declared.problem.Problem.{Problem}

-- A table, a problem, and assumptions: numbers of the problem's atoms with the truths that they are taken to have.
pub record Seen : Type 0 where
  pub table : Table
  pub problem : Problem
  pub assumptions : List (ℕ × Bool)

-- assumptions with atoms in place of their numbers
abbrev pub assumed : List Atom → List (ℕ × Bool) → Context
assumed atoms assumptions = filter_map (λ (a : ℕ × Bool). option_map (λ atom. assume atom a.1) (slice_get atoms a.0)) assumptions

-- the context of the assumptions
abbrev pub context_of : Seen → Context
context_of seen = assumed seen.problem.atoms seen.assumptions

-- the options that the assumptions leave to a slot
abbrev pub open_options : Seen → Slot → Options
open_options seen slot = left seen.table (context_of seen) slot

-- No slot is void.
abbrev pub HasNoVoid : Seen → Type 0
HasNoVoid seen = (slot : Slot) → HasOption (open_options seen slot)

-- with one more assumption, which stands last
abbrev pub more : Seen → ℕ → Bool → Seen
more seen n truth = record seen { assumptions = seen.assumptions ++ (n, truth) ∷ [] }

-- with so many of the first assumptions alone
abbrev pub before : Seen → ℕ → Seen
before seen n = record seen { assumptions = take n seen.assumptions }
