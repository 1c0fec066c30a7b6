-- How a context stands: a reason holds, all is met, or neither.
use Rattle.std.specs.Prelude.{◌≡◌, ℕ, ◌<◌, ◌^◌, length, slice_get, Some}
use Rattle.key_table.specs.declared.atom.Atom.{Atom}
use Rattle.rule_problem.specs.declared.problem.Problem.{Problem}
use Rattle.rule_problem.specs.Distinct.{place_in}
use Rattle.rule_problem.specs.Open.{IsSettled, IsOpen}
use Rattle.domain_store.specs.Stores.{Seen, context_of}
use Rattle.domain_store.specs.Verdicts.{HasGoalVerdict}
use Rattle.rule_search.specs.Retracing.{IsReason}
use Rattle.rule_search.specs.declared.judging.Standing.{Standing}
use Rattle.rule_search.specs.declared.judging.Standing.TheVariants.{Closed, Settled, Open}

-- Each atom, want and bar of the problem has a number that items can name, and an atom is found by its number.
pub record AreNumbered (problem : Problem) : Type 0 where
  pub atoms : length problem.atoms < 2 ^ 32
  pub wants : length problem.wants < 2 ^ 32
  pub bars : length problem.bars < 2 ^ 32
  pub places : (n : ℕ) (atom : Atom) → slice_get problem.atoms n ≡ Some atom → place_in problem.atoms atom ≡ n

-- A reason that holds names no atom here, since no slot is void under the assumptions of a store.
abbrev pub Stands : Seen → Standing → Type 0
Stands seen (Closed item) = IsReason seen item
Stands seen Settled = IsSettled seen.table seen.problem (context_of seen)
Stands seen (Open goal) = IsOpen seen.table seen.problem (context_of seen) × HasGoalVerdict seen goal
