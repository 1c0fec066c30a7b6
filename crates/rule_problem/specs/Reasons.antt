-- Reasons: why no payment that has a context's truths satisfies a problem.
use Rattle.std.specs.Prelude.{ℕ, List, slice_get}
use Rattle.std.specs.Option.{IsSomeAnd}
use Rattle.key_table.specs.declared.atom.Atom.{Atom}
use Rattle.key_table.specs.declared.atom.Verdict3.TheVariants.{Refuted}
use Rattle.key_table.specs.Contexts.{Context, IsVoid}
use Rattle.key_table.specs.Tables.{Table}
use Rattle.rule_problem.specs.declared.certificate.Item.{Item}
use Rattle.rule_problem.specs.declared.certificate.Item.TheVariants.{Split, Void, Want, Bar, Goal, Todo}
use Rattle.rule_problem.specs.declared.problem.Problem.{Problem}
use Rattle.rule_problem.specs.Goals.{GoalHasVerdict}
use Rattle.rule_problem.specs.Literals.{AreEntailed, AreRefuted}

-- The slot of an atom is void, or a want or a bar by its number fails, or the goal does.
pub data Reason : Type 0 where
  void : Atom → Reason
  want : ℕ → Reason
  bar : ℕ → Reason
  goal : Reason

-- A reason holds in a context: the atom's slot is void, each path of the want has a refuted literal, all literals of the bar are entailed, or the goal is refuted.
abbrev pub ReasonHolds : Table → Problem → Context → Reason → Type 0
ReasonHolds table problem context (void atom) = IsVoid table context atom.slot
ReasonHolds table problem context (want w) = IsSomeAnd (slice_get problem.wants w) (AreRefuted table context problem.atoms)
ReasonHolds table problem context (bar b) = IsSomeAnd (slice_get problem.bars b) (AreEntailed table context problem.atoms)
ReasonHolds table problem context goal = GoalHasVerdict table context problem.graph problem.goal Refuted

-- An item is a reason that holds in a context. `Void` names an atom of the certificate by its number; a number that names nothing is no reason, and neither is a split or a gap.
abbrev pub Holds : Table → Problem → List Atom → Context → Item → Type 0
Holds table problem atoms context (Void x) = IsSomeAnd (slice_get atoms x) (λ atom. ReasonHolds table problem context (void atom))
Holds table problem atoms context (Want w) = ReasonHolds table problem context (want w)
Holds table problem atoms context (Bar b) = ReasonHolds table problem context (bar b)
Holds table problem atoms context Goal = ReasonHolds table problem context goal
Holds table problem atoms context (Split x) = ⊥
Holds table problem atoms context Todo = ⊥
