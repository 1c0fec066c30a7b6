-- Contexts in which a problem is settled or open, and the atoms that are worth a split there.
use Rattle.std.specs.Prelude.{◌≡◌, List, Some, slice_get}
use Rattle.std.specs.List.{AllByRecursion, Contains}
use Rattle.key_table.specs.declared.atom.Atom.{Atom}
use Rattle.key_table.specs.declared.atom.Verdict3.TheVariants.{Entailed, Refuted, Undecided}
use Rattle.key_table.specs.Contexts.{Context, HasVerdict}
use Rattle.key_table.specs.Tables.{Table}
use Rattle.constraint_graph.specs.Graphs.{atoms_of}
use Rattle.rule_problem.specs.declared.problem.Literal.{Literal}
use Rattle.rule_problem.specs.declared.problem.Problem.{Problem}
use Rattle.rule_problem.specs.Goals.{GoalHasVerdict}
use Rattle.rule_problem.specs.Literals.{HasEntailed, HasRefuted}
use Rattle.rule_problem.specs.Quantifiers.{AnyByRecursion}
use Rattle.rule_problem.specs.Reasons.{Reason, ReasonHolds}

-- Each want has a path whose literals are all entailed, each bar has a refuted literal, and the goal is entailed.
pub record IsSettled (table : Table) (problem : Problem) (context : Context) : Type 0 where
  pub wants : AllByRecursion (HasEntailed table context problem.atoms) problem.wants
  pub bars : AllByRecursion (HasRefuted table context problem.atoms) problem.bars
  pub goal : GoalHasVerdict table context problem.graph problem.goal Entailed

-- No reason holds, so no slot is void either, and the context is not settled.
pub record IsOpen (table : Table) (problem : Problem) (context : Context) : Type 0 where
  pub no_reason : (reason : Reason) → ReasonHolds table problem context reason → ⊥
  pub unsettled : IsSettled table problem context → ⊥

-- Some literal of the path is on the atom.
abbrev pub StandsIn : List Atom → Atom → List Literal → Type 0
StandsIn atoms atom path = AnyByRecursion (λ literal. slice_get atoms literal.atom ≡ Some atom) path

-- The atom stands in the path, which has no refuted literal.
abbrev pub StandsInOpen : Table → Context → List Atom → Atom → List Literal → Type 0
StandsInOpen table context atoms atom path = StandsIn atoms atom path × (HasRefuted table context atoms path → ⊥)

-- The goal is neither entailed nor refuted.
abbrev pub GoalIsUndecided : Table → Problem → Context → Type 0
GoalIsUndecided table problem context = (¬ (GoalHasVerdict table context problem.graph problem.goal Entailed)) × (¬ (GoalHasVerdict table context problem.graph problem.goal Refuted))

-- Why an atom matters: it stands in a path without a refuted literal of a want that has no entailed path, it stands in a bar without a refuted literal, or it is one of the graph, whose goal is undecided.
pub data Matters (table : Table) (problem : Problem) (context : Context) (atom : Atom) : Type 0 where
  for_want : AnyByRecursion (λ paths. (HasEntailed table context problem.atoms paths → ⊥) × AnyByRecursion (StandsInOpen table context problem.atoms atom) paths) problem.wants → Matters table problem context atom
  for_bar : AnyByRecursion (StandsInOpen table context problem.atoms atom) problem.bars → Matters table problem context atom
  for_goal : GoalIsUndecided table problem context → Contains (atoms_of problem.graph) atom → Matters table problem context atom

-- An atom is live where it is undecided and matters.
pub record IsLive (table : Table) (problem : Problem) (context : Context) (atom : Atom) : Type 0 where
  pub undecided : HasVerdict table context atom Undecided
  pub matters : Matters table problem context atom
