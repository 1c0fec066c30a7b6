-- Laws of problems that fit, and of contexts.
use Rattle.std.specs.Prelude.{◌≡◌, ℕ, List, true}
use Rattle.std.specs.List.{Contains}
use Rattle.key_table.specs.declared.atom.Atom.{Atom}
use Rattle.key_table.specs.declared.atom.Verdict3.{Verdict3}
use Rattle.key_table.specs.Atoms.{atom_fits}
use Rattle.key_table.specs.Contexts.{Assumption, Context, HasVerdict}
use Rattle.key_table.specs.Options.{holds_on}
use Rattle.key_table.specs.Payments.{Entries, is_legal}
use Rattle.key_table.specs.Tables.{Table}
use Rattle.constraint_graph.specs.declared.node.Node.{Node}
use Rattle.constraint_graph.specs.Laws.{OfEach}
use Rattle.rule_problem.specs.declared.problem.Problem.{Problem}
use Rattle.rule_problem.specs.Goals.{GoalHasVerdict}
use Rattle.rule_problem.specs.Open.{IsSettled, IsOpen, IsLive}
use Rattle.rule_problem.specs.Problems.{problem_fits, sat}

-- Where a problem fits, each of its atoms fits the table.
abbrev pub AtomsFitLaw : Type 0
AtomsFitLaw = (table : Table) (problem : Problem) → problem_fits table problem ≡ true → (atom : Atom) → Contains problem.atoms atom → atom_fits table atom ≡ true

-- Where a problem fits, each atom of its graph is one of the problem's.
abbrev pub GraphFitsLaw : Type 0
GraphFitsLaw = (table : Table) (problem : Problem) → problem_fits table problem ≡ true → OfEach (Contains problem.atoms) problem.graph

-- A node has at most one verdict in a context.
abbrev pub GoalLaw : Type 0
GoalLaw = (table : Table) (context : Context) (graph : List Node) (goal : ℕ) (v w : Verdict3) → GoalHasVerdict table context graph goal v → GoalHasVerdict table context graph goal w → v ≡ w

-- A legal payment that has the truths of a settled context satisfies the problem.
abbrev pub SettledLaw : Type 0
SettledLaw = (table : Table) (problem : Problem) (context : Context) (payment : Entries) → IsSettled table problem context → is_legal table payment ≡ true → ((a : Assumption) → Contains context a → holds_on a.atom payment ≡ a.truth) → sat table problem payment ≡ true

-- At an open context it cannot be that no atom is live.
abbrev pub LiveLaw : Type 0
LiveLaw = (table : Table) (problem : Problem) (context : Context) → problem_fits table problem ≡ true → IsOpen table problem context → ((atom : Atom) → IsLive table problem context atom → ⊥) → ⊥

-- Where the verdict of each of the problem's atoms is given, an open context has a live atom.
abbrev pub FoundLaw : Type 0
FoundLaw = (table : Table) (problem : Problem) (context : Context) (says : Atom → Verdict3) → problem_fits table problem ≡ true → ((atom : Atom) → Contains problem.atoms atom → HasVerdict table context atom (says atom)) → IsOpen table problem context → (atom : Atom) × IsLive table problem context atom
