-- What a search may answer on a problem with a budget of splits.
use Rattle.std.specs.Prelude.{◌≡◌, ℕ, ◌≤◌, List, [], length, true, None}
use Rattle.std.specs.List.{All, Contains}
use Rattle.key_table.specs.declared.atom.Atom.{Atom}
use Rattle.key_table.specs.declared.slot.Slot.{Slot}
use Rattle.key_table.specs.Payments.{Entries, value_of}
use Rattle.key_table.specs.Tables.{Table}
use Rattle.rule_problem.specs.declared.certificate.Certificate.{Certificate}
use Rattle.rule_problem.specs.declared.certificate.Report.{Report}
use Rattle.rule_problem.specs.declared.certificate.Report.TheVariants.{Reach, Never, Spent}
use Rattle.rule_problem.specs.declared.problem.Problem.{Problem}
use Rattle.rule_problem.specs.Problems.{sat}
use Rattle.rule_problem.specs.Proving.{Proves}
use Rattle.rule_problem.specs.Traces.{AreProper, IsTrace}
use Rattle.rule_problem.specs.Trees.{Tree, split_count, Spells, TreeProves}

-- The payment satisfies the problem, and has values at slots of the problem's atoms alone.
pub record IsReached (table : Table) (problem : Problem) (payment : Entries) : Type 0 where
  pub satisfies : sat table problem payment ≡ true
  pub others : (slot : Slot) → ((atom : Atom) → Contains problem.atoms atom → slot ≡ atom.slot → ⊥) → value_of slot payment ≡ None

-- The items prove that no payment satisfies the problem. They spell a tree that proves, whose splits are proper and at most as many as the budget.
pub record IsNever (table : Table) (problem : Problem) (budget : ℕ) (certificate : Certificate) : Type 0 where
  pub proves : Proves table problem certificate
  pub tree : Tree
  pub spelled : Spells certificate.atoms certificate.items tree
  pub tree_proves : TreeProves table problem [] tree
  pub proper : AreProper table problem [] tree
  pub few : split_count tree ≤ budget

-- A payment that satisfies the problem, a certificate that none does, or a trace of this very budget.
abbrev pub IsReport : Table → Problem → ℕ → Report → Type 0
IsReport table problem budget (Reach payment) = IsReached table problem payment
IsReport table problem budget (Never certificate) = IsNever table problem budget certificate
IsReport table problem budget (Spent trace) = IsTrace table problem budget trace

-- The atoms are the problem's, and at most as many as the budget.
pub record AreNamed (problem : Problem) (budget : ℕ) (atoms : List Atom) : Type 0 where
  pub of_problem : All (Contains problem.atoms) atoms
  pub few : length atoms ≤ budget

-- What a certificate or a trace names.
abbrev pub NamesFew : Problem → ℕ → Report → Type 0
NamesFew problem budget (Reach payment) = Unit {0}
NamesFew problem budget (Never certificate) = AreNamed problem budget certificate.atoms
NamesFew problem budget (Spent trace) = AreNamed problem budget trace.atoms
