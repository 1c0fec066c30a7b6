-- The atoms that a problem has of those that are shared.
use Rattle.std.specs.Prelude.{◌≡◌, ℕ, List, ◌++◌, length, map, fold, true, false, Some, None, slice_get}
use Rattle.key_table.specs.declared.atom.Atom.{Atom}
use Rattle.rule_problem.specs.declared.problem.Literal.{Literal}
use Rattle.rule_problem.specs.Distinct.{is_among, are_distinct, with_atom}
use Rattle.rule_report.specs.declared.taken.Taken.{Taken}
use Rattle.rule_report.specs.Paths.{Path, joined}
use Rattle.rule_report.specs.Targets.{said, all_true}

-- No shared atom stands twice. One with a number is the problem's atom with it, and one without is not among the problem's.
pub record IsTaking (shared : List Atom) (taken : Taken) : Type 0 where
  pub distinct : are_distinct shared ≡ true
  pub one_each : length taken.numbers.items ≡ length shared
  pub right : (place number : ℕ) (atom : Atom) → slice_get taken.numbers.items place ≡ Some (Some number) → slice_get shared place ≡ Some atom → slice_get taken.atoms number ≡ Some atom
  pub rest : (place : ℕ) (atom : Atom) → slice_get taken.numbers.items place ≡ Some None → slice_get shared place ≡ Some atom → is_among taken.atoms atom ≡ false

-- Paths came to those that were there, and their atoms to the atoms.
pub record IsAdded (old : List Atom) (came : List Path) (new : List Atom) (there more : List (List Literal)) : Type 0 where
  pub last : List (List Literal)
  pub behind_them : more ≡ there ++ last
  pub says : map (said new) last ≡ map all_true came
  pub atoms : new ≡ fold with_atom old (joined came)
