-- What a search finds under assumptions, with a budget of splits.
use Rattle.std.specs.Prelude.{◌≡◌, ℕ, ◌≤◌, ◌<◌, List, [], ◌++◌}
use Rattle.std.specs.List.{Contains}
use Rattle.key_table.specs.declared.atom.Atom.{Atom}
use Rattle.rule_problem.specs.declared.certificate.Item.{Item}
use Rattle.rule_problem.specs.Open.{IsSettled, IsOpen}
use Rattle.rule_problem.specs.Traces.{AreProper, IsCut}
use Rattle.rule_problem.specs.Trees.{Tree, missing, closed, split, split_count, named_by}
use Rattle.domain_store.specs.Stores.{Seen, context_of}
use Rattle.rule_search.specs.declared.solving.Outcome.{Outcome}
use Rattle.rule_search.specs.declared.solving.Outcome.TheVariants.{Reach, Never, Spent}
use Rattle.rule_search.specs.declared.solving.Next.{Next}
use Rattle.rule_search.specs.declared.solving.Next.TheVariants.{Ends, Splits}
use Rattle.rule_search.specs.Choosing.{IsLiveAt}
use Rattle.rule_search.specs.Retracing.{items_in, ProvesAt}

-- Each split is on one of the atoms, and no reason names an atom.
abbrev pub SplitsOn : List Atom → Tree → Type 0
SplitsOn atoms missing = Unit {0}
SplitsOn atoms (closed reason) = named_by reason ≡ []
SplitsOn atoms (split atom left right) = Contains atoms atom × SplitsOn atoms left × SplitsOn atoms right

-- The items have grown by those of a tree that proves, whose splits are so many, proper, and at most as many as the budget.
pub record Refutes (at : Seen) (budget : ℕ) (old new : List Item) (splits : ℕ) : Type 0 where
  pub tree : Tree
  pub spelled : new ≡ old ++ items_in at tree
  pub named : SplitsOn at.problem.atoms tree
  pub count : split_count tree ≡ splits
  pub proves : ProvesAt at tree
  pub proper : AreProper at.table at.problem (context_of at) tree
  pub few : splits ≤ budget

-- The items have grown by those of a tree that is cut short, whose splits are proper and exactly as many as the budget.
pub record CutsShort (at : Seen) (budget : ℕ) (old new : List Item) : Type 0 where
  pub tree : Tree
  pub spelled : new ≡ old ++ items_in at tree
  pub named : SplitsOn at.problem.atoms tree
  pub cut : IsCut at.table at.problem (context_of at) tree
  pub proper : AreProper at.table at.problem (context_of at) tree
  pub exact : split_count tree ≡ budget

-- The stores are of one table and one problem.
pub record IsOfSame (old new : Seen) : Type 0 where
  pub table : new.table ≡ old.table
  pub problem : new.problem ≡ old.problem

-- The store is one of the same problem, which its assumptions settle.
pub record Settles (at now : Seen) : Type 0 where
  pub table : now.table ≡ at.table
  pub problem : now.problem ≡ at.problem
  pub settled : IsSettled at.table at.problem (context_of now)

-- What is found under the assumptions `at`: the store now settles the problem; or it is as it was before, and the items have grown by a proof that no payment has the truths of these assumptions, or by a trace of this very budget.
abbrev pub Finds : (at before now : Seen) → ℕ → List Item → List Item → Outcome → Type 0
Finds at before now budget old new Reach = Settles at now
Finds at before now budget old new (Never splits) = (now ≡ before) × Refutes at budget old new splits
Finds at before now budget old new Spent = (now ≡ before) × CutsShort at budget old new

-- A split is left to spend under open assumptions, and its atom is live.
pub record MaySplit (at : Seen) (budget : ℕ) (old new : List Item) (n : ℕ) : Type 0 where
  pub items : new ≡ old
  pub room : 0 < budget
  pub is_open : IsOpen at.table at.problem (context_of at)
  pub live : IsLiveAt at n

-- What is found at once, or may be split on.
abbrev pub Continues : Seen → ℕ → List Item → List Item → Next → Type 0
Continues at budget old new (Ends outcome) = Finds at at at budget old new outcome
Continues at budget old new (Splits n) = MaySplit at budget old new n
