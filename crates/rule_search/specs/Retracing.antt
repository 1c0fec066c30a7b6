-- Items that are read again under fewer assumptions.
use Rattle.std.specs.Prelude.{◌≡◌, ℕ, List, [], ◌++◌, drop}
use Rattle.rule_problem.specs.declared.certificate.Item.{Item}
use Rattle.rule_problem.specs.Distinct.{place_in}
use Rattle.rule_problem.specs.Reasons.{Reason, ReasonHolds}
use Rattle.rule_problem.specs.Trees.{Tree, items_of, item_of, named_by, TreeProves}
use Rattle.domain_store.specs.Stores.{Seen, context_of}

-- The item is a reason that holds, and names no atom.
abbrev pub IsReason : Seen → Item → Type 0
IsReason seen item = (reason : Reason) × (item ≡ item_of (place_in seen.problem.atoms) reason) × ReasonHolds seen.table seen.problem (context_of seen) reason × (named_by reason ≡ [])

-- the items of a tree, each atom by its number in the problem
abbrev pub items_in : Seen → Tree → List Item
items_in seen tree = items_of (place_in seen.problem.atoms) tree

-- A tree proves in the context of the assumptions.
abbrev pub ProvesAt : Seen → Tree → Type 0
ProvesAt seen tree = TreeProves seen.table seen.problem (context_of seen) tree

-- Whichever tree the items from a place on begin with, it proves, and ends where said.
abbrev pub ProvesUpTo : Seen → List Item → ℕ → ℕ → Type 0
ProvesUpTo seen items at end = (tree : Tree) (rest : List Item) → drop at items ≡ items_in seen tree ++ rest → (drop end items ≡ rest) × ProvesAt seen tree

-- Whichever tree the items from a place on spell, it proves.
abbrev pub ProvesFrom : Seen → List Item → ℕ → Type 0
ProvesFrom seen items from = (tree : Tree) → drop from items ≡ items_in seen tree → ProvesAt seen tree
