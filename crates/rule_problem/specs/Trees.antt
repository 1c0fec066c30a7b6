-- Trees of splits, as items spell them in preorder, and when they prove that no payment satisfies a problem.
use Rattle.std.specs.Prelude.{◌≡◌, ℕ, ◌+◌, Bool, List, [], ◌∷◌, ◌++◌, true, false}
use Rattle.key_table.specs.declared.atom.Atom.{Atom}
use Rattle.key_table.specs.Contexts.{Context, assume}
use Rattle.key_table.specs.Tables.{Table}
use Rattle.rule_problem.specs.declared.certificate.Item.{Item}
use Rattle.rule_problem.specs.declared.certificate.Item.TheVariants.{Split, Void, Want, Bar, Goal, Todo}
use Rattle.rule_problem.specs.declared.problem.Problem.{Problem}
use Rattle.rule_problem.specs.Distinct.{firsts, place_in}
use Rattle.rule_problem.specs.Reasons.{Reason, void, want, bar, goal, ReasonHolds}

-- A part that is missing, a reason, or a split on an atom with what follows where it is true, and where it is false.
pub data Tree : Type 0 where
  missing : Tree
  closed : Reason → Tree
  split : Atom → Tree → Tree → Tree

-- the item of a reason, where each atom has a number
abbrev pub item_of : (Atom → ℕ) → Reason → Item
item_of number (void atom) = Void (number atom)
item_of number (want w) = Want w
item_of number (bar b) = Bar b
item_of number goal = Goal

-- the items of a tree in preorder
abbrev pub items_of : (Atom → ℕ) → Tree → List Item
items_of number missing = Todo ∷ []
items_of number (closed reason) = item_of number reason ∷ []
items_of number (split atom left right) = Split (number atom) ∷ (items_of number left ++ items_of number right)

-- the atom that a reason names
abbrev pub named_by : Reason → List Atom
named_by (void atom) = atom ∷ []
named_by (want w) = []
named_by (bar b) = []
named_by goal = []

-- the atoms that the items name, in order
abbrev pub named_in : Tree → List Atom
named_in missing = []
named_in (closed reason) = named_by reason
named_in (split atom left right) = atom ∷ (named_in left ++ named_in right)

-- The items spell the tree: the atoms stand in order of first naming, and each item has its atom's place among them.
pub record Spells (atoms : List Atom) (items : List Item) (tree : Tree) : Type 0 where
  pub atoms_are : atoms ≡ firsts (named_in tree)
  pub items_are : items ≡ items_of (place_in atoms) tree

abbrev pub is_split : Item → Bool
is_split (Split x) = true
is_split _ = false

-- how many splits a tree has
abbrev pub split_count : Tree → ℕ
split_count missing = 0
split_count (closed reason) = 0
split_count (split atom left right) = 1 + (split_count left + split_count right)

-- A tree proves where each of its leaves is a reason that holds under the splits above it.
abbrev pub TreeProves : Table → Problem → Context → Tree → Type 0
TreeProves table problem context missing = ⊥
TreeProves table problem context (closed reason) = ReasonHolds table problem context reason
TreeProves table problem context (split atom left right) = TreeProves table problem (context ++ assume atom true ∷ []) left × TreeProves table problem (context ++ assume atom false ∷ []) right
