-- Items that name atoms by their numbers in a problem, and the same items with numbers among those that are named.
use Rattle.std.specs.Prelude.{ℕ, List, [], ◌∷◌, ◌++◌, ◌==◌, if◌then◌else◌, Option, Some, None, fold}
use Rattle.std.specs.List.{list_any, position_or_len, filter_map}
use Rattle.rule_problem.specs.declared.certificate.Item.{Item}
use Rattle.rule_problem.specs.declared.certificate.Item.TheVariants.{Split, Void, Want, Bar, Goal, Todo}

-- the number of the atom that an item names
abbrev pub atom_of : Item → Option ℕ
atom_of (Split x) = Some x
atom_of (Void x) = Some x
atom_of _ = None

-- the numbers that the items name, in order
abbrev pub numbers_of : List Item → List ℕ
numbers_of items = filter_map atom_of items

-- the numbers with one more, if it is not there yet
abbrev pub with_number : List ℕ → ℕ → List ℕ
with_number xs x = if list_any (λ y. x == y) xs then xs else xs ++ x ∷ []

-- each number once, in order of first standing
abbrev pub firsts : List ℕ → List ℕ
firsts xs = fold with_number [] xs

-- the place of a number in a list
abbrev pub place_of : List ℕ → ℕ → ℕ
place_of numbers x = position_or_len (λ y. x == y) numbers

abbrev pub renumbered : (ℕ → ℕ) → Item → Item
renumbered number (Split x) = Split (number x)
renumbered number (Void x) = Void (number x)
renumbered number (Want w) = Want w
renumbered number (Bar b) = Bar b
renumbered number Goal = Goal
renumbered number Todo = Todo
