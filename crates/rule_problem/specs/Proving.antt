-- When the items of a certificate prove that no payment satisfies a problem, and else which item fails.
use Rattle.std.specs.Prelude.{◌≡◌, ℕ, ◌+◌, ◌<◌, List, [], ◌∷◌, ◌++◌, length, true, false, Option, Some, None, Result, Ok, Err, slice_get, ◌⊎◌}
use Rattle.key_table.specs.declared.atom.Atom.{Atom}
use Rattle.key_table.specs.Contexts.{Context, assume}
use Rattle.key_table.specs.Tables.{Table}
use Rattle.rule_problem.specs.declared.problem.Problem.{Problem}
use Rattle.rule_problem.specs.declared.certificate.Certificate.{Certificate}
use Rattle.rule_problem.specs.declared.certificate.Item.{Item}
use Rattle.rule_problem.specs.declared.certificate.Item.TheVariants.{Split}
use Rattle.rule_problem.specs.Reasons.{Holds}

-- the atom that an item splits on
abbrev pub split_of : List Atom → Item → Option Atom
split_of atoms (Split x) = slice_get atoms x
split_of atoms _ = None

-- What the items from a number on come to in a context: the number of the item after them, or the number of the one that fails. An item that splits on no atom is to end a branch, as a reason that holds does.
pub data After (atoms : List Atom) (items : List Item) (Ends : Context → Item → Type 0) : Context → ℕ → Result ℕ ℕ → Type 0 where
  -- No item is left.
  over : {c : Context} {i : ℕ} → slice_get items i ≡ None → After atoms items Ends c i (Err i)
  -- It ends a branch.
  holds : {c : Context} {i : ℕ} (item : Item) → slice_get items i ≡ Some item → split_of atoms item ≡ None → Ends c item → After atoms items Ends c i (Ok (i + 1))
  -- It neither splits nor ends a branch.
  fails : {c : Context} {i : ℕ} (item : Item) → slice_get items i ≡ Some item → split_of atoms item ≡ None → (Ends c item → ⊥) → After atoms items Ends c i (Err i)
  -- It splits: what follows proves with the atom true, and what follows that comes to this with the atom false.
  splits : {c : Context} {i j : ℕ} {r : Result ℕ ℕ} (item : Item) (atom : Atom) → slice_get items i ≡ Some item → split_of atoms item ≡ Some atom → After atoms items Ends (c ++ assume atom true ∷ []) (i + 1) (Ok j) → After atoms items Ends (c ++ assume atom false ∷ []) j r → After atoms items Ends c i r
  -- It splits, and what follows fails with the atom true.
  fails_within : {c : Context} {i k : ℕ} (item : Item) (atom : Atom) → slice_get items i ≡ Some item → split_of atoms item ≡ Some atom → After atoms items Ends (c ++ assume atom true ∷ []) (i + 1) (Err k) → After atoms items Ends c i (Err k)

-- What all items come to, from the empty context on.
abbrev pub Comes : Table → Problem → Certificate → Result ℕ ℕ → Type 0
Comes table problem certificate r = After certificate.atoms certificate.items (Holds table problem certificate.atoms) [] 0 r

-- The items prove where no item fails and none is left over.
abbrev pub Proves : Table → Problem → Certificate → Type 0
Proves table problem certificate = Comes table problem certificate (Ok (length certificate.items))

-- An item fails, or it is the first one left over.
abbrev pub FailsAt : Table → Problem → Certificate → ℕ → Type 0
FailsAt table problem certificate i = Comes table problem certificate (Err i) ⊎ (Comes table problem certificate (Ok i) × (i < length certificate.items))
