-- A path leads where RFC 6901 says.
use Rattle.std.specs.Prelude.{◌≡◌, ℕ, ◌^◌, ◌<◌, List, Some, IsSome}
use Rattle.serde_json.specs.Data.{Data}
use Rattle.serde_json.specs.Find.{pointer, get, at, as_object, as_array}
use Rattle.json_shape.specs.Paths.{name_step, item_step}

-- From an object, the step of a name leads to the field with that name.
abbrev pub NameLaw : Type 0
NameLaw = (path name : List ℕ) (d node : Data) → pointer path d ≡ Some node → IsSome (as_object node) → pointer (name_step path name) d ≡ get name node

-- From an array, the step of a number leads to the item with that number.
abbrev pub ItemLaw : Type 0
ItemLaw = (path : List ℕ) (number : ℕ) (d node : Data) → number < 2 ^ 64 → pointer path d ≡ Some node → IsSome (as_array node) → pointer (item_step path number) d ≡ at number node

-- So each step that a path is made of leads where it says.
abbrev pub PathLaw : Type 0
PathLaw = NameLaw × ItemLaw
