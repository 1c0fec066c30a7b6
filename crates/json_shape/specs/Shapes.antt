-- What stands at a place in JSON, or the fault there.
use Rattle.std.specs.Prelude.{ℕ, ℤ, List, [], ◌∷◌, length, nat_le, if◌then◌else◌, Option, Some, None, is_some, Result, Ok, Err}
use Rattle.std.specs.Str.{is_utf8}
use Rattle.serde_json.specs.Data.{Data, null, Items, no_items, item}
use Rattle.serde_json.specs.Find.{get, as_object, as_str, as_array, as_number, as_i64}
use Rattle.serde_json.specs.Read as json
use Rattle.key_table.specs.Answers.{◌>>=◌, or_fault}
use Rattle.json_shape.specs.declared.error.ShapeError.{ShapeError}
use Rattle.json_shape.specs.Paths.{name_step, fault}

-- the value that the bytes are
abbrev pub json_of : List ℕ → Result Data ShapeError
json_of bytes = if is_utf8 bytes then or_fault (fault 1 []) (json.read bytes) else Err (fault 1 [])

-- the field with a name, of the object at a path
abbrev pub field_of : List ℕ → List ℕ → Data → Result Data ShapeError
field_of path name d = if is_some (as_object d) then or_fault (fault 2 (name_step path name)) (get name d) else Err (fault 3 path)

-- what is there, where null is as much as nothing
abbrev pub unless_null : Option Data → Option Data
unless_null None = None
unless_null (Some null) = None
unless_null (Some d) = Some d

-- the field with a name, of the object at a path, unless it is missing or null
abbrev pub optional_of : List ℕ → List ℕ → Data → Result (Option Data) ShapeError
optional_of path name d = if is_some (as_object d) then Ok (unless_null (get name d)) else Err (fault 3 path)

-- a list that has at most so many items
abbrev pub within : {A : Type 0} → List ℕ → ℕ → List A → Result (List A) ShapeError
within path most xs = if nat_le (length xs) most then Ok xs else Err (fault 5 path)

-- the string at a path, of at most so many bytes
abbrev pub short_text_of : List ℕ → ℕ → Data → Result (List ℕ) ShapeError
short_text_of path most d = or_fault (fault 3 path) (as_str d) >>= within path most

-- the signed 64-bit whole number at a path
abbrev pub whole_of : List ℕ → Data → Result ℤ ShapeError
whole_of path d = or_fault (fault 3 path) (as_number d) >>= λ n. or_fault (fault 4 path) (as_i64 n)

-- the items as a list
abbrev pub listed : Items → List Data
listed no_items = []
listed (item d ds) = d ∷ listed ds

-- the items of the array at a path, of which there are at most so many
abbrev pub list_of : List ℕ → ℕ → Data → Result (List Data) ShapeError
list_of path most d = or_fault (fault 3 path) (as_array d) >>= λ ds. within path most (listed ds)
