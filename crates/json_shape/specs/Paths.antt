-- Places in JSON as JSON Pointers (RFC 6901), and the faults there.
use Rattle.std.specs.Prelude.{ℕ, ◌==◌, List, [], ◌∷◌, ◌++◌, codes, decimal, flat_map, if◌then◌else◌}
use Rattle.json_shape.specs.declared.error.ShapeError.{ShapeError}

-- a byte of a name as a pointer has it: ~ is written ~0, and / is written ~1
abbrev pub escape : ℕ → List ℕ
escape c = if c == 126 then codes "~0" else (if c == 47 then codes "~1" else c ∷ [])

-- a name as a pointer has it
unfoldable pub escaped : List ℕ → List ℕ
escaped name = flat_map escape name

-- the place of the field with a name, in the object at a path
abbrev pub name_step : List ℕ → List ℕ → List ℕ
name_step path name = path ++ 47 ∷ escaped name

-- the place of the item with a number, in the array at a path
abbrev pub item_step : List ℕ → ℕ → List ℕ
item_step path number = path ++ 47 ∷ decimal number

-- the fault with a code at a path: 1 NotJson, 2 Missing, 3 WrongShape, 4 NotWhole, 5 Limit
abbrev pub fault : ℕ → List ℕ → ShapeError
fault code path = record { code = code; path = path }
