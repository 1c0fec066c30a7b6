-- What is read within JSON with a count that goes on: at a field, of each item of a list, and for a word.
use Rattle.std.specs.Prelude.{ℕ, List, Option, Some, None}
use Rattle.serde_json.specs.Data.{Data}
use Rattle.json_shape.specs.Paths.{name_step}
use Rattle.json_shape.specs.Shapes.{field_of, optional_of, list_of}
use Rattle.json_shape.specs.Counted.{Reading, ◌>>=◌, pure, plain, Reader, each}
use Rattle.json_shape.specs.Fields as fields

-- what is read at the field with a name, of the object at a path
abbrev pub within_field : {S X : Type 0} → List ℕ → Reader S X → Reader S X
within_field name read path d = plain (field_of path name d) >>= read (name_step path name)

-- what is read of what is there
abbrev pub if_there : {S X : Type 0} → (Data → Reading S X) → Option Data → Reading S (Option X)
if_there read None = pure None
if_there read (Some d) = read d >>= λ x. pure (Some x)

-- what is read at the field with a name, of the object at a path, unless it is missing or null
abbrev pub within_optional : {S X : Type 0} → List ℕ → Reader S X → Reader S (Option X)
within_optional name read path d = plain (optional_of path name d) >>= if_there (read (name_step path name))

-- what is read of each item of the array at a path, of which there are at most so many
abbrev pub items : {S X : Type 0} → ℕ → Reader S X → Reader S (List X)
items most read path d = plain (list_of path most d) >>= each read path 0

-- what the string at a path names, and else the fault with a code there
abbrev pub word_of : {S X : Type 0} → ℕ → (List ℕ → Option X) → Reader S X
word_of code named path d = plain (fields.word_of code named path d)
