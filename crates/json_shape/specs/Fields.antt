-- What is read within JSON: at a field, of each item of a list, and for a word.
use Rattle.std.specs.Prelude.{ℕ, List, Option, Some, None, Result, Ok}
use Rattle.serde_json.specs.Data.{Data}
use Rattle.serde_json.specs.Find.{as_str}
use Rattle.key_table.specs.Answers.{◌>>=◌, or_fault}
use Rattle.json_shape.specs.declared.error.ShapeError.{ShapeError}
use Rattle.json_shape.specs.Paths.{name_step, fault}
use Rattle.json_shape.specs.Shapes.{field_of, optional_of, list_of}
use Rattle.json_shape.specs.Each.{Reader, each}

-- what is read at the field with a name, of the object at a path
abbrev pub within_field : {X : Type 0} → List ℕ → Reader X → Reader X
within_field name read path d = field_of path name d >>= read (name_step path name)

-- what is read of what is there
abbrev pub if_there : {X : Type 0} → (Data → Result X ShapeError) → Option Data → Result (Option X) ShapeError
if_there read None = Ok None
if_there read (Some d) = read d >>= λ x. Ok (Some x)

-- what is read at the field with a name, of the object at a path, unless it is missing or null
abbrev pub within_optional : {X : Type 0} → List ℕ → Reader X → Reader (Option X)
within_optional name read path d = optional_of path name d >>= if_there (read (name_step path name))

-- what is read of each item of the array at a path, of which there are at most so many
abbrev pub items : {X : Type 0} → ℕ → Reader X → Reader (List X)
items most read path d = list_of path most d >>= each read path 0

-- what the string at a path names, and else the fault with a code there
abbrev pub word_of : {X : Type 0} → ℕ → (List ℕ → Option X) → Reader X
word_of code named path d = or_fault (fault 3 path) (as_str d) >>= λ word. or_fault (fault code path) (named word)
