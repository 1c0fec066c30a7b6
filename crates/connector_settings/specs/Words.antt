-- Words and other fields of settings in JSON.
use Rattle.std.specs.Prelude.{ℕ, List, Bool, Ok, unwrap_or}
use Rattle.serde_json.specs.Find.{as_bool}
use Rattle.key_table.specs.Answers.{◌>>=◌, or_fault}
use Rattle.key_table.specs.Tables.{Table, find_variant}
use Rattle.json_shape.specs.Paths.{fault}
use Rattle.json_shape.specs.Shapes.{short_text_of}
use Rattle.json_shape.specs.Each.{Reader}
use Rattle.json_shape.specs.Fields.{within_optional, items, word_of}

-- what is read at the field with a name, or what stands for it where it is missing or null
abbrev pub field_or : {X : Type 0} → X → List ℕ → Reader X → Reader X
field_or missing name read path d = within_optional name read path d >>= λ o. Ok (unwrap_or o missing)

-- a text of at most 255 bytes
abbrev pub text_of : Reader (List ℕ)
text_of path d = short_text_of path 255 d

-- a boolean
abbrev pub flag_of : Reader Bool
flag_of path d = or_fault (fault 3 path) (as_bool d)

-- the variant of a key that the string at a path names
abbrev pub variant_of : Table → ℕ → Reader ℕ
variant_of table key = word_of 6 (λ word. find_variant key word table)

-- a list of at most 4,096 words
abbrev pub variants_of : Table → ℕ → Reader (List ℕ)
variants_of table key = items 4096 (variant_of table key)
