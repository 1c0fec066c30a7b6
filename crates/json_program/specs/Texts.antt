-- Texts in a program, and fields that have two names.
use Rattle.std.specs.Prelude.{ℕ, List, ◌&&◌, if◌then◌else◌, is_none, is_some}
use Rattle.serde_json.specs.Data.{Data}
use Rattle.serde_json.specs.Find.{get}
use Rattle.json_shape.specs.Shapes.{short_text_of}
use Rattle.json_shape.specs.Each.{Reader}

-- a text of at most 255 bytes
abbrev pub text_of : Reader (List ℕ)
text_of path d = short_text_of path 255 d

-- the second name of a field where it is there and the first is missing, and else the first
abbrev pub name_in : List ℕ → List ℕ → Data → List ℕ
name_in first second d = if is_none (get first d) && is_some (get second d) then second else first
