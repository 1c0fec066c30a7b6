-- Bounds of the amount in JSON.
use Rattle.std.specs.Prelude.{ℕ, ℤ, int_le, codes, Bool, true, Option, Some, None, Ok}
use Rattle.key_table.specs.Answers.{◌>>=◌, provided}
use Rattle.key_table.specs.Tables.{Table}
use Rattle.json_shape.specs.Paths.{name_step, fault}
use Rattle.json_shape.specs.Shapes.{whole_of}
use Rattle.json_shape.specs.Each.{Reader}
use Rattle.json_shape.specs.Fields.{within_optional}
use Rattle.connector_settings.specs.Fit.{is_number}

-- a whole number as a bound of a key, which has to be a number key
unfoldable pub amount_of : Table → ℕ → Reader ℤ
amount_of table key path d = do
  number ← whole_of path d
  _ ← provided (fault 6 path) (is_number table key)
  Ok number

-- whether the least amount is not above the greatest, where both are given
abbrev pub in_order : Option ℤ → Option ℤ → Bool
in_order (Some least) (Some greatest) = int_le least greatest
in_order (Some least) None = true
in_order None greatest = true

-- the least and the greatest amount, where they are given
unfoldable pub amounts_of : Table → ℕ → Reader (Option ℤ × Option ℤ)
amounts_of table key path d = do
  least ← within_optional (codes "minimum_amount") (amount_of table key) path d
  greatest ← within_optional (codes "maximum_amount") (amount_of table key) path d
  _ ← provided (fault 7 (name_step path (codes "minimum_amount"))) (in_order least greatest)
  Ok (least, greatest)
