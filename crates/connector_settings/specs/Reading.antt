-- The connector settings that JSON says, or its first fault. Fields are visited in the order in which they stand here.
use Rattle.std.specs.Prelude.{ℕ, ◌+◌, List, [], codes, nat_lt, false, if◌then◌else◌, Result, Ok, Err, ⊤, unwrap_or}
use Rattle.serde_json.specs.Data.{Data}
use Rattle.key_table.specs.Answers as answers
use Rattle.key_table.specs.Tables.{Table}
use Rattle.json_shape.specs.declared.error.ShapeError.{ShapeError}
use Rattle.json_shape.specs.Paths.{fault}
use Rattle.json_shape.specs.Shapes.{json_of}
use Rattle.json_shape.specs.Each as plainly
use Rattle.json_shape.specs.Fields as fields
use Rattle.json_shape.specs.Counted as counted
use Rattle.json_shape.specs.Counted.{◌>>=◌, pure, plain}
use Rattle.json_shape.specs.Counting.{within_optional, items}
use Rattle.connector_settings.specs.declared.keys.Keys.{Keys}
use Rattle.connector_settings.specs.declared.settings.TypeEntry.{TypeEntry}
use Rattle.connector_settings.specs.declared.settings.Method.{Method}
use Rattle.connector_settings.specs.declared.settings.Connector.{Connector}
use Rattle.connector_settings.specs.declared.settings.Settings.{Settings}
use Rattle.connector_settings.specs.declared.error.SettingsError.{SettingsError}
use Rattle.connector_settings.specs.Keys.{keys_of}
use Rattle.connector_settings.specs.Words.{field_or, text_of, flag_of, variant_of, variants_of}
use Rattle.connector_settings.specs.Acceptances.{acceptances_of}
use Rattle.connector_settings.specs.Amounts.{amounts_of}

-- what is read after so many type entries were begun, and how many were begun then
abbrev pub Reading : Type 0 → Type 0
Reading X = counted.Reading ℕ X

-- what the JSON at a path is, or its first fault
abbrev pub Reader : Type 0 → Type 0
Reader X = counted.Reader ℕ X

-- one more type entry, which stands at a path, and of which there may be 4,096 in all
unfoldable pub entry_begun : List ℕ → Reading ⊤
entry_begun path begun = if nat_lt begun 4096 then Ok (tt, begun + 1) else Err (fault 5 path)

-- what a type entry says
unfoldable pub entry_in : Table → Keys → plainly.Reader TypeEntry
entry_in table keys path d =
    answers.◌>>=◌ (fields.within_field (codes "payment_method_type") (variant_of table keys.method_type) path d) (λ method_type.
    answers.◌>>=◌ (field_or [] (codes "card_networks") (variants_of table keys.network) path d) (λ networks.
    answers.◌>>=◌ (acceptances_of table keys path d) (λ accepted.
    answers.◌>>=◌ (amounts_of table keys.amount path d) (λ amounts.
    Ok (record { method_type = method_type; networks = networks; currencies = accepted.0; countries = accepted.1; minimum = amounts.0; maximum = amounts.1 })))))

-- a type entry
unfoldable pub entry_of : Table → Keys → Reader TypeEntry
entry_of table keys path d = do
  _ ← entry_begun path
  plain (entry_in table keys path d)

-- the items of the field with a name, of which there are at most 4,096, none where it is missing or null
abbrev pub items_or_none : {X : Type 0} → List ℕ → Reader X → Reader (List X)
items_or_none name read path d = within_optional name (items 4096 read) path d >>= λ o. pure (unwrap_or o [])

-- a method with its type entries
unfoldable pub method_of : Table → Keys → Reader Method
method_of table keys path d = do
  method ← plain (fields.within_field (codes "payment_method") (variant_of table keys.method) path d)
  types ← items_or_none (codes "payment_method_types") (entry_of table keys) path d
  pure (record { method = method; types = types })

-- a connector with its methods
unfoldable pub connector_of : Table → Keys → Reader Connector
connector_of table keys path d = do
  name ← plain (fields.within_field (codes "connector_name") text_of path d)
  id ← plain (fields.within_optional (codes "merchant_connector_id") text_of path d)
  disabled ← plain (field_or false (codes "disabled") flag_of path d)
  methods ← items_or_none (codes "payment_methods_enabled") (method_of table keys) path d
  pure (record { name = name; id = id; disabled = disabled; methods = methods })

-- all connectors
abbrev pub settings_in : Table → Data → Reading Settings
settings_in table d = items 256 (connector_of table (keys_of table)) [] d >>= λ connectors. pure (record { connectors = connectors })

-- the settings that the bytes are, or the first fault
abbrev pub settings_or_fault : Table → List ℕ → Result Settings ShapeError
settings_or_fault table bytes = answers.◌>>=◌ (json_of bytes) (λ d. answers.◌>>=◌ (settings_in table d 0) (λ read. Ok read.0))

-- a fault of settings as the error of this crate
abbrev pub widened : Result Settings ShapeError → Result Settings SettingsError
widened (Ok settings) = Ok settings
widened (Err error) = Err (record { code = error.code; path = error.path })

-- The settings that a file is, or its first fault: 1 NotJson, 2 Missing, 3 WrongShape, 4 NotWhole, 5 Limit, 6 UnknownWord, 7 BadRange.
abbrev pub settings_of : Table → List ℕ → Result Settings SettingsError
settings_of table bytes = widened (settings_or_fault table bytes)
