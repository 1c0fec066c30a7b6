-- The keys of which settings speak.
use Rattle.std.specs.Prelude.{ℕ, List, length, codes, unwrap_or}
use Rattle.key_table.specs.Tables.{Table, find_key}
use Rattle.connector_settings.specs.declared.keys.Keys.{Keys}

-- The number of the key with a name, and where there is none a number of no key.
abbrev pub key_of : Table → List ℕ → ℕ
key_of table name = unwrap_or (find_key name table) (length table)

-- the numbers of these keys
abbrev pub keys_of : Table → Keys
keys_of table = record {
  method = key_of table (codes "payment_method");
  method_type = key_of table (codes "payment_method_type");
  network = key_of table (codes "card_network");
  currency = key_of table (codes "currency");
  country = key_of table (codes "billing_country");
  amount = key_of table (codes "amount");
}
