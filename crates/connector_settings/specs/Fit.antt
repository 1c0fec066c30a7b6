-- Whether settings fit a table.
use Rattle.std.specs.Prelude.{ℕ, ℤ, nat_lt, nat_le, List, length, Bool, true, false, ◌&&◌, Option}
use Rattle.std.specs.List.{list_all, sum_by}
use Rattle.std.specs.Option.{option_map_or}
use Rattle.key_table.specs.declared.key.Kind.{Kind}
use Rattle.key_table.specs.declared.key.Kind.TheVariants as kind
use Rattle.key_table.specs.Tables.{Table, variants_at, kind_at}
use Rattle.connector_settings.specs.declared.keys.Keys.{Keys}
use Rattle.connector_settings.specs.declared.settings.Accept.{Accept}
use Rattle.connector_settings.specs.declared.settings.Accept.TheVariants.{All, Only, Except}
use Rattle.connector_settings.specs.declared.settings.TypeEntry.{TypeEntry}
use Rattle.connector_settings.specs.declared.settings.Method.{Method}
use Rattle.connector_settings.specs.declared.settings.Connector.{Connector}
use Rattle.connector_settings.specs.declared.settings.Settings.{Settings}
use Rattle.connector_settings.specs.Keys.{keys_of}

-- whether it is the kind of an enum key
abbrev pub is_enum_kind : Kind → Bool
is_enum_kind kind.Enum = true
is_enum_kind _ = false

-- whether it is the kind of a number key
abbrev pub is_number_kind : Kind → Bool
is_number_kind kind.Number = true
is_number_kind _ = false

-- whether a key is an enum key of the table
abbrev pub is_enum : Table → ℕ → Bool
is_enum table key = option_map_or is_enum_kind (kind_at key table) false

-- whether a key is a number key of the table
abbrev pub is_number : Table → ℕ → Bool
is_number table key = option_map_or is_number_kind (kind_at key table) false

-- whether these are at most 4,096, each of which fits
abbrev pub list_fits : {X : Type 0} → (X → Bool) → List X → Bool
list_fits fits xs = nat_le (length xs) 4096 && list_all fits xs

-- whether a word is one of its key's variants
abbrev pub word_fits : Table → ℕ → ℕ → Bool
word_fits table key word = nat_lt word (length (variants_at key table))

-- whether these are words of a key
abbrev pub words_fit : Table → ℕ → List ℕ → Bool
words_fit table key words = list_fits (word_fits table key) words

-- Whether an acceptance is one of words of a key. A list wants an enum key, also an empty one.
abbrev pub accept_fits : Table → ℕ → Accept → Bool
accept_fits table key All = true
accept_fits table key (Only words) = is_enum table key && words_fit table key words
accept_fits table key (Except words) = is_enum table key && words_fit table key words

-- A bound that is given wants a number key.
abbrev pub bound_fits : Table → ℕ → Option ℤ → Bool
bound_fits table key bound = option_map_or (λ n. is_number table key) bound true

-- whether a type entry's words are variants of their keys, and its bounds have a number key
abbrev pub entry_fits : Table → Keys → TypeEntry → Bool
entry_fits table keys entry =
    word_fits table keys.method_type entry.method_type
    && (words_fit table keys.network entry.networks
    && (accept_fits table keys.currency entry.currencies
    && (accept_fits table keys.country entry.countries
    && (bound_fits table keys.amount entry.minimum
    && bound_fits table keys.amount entry.maximum))))

-- whether a method and its type entries fit
abbrev pub method_fits : Table → Keys → Method → Bool
method_fits table keys method = word_fits table keys.method method.method && list_fits (entry_fits table keys) method.types

-- whether a text has at most 255 bytes
abbrev pub is_short : List ℕ → Bool
is_short text = nat_le (length text) 255

-- whether a connector's name and id are short, and its methods fit
abbrev pub connector_fits : Table → Keys → Connector → Bool
connector_fits table keys connector =
    is_short connector.name
    && (option_map_or is_short connector.id true
    && list_fits (method_fits table keys) connector.methods)

-- how many type entries a connector has
abbrev pub entry_count : Connector → ℕ
entry_count connector = sum_by (λ (m : Method). length m.types) connector.methods

-- Whether these are at most 256 connectors with at most 4,096 type entries in all, each word is a variant of its key, and each list and bound has a key of its kind.
abbrev pub settings_fit : Table → Settings → Bool
settings_fit table settings =
    nat_le (length settings.connectors) 256
    && (nat_le (sum_by entry_count settings.connectors) 4096
    && list_all (connector_fits table (keys_of table)) settings.connectors)
