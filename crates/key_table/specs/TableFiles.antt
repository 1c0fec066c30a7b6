-- Key table files: the table that a TOML document says, or its first fault.
use Rattle.std.specs.Prelude.{ℕ, ℤ, pos, negsuc, int_le, nat_lt, nat_le, List, [], ◌∷◌, ◌++◌, length, codes, bytes_eq, not, is_some, if◌then◌else◌, Option, Some, None, option_map, option_and_then, Result, Ok, Err}
use Rattle.std.specs.Str.{is_utf8}
use Rattle.toml.specs.Data.{Data, table, Items, no_items, item, get, as_str, as_integer, as_array, as_table}
use Rattle.toml.specs.Parse.{parse_document}
use Rattle.key_table.specs.declared.table.TableError.{TableError}
use Rattle.key_table.specs.Answers.{◌>>=◌, or_fault, provided}
use Rattle.key_table.specs.Names.{is_word, is_among}
use Rattle.key_table.specs.Tables.{Domain, variants, bounds, text, metadata, Table, names_in}

-- The bytes are no TOML.
abbrev pub not_toml : TableError
not_toml = record { code = 1; key = None }

-- a fault of the key with this number
abbrev pub fault : ℕ → ℕ → TableError
fault code key = record { code = code; key = Some key }

-- the document that the bytes are
abbrev pub document_of : List ℕ → Result Data TableError
document_of bytes = if is_utf8 bytes then or_fault not_toml (option_map table (parse_document bytes)) else Err not_toml

abbrev pub listed : Items → List Data
listed no_items = []
listed (item d ds) = d ∷ listed ds

-- A name: a word of at most 255 bytes. What is no string has the given code.
abbrev pub name_of : ℕ → ℕ → Data → Result (List ℕ) TableError
name_of other key d = do
  name ← or_fault (fault other key) (as_str d)
  _ ← provided (fault 3 key) (is_word name)
  _ ← provided (fault 6 key) (nat_le (length name) 255)
  Ok name

-- what each item in turn makes of what is there
unfoldable pub in_turn : {A : Type 0} → (A → Data → Result A TableError) → A → List Data → Result A TableError
in_turn add there [] = Ok there
in_turn add there (d ∷ ds) = do
  more ← add there d
  in_turn add more ds

-- these names, and an item as one more that is not among them
abbrev pub name_added : ℕ → List (List ℕ) → Data → Result (List (List ℕ)) TableError
name_added key names d = do
  name ← name_of 2 key d
  _ ← provided (fault 4 key) (not (is_among name names))
  Ok (names ++ name ∷ [])

abbrev pub variants_of : ℕ → Data → Result (List (List ℕ)) TableError
variants_of key entry = do
  items ← or_fault (fault 2 key) (option_and_then as_array (get (codes "variants") entry))
  _ ← provided (fault 6 key) (nat_le (length (listed items)) 1024)
  in_turn (name_added key) [] (listed items)

-- an integer, or where it is missing the given one
abbrev pub integer_or : ℕ → ℤ → Option Data → Result ℤ TableError
integer_or key default None = Ok default
integer_or key default (Some d) = or_fault (fault 2 key) (as_integer d)

abbrev pub bounds_of : ℕ → Data → Result Domain TableError
bounds_of key entry = do
  least ← integer_or key (negsuc 9223372036854775807) (get (codes "min") entry)
  greatest ← integer_or key (pos 9223372036854775807) (get (codes "max") entry)
  _ ← provided (fault 5 key) (int_le least greatest)
  Ok (bounds least greatest)

-- what may stand at the slots of a key of this kind
abbrev pub domain_by : ℕ → Data → List ℕ → Result Domain TableError
domain_by key entry kind =
    if bytes_eq kind (codes "enum") then (variants_of key entry >>= λ names. Ok (variants names))
    else (if bytes_eq kind (codes "number") then bounds_of key entry
    else (if bytes_eq kind (codes "text") then Ok text
    else (if bytes_eq kind (codes "metadata") then Ok metadata
    else Err (fault 2 key))))

abbrev pub domain_of : ℕ → Data → Result Domain TableError
domain_of key entry = or_fault (fault 2 key) (option_and_then as_str (get (codes "kind") entry)) >>= domain_by key entry

-- The name of the key that an entry is, after these keys. Its number is how many they are.
unfoldable pub key_name : Table → Data → Result (List ℕ) TableError
key_name keys entry = do
  _ ← provided (fault 6 (length keys)) (nat_lt (length keys) 256)
  _ ← provided (fault 2 (length keys)) (is_some (as_table entry))
  d ← or_fault (fault 3 (length keys)) (get (codes "name") entry)
  name ← name_of 3 (length keys) d
  _ ← provided (fault 4 (length keys)) (not (is_among name (names_in keys)))
  Ok name

-- these keys, and the one that an entry is
abbrev pub key_added : Table → Data → Result Table TableError
key_added keys entry = do
  name ← key_name keys entry
  domain ← domain_of (length keys) entry
  Ok (keys ++ record { name = name; domain = domain } ∷ [])

-- the keys that the field `key` says
abbrev pub keys_under : Option Data → Result Table TableError
keys_under None = Ok []
keys_under (Some d) = or_fault (fault 2 0) (as_array d) >>= λ items. in_turn key_added [] (listed items)

-- The table that a file is, or its first fault.
abbrev pub table_of : List ℕ → Result Table TableError
table_of bytes = document_of bytes >>= λ document. keys_under (get (codes "key") document)
