-- Names in order, each once.
use Rattle.std.specs.Prelude.{ℕ, List, [], ◌∷◌, ◌++◌, map, fold, bytes_eq, if◌then◌else◌}
use Rattle.std.specs.List.{list_any}
use Rattle.key_table.specs.Tables.{Domain, Key, Table}

-- the names, with one more last unless it is there
abbrev pub with_name : List (List ℕ) → List ℕ → List (List ℕ)
with_name names name = if list_any (bytes_eq name) names then names else names ++ name ∷ []

abbrev pub with_names : List (List ℕ) → List (List ℕ)
with_names words = fold with_name [] words

-- the table in which the key has this domain: a key that is there keeps its place, and a new one goes last
abbrev pub with_key : Table → List ℕ → Domain → Table
with_key [] name domain = record { name = name; domain = domain } ∷ []
with_key (k ∷ table) name domain = if bytes_eq name k.name then record { name = k.name; domain = domain } ∷ table else k ∷ with_key table name domain
