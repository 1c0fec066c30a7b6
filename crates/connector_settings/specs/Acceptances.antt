-- Acceptances in JSON: which words of a key are accepted.
use Rattle.std.specs.Prelude.{ℕ, List, [], ◌∷◌, codes, bytes_eq, Bool, true, Option, Ok}
use Rattle.std.specs.Map.{lookup}
use Rattle.serde_json.specs.Data.{Data}
use Rattle.key_table.specs.Answers.{◌>>=◌, provided}
use Rattle.key_table.specs.Tables.{Table}
use Rattle.json_shape.specs.Paths.{fault}
use Rattle.json_shape.specs.Shapes.{list_of}
use Rattle.json_shape.specs.Each.{Reader, each}
use Rattle.json_shape.specs.Fields.{within_field, word_of}
use Rattle.connector_settings.specs.declared.keys.Keys.{Keys}
use Rattle.connector_settings.specs.declared.settings.Accept as accept
use Rattle.connector_settings.specs.declared.settings.Accept.TheVariants as accepts
use Rattle.connector_settings.specs.declared.acceptance.AcceptForm.{AcceptForm}
use Rattle.connector_settings.specs.declared.acceptance.AcceptForm.TheVariants.{All, Only, Except}
use Rattle.connector_settings.specs.Fit.{is_enum}
use Rattle.connector_settings.specs.Words.{field_or, variant_of}

-- the names of the forms of an acceptance
abbrev pub forms : List (List ℕ × AcceptForm)
forms =
    (codes "all_accepted", All)
    ∷ (codes "enable_only", Only)
    ∷ (codes "disable_only", Except)
    ∷ []

-- the form with a name
abbrev pub form_named : List ℕ → Option AcceptForm
form_named word = lookup (bytes_eq word) forms

-- whether a list may stand for words of a key: where it is empty, the key has to be an enum
abbrev pub may_list : Table → ℕ → List Data → Bool
may_list table key [] = is_enum table key
may_list table key (d ∷ ds) = true

-- the words of the list of an acceptance
unfoldable pub listed_of : Table → ℕ → Reader (List ℕ)
listed_of table key path d = do
  ds ← list_of path 4096 d
  _ ← provided (fault 6 path) (may_list table key ds)
  each (variant_of table key) path 0 ds

-- an acceptance of a form
abbrev pub acceptance_in : Table → ℕ → AcceptForm → Reader accept.Accept
acceptance_in table key All path d = Ok accepts.All
acceptance_in table key Only path d = within_field (codes "list") (listed_of table key) path d >>= λ words. Ok (accepts.Only words)
acceptance_in table key Except path d = within_field (codes "list") (listed_of table key) path d >>= λ words. Ok (accepts.Except words)

-- an acceptance: its form, where another string is UnknownWord, and then what it lists
unfoldable pub acceptance_of : Table → ℕ → Reader accept.Accept
acceptance_of table key path d = within_field (codes "type") (word_of 6 form_named) path d >>= λ form. acceptance_in table key form path d

-- which currencies and which countries are accepted, all where it is not said
unfoldable pub acceptances_of : Table → Keys → Reader (accept.Accept × accept.Accept)
acceptances_of table keys path d = do
  currencies ← field_or accepts.All (codes "accepted_currencies") (acceptance_of table keys.currency) path d
  countries ← field_or accepts.All (codes "accepted_countries") (acceptance_of table keys.country) path d
  Ok (currencies, countries)
