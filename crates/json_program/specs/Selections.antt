-- Selections in JSON.
use Rattle.std.specs.Prelude.{ℕ, ℤ, pos, negsuc, nat_le, List, [], ◌∷◌, codes, bytes_eq, if◌then◌else◌, Option, Some, None, Ok}
use Rattle.std.specs.Map.{lookup}
use Rattle.key_table.specs.Answers.{◌>>=◌, or_fault}
use Rattle.euclid_ast.specs.declared.selection.Account.{Account}
use Rattle.euclid_ast.specs.declared.selection.Share.{Share}
use Rattle.euclid_ast.specs.declared.selection.ThreeDs as auth
use Rattle.euclid_ast.specs.declared.selection.ThreeDs.TheVariants.{ThreeDs, NoThreeDs}
use Rattle.euclid_ast.specs.declared.selection.Selection.{Selection}
use Rattle.euclid_ast.specs.declared.selection.Selection.TheVariants as selection
use Rattle.json_shape.specs.Paths.{fault}
use Rattle.json_shape.specs.Shapes.{whole_of}
use Rattle.json_shape.specs.Each.{Reader}
use Rattle.json_shape.specs.Fields.{within_field, within_optional, items, word_of}
use Rattle.json_program.specs.declared.selection.SelectionForm.{SelectionForm}
use Rattle.json_program.specs.declared.selection.SelectionForm.TheVariants.{Priority, Volume, Fixed, Rate, Auth, Nothing}
use Rattle.json_program.specs.Texts.{text_of}

-- an account
unfoldable pub account_of : Reader Account
account_of path d = do
  connector ← within_field (codes "connector") text_of path d
  id ← within_optional (codes "merchant_connector_id") text_of path d
  Ok (record { connector = connector; id = id })

-- a number that is not negative and at most so much
abbrev pub natural : ℕ → ℤ → Option ℕ
natural most (pos n) = if nat_le n most then Some n else None
natural most (negsuc n) = None

-- a whole number that is not negative and at most so much; another one is WrongShape
abbrev pub natural_of : ℕ → Reader ℕ
natural_of most path d = whole_of path d >>= λ z. or_fault (fault 3 path) (natural most z)

-- a number that is not negative
abbrev pub not_negative : ℤ → Option ℤ
not_negative (pos n) = Some (pos n)
not_negative (negsuc n) = None

-- a whole number that is not negative; another one is WrongShape
abbrev pub amount_of : Reader ℤ
amount_of path d = whole_of path d >>= λ z. or_fault (fault 3 path) (not_negative z)

-- an account and its part of the volume
unfoldable pub share_of : Reader Share
share_of path d = do
  account ← within_field (codes "connector") account_of path d
  split ← within_field (codes "split") (natural_of 255) path d
  Ok (record { account = account; split = split })

-- the names of the decisions
abbrev pub decisions : List (List ℕ × auth.ThreeDs)
decisions =
    (codes "three_ds", ThreeDs)
    ∷ (codes "no_three_ds", NoThreeDs)
    ∷ []

-- the decision with a name
abbrev pub decision_named : List ℕ → Option auth.ThreeDs
decision_named word = lookup (bytes_eq word) decisions

-- the names of the forms of a selection
abbrev pub selections : List (List ℕ × SelectionForm)
selections =
    (codes "priority", Priority)
    ∷ (codes "volume_split", Volume)
    ∷ (codes "surcharge_fixed", Fixed)
    ∷ (codes "surcharge_rate", Rate)
    ∷ (codes "three_ds", Auth)
    ∷ (codes "none", Nothing)
    ∷ []

-- the form of a selection with a name
abbrev pub selection_named : List ℕ → Option SelectionForm
selection_named word = lookup (bytes_eq word) selections

-- a selection of a form
abbrev pub selection_in : SelectionForm → Reader Selection
selection_in Priority path d = within_field (codes "data") (items 4096 account_of) path d >>= λ accounts. Ok (selection.Priority accounts)
selection_in Volume path d = within_field (codes "data") (items 4096 share_of) path d >>= λ shares. Ok (selection.Volume shares)
selection_in Fixed path d = within_field (codes "data") (within_field (codes "amount") amount_of) path d >>= λ amount. Ok (selection.SurchargeFixed amount)
selection_in Rate path d = within_field (codes "data") (within_field (codes "basis_points") (natural_of 10000)) path d >>= λ points. Ok (selection.SurchargeRate points)
selection_in Auth path d = within_field (codes "data") (within_field (codes "decision") (word_of 3 decision_named)) path d >>= λ decision. Ok (selection.Auth decision)
selection_in Nothing path d = Ok selection.Nothing

-- a selection: its form, where another string is UnknownForm, and then what it is
unfoldable pub selection_of : Reader Selection
selection_of path d = within_field (codes "type") (word_of 6 selection_named) path d >>= λ form. selection_in form path d
