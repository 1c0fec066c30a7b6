-- What is written for a selection reads back.
use Rattle.std.proofs.Common.{◌≡◌, ℕ, ◌^◌, ◌<◌, ℤ, pos, negsuc, List, true, leb, ◌&&◌, Option, Some, None, Ok, refl, arith}
use Rattle.std.proofs.lemmas.Bool.{lt-ltb, leb-true, and_parts, false≢true}
use Rattle.std.specs.Prelude.{codes, int_le}
use Rattle.serde_json.specs.Data.{number, unsigned, string}
use Rattle.serde_json.specs.Find.{of_integer}
use Rattle.euclid_ast.specs.declared.selection.Account.{Account}
use Rattle.euclid_ast.specs.declared.selection.Share.{Share}
use Rattle.euclid_ast.specs.declared.selection.ThreeDs as auth
use Rattle.euclid_ast.specs.declared.selection.ThreeDs.TheVariants.{ThreeDs, NoThreeDs}
use Rattle.euclid_ast.specs.declared.selection.Selection.{Selection}
use Rattle.euclid_ast.specs.declared.selection.Selection.TheVariants.{Priority, Volume, SurchargeFixed, SurchargeRate, Auth, Nothing}
use Rattle.json_shape.specs.Paths.{name_step}
use Rattle.json_shape.specs.Shapes.{unless_null}
use Rattle.json_shape.specs.Fields.{if_there, word_of}
use Rattle.json_program.specs.Texts.{text_of}
use Rattle.json_program.specs.Selections.{account_of, natural_of, amount_of, share_of, decision_named, selection_of}
use Rattle.std.specs.Option.{option_map_or}
use Rattle.key_table.specs.Integers.{is_signed}
use Rattle.euclid_ast.specs.Limits.{is_short, is_account, is_share, is_selection}
use Rattle.json_program.specs.Written.{id_data, account_data, share_data, auth_text, selection_data}
use Rattle.json_program.proofs.Leaves.{ReadsBack, text_reads, items_read}

id_reads : (id : Option (List ℕ)) → option_map_or is_short id true ≡ true → (path : List ℕ) → if_there (text_of path) (unless_null (Some (id_data id))) ≡ Ok id
id_reads None fits path = refl
id_reads (Some t) fits path = rw (text_reads t fits path)

account_reads : (a : Account) → is_account a ≡ true → ReadsBack account_of account_data a
unfolding account_of
account_reads a fits path =
    let parts = and_parts (is_short a.connector) (option_map_or is_short a.id true) fits in
    rw (text_reads a.connector parts.0 (name_step path (codes "connector")), id_reads a.id parts.1 (name_step path (codes "merchant_connector_id")))

natural_reads : (most n : ℕ) → leb n most ≡ true → most < 2 ^ 63 → ReadsBack (natural_of most) (λ n. number (unsigned n)) n
natural_reads most n fits small path =
    let less : n < 2 ^ 63 = (let le = leb-true n most fits in omega (arith, le)) in
    rw (lt-ltb n (2 ^ 63) less, fits)

share_reads : (s : Share) → is_share s ≡ true → ReadsBack share_of share_data s
unfolding share_of
share_reads s fits path =
    let parts = and_parts (is_account s.account) (leb s.split 255) fits in
    rw (account_reads s.account parts.0 (name_step path (codes "connector")), natural_reads 255 s.split parts.1 (omega arith) (name_step path (codes "split")))

amount_reads : (z : ℤ) → (int_le (pos 0) z && is_signed z) ≡ true → ReadsBack amount_of (λ z. number (of_integer z)) z
amount_reads (pos n) fits path = rw (and_parts (int_le (pos 0) (pos n)) (is_signed (pos n)) fits).1
amount_reads (negsuc n) fits path = absurd (false≢true fits)

decision_reads : (d : auth.ThreeDs) → ReadsBack (word_of 3 decision_named) (λ d. string (auth_text d)) d
decision_reads ThreeDs path = refl
decision_reads NoThreeDs path = refl

pub selection_reads : (s : Selection) → is_selection s ≡ true → ReadsBack selection_of selection_data s
unfolding selection_of
selection_reads (Priority accounts) fits path = rw (items_read account_of account_data is_account account_reads accounts fits (name_step path (codes "data")))
selection_reads (Volume shares) fits path = rw (items_read share_of share_data is_share share_reads shares fits (name_step path (codes "data")))
selection_reads (SurchargeFixed amount) fits path = rw (amount_reads amount fits (name_step (name_step path (codes "data")) (codes "amount")))
selection_reads (SurchargeRate points) fits path = rw (natural_reads 10000 points fits (omega arith) (name_step (name_step path (codes "data")) (codes "basis_points")))
selection_reads (Auth decision) fits path = rw (decision_reads decision (name_step (name_step path (codes "data")) (codes "decision")))
selection_reads Nothing fits path = refl
