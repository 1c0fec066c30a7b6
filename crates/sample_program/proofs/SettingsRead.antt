-- The text of the settings is read.
use Rattle.std.proofs.Common.{◌≡◌, [], Some, Result, Ok, Err, true, option_and_then, cond, codes, refl, sym, ap, ◌∙◌, append-nil, arith}
use Rattle.std.specs.Str.{is_utf8}
use Rattle.std.proofs.lemmas.Str.{is_utf8-from_IsUtf8}
use Rattle.json.specs.Json as json
use Rattle.json.specs.Lex.{tokens}
use Rattle.json.specs.Print.{print}
use Rattle.json.specs.Tree.{json_tokens, HasNumbers}
use Rattle.json.proofs.OnLiterals.{json_on_literals}
use Rattle.json.proofs.Printed.Tokens.{tokens-print}
use Rattle.json.proofs.Printed.Trees.{value-json_tokens, ArePrintable-json_tokens}
use Rattle.json.proofs.Printed.Utf8.{IsUtf8-are_ascii}
use Rattle.serde_json.specs.Data.{Data, string, number, unsigned, array, object, item, no_items, member, no_members}
use Rattle.serde_json.specs.Read.{max_depth, of_json, read}
use Rattle.serde_json.proofs.OnLiterals.{serde_json_on_literals}
use Rattle.key_table.specs.BuiltIn.{built_in}
use Rattle.key_table.specs.Answers.{◌>>=◌, or_fault}
use Rattle.json_shape.specs.Counted as counted
use Rattle.json_shape.specs.Each as plainly
use Rattle.json_shape.specs.Paths.{fault, escaped}
use Rattle.json_shape.specs.Shapes.{json_of}
use Rattle.connector_settings.specs.Acceptances.{listed_of, acceptance_of, acceptances_of}
use Rattle.connector_settings.specs.Amounts.{amount_of, amounts_of}
use Rattle.connector_settings.specs.Reading.{entry_begun, entry_in, entry_of, method_of, connector_of, settings_in, widened}
use Rattle.json_shape.specs.declared.error.ShapeError.{ShapeError}
use Rattle.connector_settings.specs.declared.settings.Settings.{Settings}
use Rattle.sample_program.specs.Laws.{SettingsLaw}
use Rattle.sample_program.specs.SettingsTexts.{settings_text, settings}

-- the text as a tree
abbrev acceptance : json.Json
acceptance = json.object (json.member (codes "type") (json.string (codes "enable_only")) (json.member (codes "list") (json.array (json.item (json.string (codes "USD")) (json.item (json.string (codes "EUR")) json.no_items))) json.no_members))

abbrev entry : json.Json
entry = json.object (json.member (codes "payment_method_type") (json.string (codes "credit")) (json.member (codes "accepted_currencies") acceptance (json.member (codes "minimum_amount") (json.number (codes "100")) json.no_members)))

abbrev method : json.Json
method = json.object (json.member (codes "payment_method") (json.string (codes "card")) (json.member (codes "payment_method_types") (json.array (json.item entry json.no_items)) json.no_members))

abbrev connector : json.Json
connector = json.object (json.member (codes "connector_name") (json.string (codes "c0")) (json.member (codes "payment_methods_enabled") (json.array (json.item method json.no_items)) json.no_members))

abbrev tree : json.Json
tree = json.array (json.item connector json.no_items)

printed : settings_text ≡ print (json_tokens tree)
unfolding settings_text json_on_literals
printed = refl

has_numbers : HasNumbers tree
unfolding json_on_literals
has_numbers = search

-- and as JSON is seen, with the names of each object in order
abbrev acceptance_data : Data
acceptance_data = object (member (codes "list") (array (item (string (codes "USD")) (item (string (codes "EUR")) no_items))) (member (codes "type") (string (codes "enable_only")) no_members))

abbrev entry_data : Data
entry_data = object (member (codes "accepted_currencies") acceptance_data (member (codes "minimum_amount") (number (unsigned 100)) (member (codes "payment_method_type") (string (codes "credit")) no_members)))

abbrev method_data : Data
method_data = object (member (codes "payment_method") (string (codes "card")) (member (codes "payment_method_types") (array (item entry_data no_items)) no_members))

abbrev connector_data : Data
connector_data = object (member (codes "connector_name") (string (codes "c0")) (member (codes "payment_methods_enabled") (array (item method_data no_items)) no_members))

abbrev data_read : Data
data_read = array (item connector_data no_items)

converted : of_json tree ≡ Some data_read
unfolding serde_json_on_literals
converted = refl

text_parsed : json.value max_depth (tokens settings_text) ≡ Some (tree, [])
text_parsed =
    ap (λ t. json.value max_depth (tokens t)) printed
    ∙ ap (json.value max_depth) (tokens-print (json_tokens tree) (ArePrintable-json_tokens tree has_numbers) ∙ sym (append-nil (json_tokens tree)))
    ∙ value-json_tokens tree max_depth [] (omega arith)

text_read : read settings_text ≡ Some data_read
text_read = ap (λ parsed. option_and_then of_json (option_and_then (λ p. json.if_last p.0 p.1) parsed)) text_parsed ∙ converted

utf8 : is_utf8 settings_text ≡ true
unfolding settings_text
utf8 = is_utf8-from_IsUtf8 _ (IsUtf8-are_ascii _ refl)

settings_said : settings_in built_in data_read 0 ≡ Ok (settings, 1)
unfolding settings entry_begun entry_in entry_of method_of connector_of amount_of amounts_of listed_of acceptance_of acceptances_of counted.each plainly.each escaped
settings_said = refl

shaped : json_of settings_text ≡ Ok data_read
shaped = ap (λ b. cond b (or_fault (fault 1 []) (read settings_text)) (Err (fault 1 []))) utf8 ∙ ap (or_fault (fault 1 [])) text_read

said : Data → Result Settings ShapeError
said d = settings_in built_in d 0 >>= λ read. Ok read.0

pub settings_read : SettingsLaw
unfolding said
settings_read = ap widened (ap (λ d. d >>= said) shaped ∙ ap (λ r. r >>= (λ read. Ok read.0)) settings_said)
