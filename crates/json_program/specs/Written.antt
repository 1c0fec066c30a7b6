-- Programs as JSON. The names of each object stand in ascending order of bytes.
use Rattle.std.specs.Prelude.{ℕ, ℤ, List, map, codes, Option, Some, None}
use Rattle.serde_json.specs.Data.{Data, null, number, unsigned, string, array, object, member, no_members}
use Rattle.serde_json.specs.Find.{of_integer}
use Rattle.serde_json.specs.View.{items_of}
use Rattle.key_table.specs.declared.atom.Op.{Op}
use Rattle.key_table.specs.declared.atom.Op.TheVariants.{Equal, NotEqual, Less, LessEqual, Greater, GreaterEqual}
use Rattle.euclid_ast.specs.declared.selection.Account.{Account}
use Rattle.euclid_ast.specs.declared.selection.Share.{Share}
use Rattle.euclid_ast.specs.declared.selection.ThreeDs as auth
use Rattle.euclid_ast.specs.declared.selection.ThreeDs.TheVariants.{ThreeDs, NoThreeDs}
use Rattle.euclid_ast.specs.declared.selection.Selection.{Selection}
use Rattle.euclid_ast.specs.declared.selection.Selection.TheVariants.{Priority, Volume, SurchargeFixed, SurchargeRate, Auth, Nothing}
use Rattle.euclid_ast.specs.declared.program.Rule.{Rule}
use Rattle.euclid_ast.specs.declared.program.Program.{Program}
use Rattle.euclid_ast.specs.declared.statement.NumberTest.{NumberTest}
use Rattle.euclid_ast.specs.declared.statement.ValueForm.{ValueForm}
use Rattle.euclid_ast.specs.declared.statement.ValueForm.TheVariants.{Number, Variant, Metadata, Str, Numbers, Variants, NumberTests}
use Rattle.euclid_ast.specs.declared.statement.Comparison.{Comparison}
use Rattle.euclid_ast.specs.declared.statement.Statement.{Statement}
use Rattle.euclid_ast.specs.declared.statement.Statement.TheOpen.{Statement-F}
use Rattle.euclid_ast.specs.declared.statement.Statement.TheFolds.{fold-Statement}

-- an array of these
abbrev pub list_data : List Data → Data
list_data ds = array (items_of ds)

-- an object with two members
abbrev pub pair : List ℕ → Data → List ℕ → Data → Data
pair name d name' d' = object (member name d (member name' d' no_members))

-- a whole number
abbrev pub number_data : ℤ → Data
number_data z = number (of_integer z)

-- the name of an operator
abbrev pub operator_text : Op → List ℕ
operator_text Equal = codes "equal"
operator_text NotEqual = codes "not_equal"
operator_text Less = codes "less_than"
operator_text LessEqual = codes "less_than_equal"
operator_text Greater = codes "greater_than"
operator_text GreaterEqual = codes "greater_than_equal"

-- an entry of a number comparison array
abbrev pub test_data : NumberTest → Data
test_data t = pair (codes "comparisonType") (string (operator_text t.op)) (codes "number") (number_data t.number)

-- an object with the form of a value and what it is
abbrev pub formed : List ℕ → Data → Data
formed form d = pair (codes "type") (string form) (codes "value") d

-- a value: its form and what it is
abbrev pub value_data : ValueForm → Data
value_data (Number z) = formed (codes "number") (number_data z)
value_data (Variant name) = formed (codes "enum_variant") (string name)
value_data (Metadata key text) = formed (codes "metadata_variant") (pair (codes "key") (string key) (codes "value") (string text))
value_data (Str text) = formed (codes "str_value") (string text)
value_data (Numbers zs) = formed (codes "number_array") (list_data (map number_data zs))
value_data (Variants names) = formed (codes "enum_variant_array") (list_data (map string names))
value_data (NumberTests tests) = formed (codes "number_comparison_array") (list_data (map test_data tests))

-- an object without members
abbrev pub empty : Data
empty = object no_members

-- a comparison, with an empty object as its metadata
abbrev pub comparison_data : Comparison → Data
comparison_data c = object (member (codes "comparison") (string (operator_text c.op)) (member (codes "lhs") (string c.lhs) (member (codes "metadata") empty (member (codes "value") (value_data c.value) no_members))))

-- the nested statements, or null where there is no such list
abbrev pub nested_data : Option (List Data) → Data
nested_data None = null
nested_data (Some ds) = list_data ds

-- one statement, with what is written for each nested one
abbrev pub statement_step : Statement-F Data → Data
statement_step s = pair (codes "condition") (list_data (map comparison_data s.condition)) (codes "nested") (nested_data s.nested)

-- a statement
abbrev pub statement_data : Statement → Data
statement_data = fold-Statement Data statement_step

-- an object with one member
abbrev pub single : List ℕ → Data → Data
single name d = object (member name d no_members)

-- an account's id, or null where it has none
abbrev pub id_data : Option (List ℕ) → Data
id_data None = null
id_data (Some id) = string id

-- an account
abbrev pub account_data : Account → Data
account_data a = pair (codes "connector") (string a.connector) (codes "merchant_connector_id") (id_data a.id)

-- an account and its part of the volume
abbrev pub share_data : Share → Data
share_data s = pair (codes "connector") (account_data s.account) (codes "split") (number (unsigned s.split))

-- the name of a decision
abbrev pub auth_text : auth.ThreeDs → List ℕ
auth_text ThreeDs = codes "three_ds"
auth_text NoThreeDs = codes "no_three_ds"

-- an object with what it gives and its type
abbrev pub typed : Data → List ℕ → Data
typed d type = pair (codes "data") d (codes "type") (string type)

-- a selection: what it gives and its type
abbrev pub selection_data : Selection → Data
selection_data (Priority accounts) = typed (list_data (map account_data accounts)) (codes "priority")
selection_data (Volume shares) = typed (list_data (map share_data shares)) (codes "volume_split")
selection_data (SurchargeFixed amount) = typed (single (codes "amount") (number (of_integer amount))) (codes "surcharge_fixed")
selection_data (SurchargeRate points) = typed (single (codes "basis_points") (number (unsigned points))) (codes "surcharge_rate")
selection_data (Auth decision) = typed (single (codes "decision") (string (auth_text decision))) (codes "three_ds")
selection_data Nothing = single (codes "type") (string (codes "none"))

-- a rule
abbrev pub rule_data : Rule → Data
rule_data r = object (member (codes "connectorSelection") (selection_data r.selection) (member (codes "name") (string r.name) (member (codes "statements") (list_data (map statement_data r.statements)) no_members)))

-- a program, with an empty object as its metadata
abbrev pub program_data : Program → Data
program_data p = object (member (codes "defaultSelection") (selection_data p.default_selection) (member (codes "metadata") empty (member (codes "rules") (list_data (map rule_data p.rules)) no_members)))
