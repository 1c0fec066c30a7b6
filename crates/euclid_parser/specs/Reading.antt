-- What is read from the left: one reader for each part of a program.
use Rattle.std.specs.Prelude.{ℕ, zero, suc, ℤ, pos, negsuc, int_le, nat_le, Bool, true, false, ◌==◌, bytes_eq, codes, List, [], ◌∷◌, map, Option, Some, None, Result, ◌⊎◌, if◌then◌else◌}
use Rattle.std.proofs.Common.{inl, inr}
use Rattle.key_table.specs.Answers.{◌>>=◌}
use Rattle.key_table.specs.declared.atom.Op.{Op}
use Rattle.key_table.specs.declared.atom.Op.TheVariants as op
use Rattle.euclid_lexer.specs.declared.token.Token.{Token}
use Rattle.euclid_lexer.specs.declared.token.Token.TheVariants as token
use Rattle.euclid_lexer.specs.declared.token.Sign.{Sign}
use Rattle.euclid_lexer.specs.declared.token.Sign.TheVariants.{Colon, SquareOpen, SquareClose, CurlyOpen, CurlyClose, RoundOpen, RoundClose, Comma, Ampersand, AtSign, Percent, Equal, NotEqual, Less, LessEqual, Greater, GreaterEqual}
use Rattle.euclid_ast.specs.declared.statement.NumberTest.{NumberTest}
use Rattle.euclid_ast.specs.declared.statement.ValueForm.{ValueForm}
use Rattle.euclid_ast.specs.declared.statement.ValueForm.TheVariants.{Number, Variant, Metadata, Str, Numbers, Variants, NumberTests}
use Rattle.euclid_ast.specs.declared.statement.Comparison.{Comparison}
use Rattle.euclid_ast.specs.declared.statement.Statement.{Statement, roll-Statement}
use Rattle.euclid_ast.specs.declared.selection.Account.{Account}
use Rattle.euclid_ast.specs.declared.selection.Share.{Share}
use Rattle.euclid_ast.specs.declared.selection.ThreeDs.TheVariants as secure
use Rattle.euclid_ast.specs.declared.selection.Selection.{Selection}
use Rattle.euclid_ast.specs.declared.selection.Selection.TheVariants.{Priority, Volume, SurchargeFixed, SurchargeRate, Auth, Nothing}
use Rattle.euclid_ast.specs.declared.program.Rule.{Rule}
use Rattle.euclid_ast.specs.declared.program.Program.{Program}
use Rattle.euclid_grammar.specs.Marks.{BeginsRule, BeginsStatement, BeginsComparison, BeginsItem}
use Rattle.euclid_grammar.specs.Fits.{start}
use Rattle.euclid_grammar.specs.Grammar.{Name, Bare, Quoted, RuleTree, ProgramTree, text_of_name, trees_of, tree_of}
use Rattle.euclid_parser.specs.declared.fault.Fault.{Fault}
use Rattle.euclid_parser.specs.Reader.{Reader, one, both, mapped, either, optional, many, limited, filled, too_much, ended}

-- ---- tests of a token

-- the signs, numbered
abbrev pub sign_number : Sign → ℕ
sign_number Colon = 0
sign_number SquareOpen = 1
sign_number SquareClose = 2
sign_number CurlyOpen = 3
sign_number CurlyClose = 4
sign_number RoundOpen = 5
sign_number RoundClose = 6
sign_number Comma = 7
sign_number Ampersand = 8
sign_number AtSign = 9
sign_number Percent = 10
sign_number Equal = 11
sign_number NotEqual = 12
sign_number Less = 13
sign_number LessEqual = 14
sign_number Greater = 15
sign_number GreaterEqual = 16

-- whether a token is this sign
abbrev pub is_the_sign : Sign → Token → Bool
is_the_sign s (token.Sign u) = sign_number u == sign_number s
is_the_sign s (token.Word w) = false
is_the_sign s (token.Str w) = false
is_the_sign s (token.Number z) = false

-- whether a token is this word
abbrev pub is_the_word : List ℕ → Token → Bool
is_the_word k (token.Word w) = bytes_eq w k
is_the_word k (token.Sign u) = false
is_the_word k (token.Str w) = false
is_the_word k (token.Number z) = false

-- the bytes of a word
abbrev pub word_of : Token → Option (List ℕ)
word_of (token.Word w) = Some w
word_of (token.Sign u) = None
word_of (token.Str w) = None
word_of (token.Number z) = None

-- the bytes of a string
abbrev pub str_of : Token → Option (List ℕ)
str_of (token.Str w) = Some w
str_of (token.Word w) = None
str_of (token.Sign u) = None
str_of (token.Number z) = None

-- the value of a number
abbrev pub number_of : Token → Option ℤ
number_of (token.Number z) = Some z
number_of (token.Word w) = None
number_of (token.Sign u) = None
number_of (token.Str w) = None

-- a number from 0 to the given one
abbrev pub up_to : ℕ → ℤ → Option ℕ
up_to most (pos n) = if nat_le n most then Some n else None
up_to most (negsuc n) = None

-- a number that is not negative
abbrev pub at_least_0 : ℤ → Option ℤ
at_least_0 z = if int_le (pos 0) z then Some z else None

-- the value of a number from 0 to the given one
abbrev pub small_of : ℕ → Token → Option ℕ
small_of most (token.Number z) = up_to most z
small_of most (token.Word w) = None
small_of most (token.Sign u) = None
small_of most (token.Str w) = None

-- the value of a number that is not negative
abbrev pub amount_of : Token → Option ℤ
amount_of (token.Number z) = at_least_0 z
amount_of (token.Word w) = None
amount_of (token.Sign u) = None
amount_of (token.Str w) = None

-- whether there is a value
abbrev pub is_there : {X : Type 0} → Option X → Bool
is_there (Some x) = true
is_there None = false

-- whether a token is a word
abbrev pub is_word_token : Token → Bool
is_word_token t = is_there (word_of t)

-- whether a token is a string
abbrev pub is_str_token : Token → Bool
is_str_token t = is_there (str_of t)

-- whether a token is a number
abbrev pub is_number_token : Token → Bool
is_number_token t = is_there (number_of t)

-- the operator that a sign says
abbrev pub op_of_sign : Sign → Option Op
op_of_sign Equal = Some op.Equal
op_of_sign NotEqual = Some op.NotEqual
op_of_sign Less = Some op.Less
op_of_sign LessEqual = Some op.LessEqual
op_of_sign Greater = Some op.Greater
op_of_sign GreaterEqual = Some op.GreaterEqual
op_of_sign _ = None

-- the operator that a token says
abbrev pub op_of : Token → Option Op
op_of (token.Sign s) = op_of_sign s
op_of (token.Word w) = None
op_of (token.Str w) = None
op_of (token.Number z) = None

-- whether a token is an operator
abbrev pub is_op_token : Token → Bool
is_op_token t = is_there (op_of t)

-- nothing but that a test was passed
abbrev pub passed : Bool → Option (Unit {0})
passed true = Some tt
passed false = None

-- ---- one token

-- this sign
abbrev pub sign_reader : Sign → Reader (Unit {0})
sign_reader s = one (λ t. passed (is_the_sign s t))

-- this word
abbrev pub the_word_reader : List ℕ → Reader (Unit {0})
the_word_reader k = one (λ t. passed (is_the_word k t))

-- a word
abbrev pub word_reader : Reader (List ℕ)
word_reader = one word_of

-- a string
abbrev pub str_reader : Reader (List ℕ)
str_reader = one str_of

-- a number
abbrev pub number_reader : Reader ℤ
number_reader = one number_of

-- a number from 0 to the given one
abbrev pub small_reader : ℕ → Reader ℕ
small_reader most = one (small_of most)

-- a number that is not negative
abbrev pub amount_reader : Reader ℤ
amount_reader = one amount_of

-- an operator
abbrev pub op_reader : Reader Op
op_reader = one op_of

-- ---- what stands behind a token, or before one, and lists

-- what stands before a token
abbrev pub first_of_both : {X : Type 0} → X × Unit {0} → X
first_of_both z = z.0

-- what stands behind a token
abbrev pub second_of_both : {X : Type 0} → Unit {0} × X → X
second_of_both z = z.1

-- a thing behind a token
abbrev pub behind : {X : Type 0} → Reader (Unit {0}) → Reader X → Reader X
behind S P = mapped second_of_both (both S P)

-- a thing before a sign
abbrev pub closed : {X : Type 0} → Reader X → Sign → Reader X
closed P s = mapped first_of_both (both P (sign_reader s))

-- a first thing and those behind it
abbrev pub joined : {X : Type 0} → X × List X → List X
joined z = z.0 ∷ z.1

-- what stands behind the first item of a list: a sign and item number i
abbrev pub next_reader : {X : Type 0} → Sign → (ℕ → Reader X) → ℕ → Reader X
next_reader s P i = behind (sign_reader s) (P i)

-- items with a sign between two of them, at least one
unfoldable pub separated : {X : Type 0} → Sign → (ℕ → Reader X) → Reader (List X)
separated s P = mapped joined (both (P 0) (many (is_the_sign s) (next_reader s P) 1))

-- item number i of a list that has a limit
abbrev pub item_reader : {X : Type 0} → (Token → Bool) → Reader X → ℕ → Reader X
item_reader opens P i = limited (BeginsItem i) opens P

-- ---- items

-- a number in an array
unfoldable pub number_item : ℕ → Reader ℤ
number_item = item_reader is_number_token number_reader

-- a word in an array
unfoldable pub word_item : ℕ → Reader (List ℕ)
word_item = item_reader is_word_token word_reader

-- an operator and a number
abbrev pub test_made : Op × ℤ → NumberTest
test_made z = record { op = z.0; number = z.1 }

-- a test in an array
unfoldable pub test_item : ℕ → Reader NumberTest
test_item = item_reader is_op_token (mapped test_made (both op_reader number_reader))

-- a connector and perhaps an id
abbrev pub account_made : List ℕ × Option (List ℕ) → Account
account_made z = record { connector = z.0; id = z.1 }

-- an account, as `"stripe" @ "mca_1"`
unfoldable pub account_reader : Reader Account
account_reader = mapped account_made (both str_reader (optional (is_the_sign AtSign) (behind (sign_reader AtSign) str_reader)))

-- an account in a list
unfoldable pub account_item : ℕ → Reader Account
account_item = item_reader is_str_token account_reader

-- an account and its share
abbrev pub share_made : Account × ℕ → Share
share_made z = record { account = z.0; split = z.1 }

-- a share in a list, as `"stripe" % 60`
unfoldable pub share_item : ℕ → Reader Share
share_item = item_reader is_str_token (mapped share_made (both account_reader (behind (sign_reader Percent) (small_reader 255))))

-- ---- values

-- a text, or a key and its value
abbrev pub text_made : List ℕ × Option (List ℕ) → ValueForm
text_made (text, None) = Str text
text_made (key, Some value) = Metadata key value

-- a text, or a key and its value, as `"key": "value"`
unfoldable pub text_reader : Reader ValueForm
text_reader = mapped text_made (both str_reader (optional (is_the_sign Colon) (behind (sign_reader Colon) str_reader)))

-- an array of one of three kinds
abbrev pub array_made : List ℤ ⊎ (List (List ℕ) ⊎ List NumberTest) → ValueForm
array_made (inl zs) = Numbers zs
array_made (inr (inl ws)) = Variants ws
array_made (inr (inr ts)) = NumberTests ts

-- the items of an array, of which the first says their kind
unfoldable pub items_reader : Reader ValueForm
items_reader = mapped array_made (either is_number_token (separated Comma number_item) (either is_word_token (separated Comma word_item) (separated Comma test_item)))

-- an array, which is not empty
unfoldable pub array_reader : Reader ValueForm
array_reader = behind (sign_reader RoundOpen) (closed items_reader RoundClose)

-- a value of one of four kinds
abbrev pub value_made : ℤ ⊎ (List ℕ ⊎ (ValueForm ⊎ ValueForm)) → ValueForm
value_made (inl z) = Number z
value_made (inr (inl word)) = Variant word
value_made (inr (inr (inl text))) = text
value_made (inr (inr (inr array))) = array

-- a value, of which the first token says its kind
unfoldable pub value_reader : Reader ValueForm
value_reader = mapped value_made (either is_number_token number_reader (either is_word_token word_reader (either is_str_token text_reader array_reader)))

-- ---- comparisons and conditions

-- a key, an operator and a value
abbrev pub comparison_made : List ℕ × (Op × ValueForm) → Comparison
comparison_made z = record { lhs = z.0; op = z.1.0; value = z.1.1 }

-- a comparison, wherever in its condition
unfoldable pub comparison_reader : ℕ → Reader Comparison
comparison_reader i = limited BeginsComparison is_word_token (mapped comparison_made (both word_reader (both op_reader value_reader)))

-- comparisons with `&` between two of them
unfoldable pub condition_reader : Reader (List Comparison)
condition_reader = separated Ampersand comparison_reader

-- ---- selections

-- a list that may be left out where it is empty
abbrev pub list_of : {X : Type 0} → Option (List X) → List X
list_of None = []
list_of (Some xs) = xs

-- a list in square brackets, perhaps empty
unfoldable pub listed_reader : {X : Type 0} → (ℕ → Reader X) → Reader (List X)
listed_reader P = behind (sign_reader SquareOpen) (closed (mapped list_of (optional is_str_token (separated Comma P))) SquareClose)

-- the parts of a selection, of which there are seven kinds
abbrev pub Choices : Type 0
Choices = List Account ⊎ (List Share ⊎ (ℤ ⊎ (ℕ ⊎ (Unit {0} ⊎ (Unit {0} ⊎ Unit {0})))))

-- the selection with these parts
abbrev pub selection_made : Choices → Selection
selection_made (inl accounts) = Priority accounts
selection_made (inr (inl shares)) = Volume shares
selection_made (inr (inr (inl z))) = SurchargeFixed z
selection_made (inr (inr (inr (inl n)))) = SurchargeRate n
selection_made (inr (inr (inr (inr (inl u))))) = Auth secure.ThreeDs
selection_made (inr (inr (inr (inr (inr (inl u)))))) = Auth secure.NoThreeDs
selection_made (inr (inr (inr (inr (inr (inr u)))))) = Nothing

-- what stands behind this word, and else another thing
abbrev pub keyword : {X Y : Type 0} → List ℕ → Reader X → Reader Y → Reader (X ⊎ Y)
keyword k P Q = either (is_the_word k) (behind (the_word_reader k) P) Q

-- a selection, of which the first token says its kind
unfoldable pub selection_reader : Reader Selection
selection_reader =
    mapped selection_made
    (either (is_the_sign SquareOpen) (listed_reader account_item)
    (keyword (codes "split") (listed_reader share_item)
    (keyword (codes "surcharge") amount_reader
    (keyword (codes "rate") (small_reader 10000)
    (either (is_the_word (codes "three_ds")) (the_word_reader (codes "three_ds"))
    (either (is_the_word (codes "no_three_ds")) (the_word_reader (codes "no_three_ds"))
    (the_word_reader (codes "none"))))))))

-- ---- statements

-- a condition, and the statements below it if there are brackets
abbrev pub statement_made : List Comparison × Option (List Statement) → Statement
statement_made z = roll-Statement (record { condition = z.0; nested = z.1 })

-- as many statements as there are
unfoldable pub statements_reader : Reader Statement → Reader (List Statement)
statements_reader P = many is_word_token (λ _. P) 0

-- at least one statement, in curly brackets
unfoldable pub nested_reader : Reader Statement → Reader (List Statement)
nested_reader P = behind (sign_reader CurlyOpen) (closed (filled is_word_token (statements_reader P)) CurlyClose)

-- a statement, below which there may be so many levels
unfoldable pub statement_reader : ℕ → Reader Statement
statement_reader zero = limited BeginsStatement is_word_token (mapped statement_made (both condition_reader (optional (is_the_sign CurlyOpen) too_much)))
statement_reader (suc levels) = limited BeginsStatement is_word_token (mapped statement_made (both condition_reader (optional (is_the_sign CurlyOpen) (nested_reader (statement_reader levels)))))

-- the statements of a rule, of whom the outermost have so many levels below them
unfoldable pub block_reader : ℕ → Reader (List Statement)
block_reader levels = behind (sign_reader CurlyOpen) (closed (statements_reader (statement_reader levels)) CurlyClose)

-- ---- rules and programs, where it is forgotten how a rule's name is written

-- the name that a token is, and how it is written
abbrev pub name_of : Token → Option Name
name_of (token.Word w) = Some (Bare w)
name_of (token.Str s) = Some (Quoted s)
name_of (token.Sign u) = None
name_of (token.Number z) = None

-- whether a token is a name
abbrev pub is_name_token : Token → Bool
is_name_token t = is_there (name_of t)

-- a rule's name, whichever way it is written
abbrev pub name_reader : Reader (List ℕ)
name_reader = mapped text_of_name (one name_of)

-- a name, a selection and statements
abbrev pub rule_made : List ℕ × (Selection × List Statement) → Rule
rule_made z = record { name = z.0; selection = z.1.0; statements = z.1.1 }

-- rule number i
unfoldable pub rule_reader : ℕ → Reader Rule
rule_reader i = limited (BeginsRule i) is_name_token (mapped rule_made (both name_reader (behind (sign_reader Colon) (both selection_reader (block_reader 31)))))

-- as many rules as there are
unfoldable pub rules_reader : Reader (List Rule)
rules_reader = many is_name_token rule_reader 0

-- a default selection and rules
abbrev pub program_made : Selection × List Rule → Program
program_made z = record { default_selection = z.0; rules = z.1 }

-- a program, perhaps with tokens left behind it
unfoldable pub program_reader : Reader Program
program_reader = mapped program_made (behind (the_word_reader (codes "default")) (behind (sign_reader Colon) (both selection_reader rules_reader)))

-- the program that all of the tokens are, or their first fault
unfoldable pub all_of : List Token → Result Program Fault
all_of ts = program_reader start ts >>= ended

-- ---- the same, where it is not forgotten

-- a name as it is written, a selection and statements
abbrev pub rule_tree_made : Name × (Selection × List Statement) → RuleTree
rule_tree_made z = record { name = z.0; selection = z.1.0; trees = trees_of (map tree_of z.1.1) }

-- rule number i, with its name as it is written
unfoldable pub rule_tree_reader : ℕ → Reader RuleTree
rule_tree_reader i = limited (BeginsRule i) is_name_token (mapped rule_tree_made (both (one name_of) (behind (sign_reader Colon) (both selection_reader (block_reader 31)))))

-- as many such rules as there are
unfoldable pub rule_trees_reader : Reader (List RuleTree)
rule_trees_reader = many is_name_token rule_tree_reader 0

-- a default selection and such rules
abbrev pub program_tree_made : Selection × List RuleTree → ProgramTree
program_tree_made z = record { default = z.0; rules = z.1 }

-- a program, with its rules' names as they are written
unfoldable pub program_tree_reader : Reader ProgramTree
program_tree_reader = mapped program_tree_made (behind (the_word_reader (codes "default")) (behind (sign_reader Colon) (both selection_reader rule_trees_reader)))

-- the tree that all of the tokens spell, or their first fault
unfoldable pub tree_of_all : List Token → Result ProgramTree Fault
tree_of_all ts = program_tree_reader start ts >>= ended
