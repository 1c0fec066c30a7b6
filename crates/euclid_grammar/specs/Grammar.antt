-- Programs as trees, and the tokens that spell them.
use Rattle.std.specs.Prelude.{ℕ, suc, ℤ, pos, List, [], ◌∷◌, ◌++◌, map, codes, Option, Some, None}
use Rattle.euclid_lexer.specs.declared.token.Token.{Token}
use Rattle.euclid_lexer.specs.declared.token.Token.TheVariants as token
use Rattle.euclid_lexer.specs.declared.token.Sign.{Sign}
use Rattle.euclid_lexer.specs.declared.token.Sign.TheVariants.{Colon, SquareOpen, SquareClose, CurlyOpen, CurlyClose, RoundOpen, RoundClose, Comma, Ampersand, AtSign, Percent, Equal, NotEqual, Less, LessEqual, Greater, GreaterEqual}
use Rattle.euclid_ast.specs.declared.statement.NumberTest.{NumberTest}
use Rattle.euclid_ast.specs.declared.statement.ValueForm.{ValueForm}
use Rattle.euclid_ast.specs.declared.statement.ValueForm.TheVariants.{Number, Variant, Metadata, Str, Numbers, Variants, NumberTests}
use Rattle.euclid_ast.specs.declared.statement.Comparison.{Comparison}
use Rattle.euclid_ast.specs.declared.statement.Statement.{Statement, roll-Statement}
use Rattle.euclid_ast.specs.declared.statement.Statement.TheOpen.{Statement-F}
use Rattle.euclid_ast.specs.declared.statement.Statement.TheFolds.{fold-Statement}
use Rattle.euclid_ast.specs.declared.selection.Account.{Account}
use Rattle.euclid_ast.specs.declared.selection.Share.{Share}
use Rattle.euclid_ast.specs.declared.selection.Selection.{Selection}
use Rattle.euclid_ast.specs.declared.selection.Selection.TheVariants.{Priority, Volume, SurchargeFixed, SurchargeRate, Auth, Nothing}
use Rattle.euclid_ast.specs.declared.program.Rule.{Rule}
use Rattle.euclid_ast.specs.declared.program.Program.{Program}
use Rattle.euclid_ast.specs.declared.selection.ThreeDs.{ThreeDs}
use Rattle.euclid_ast.specs.declared.selection.ThreeDs.TheVariants as secure
use Rattle.key_table.specs.declared.atom.Op.{Op}
use Rattle.key_table.specs.declared.atom.Op.TheVariants as op
use Rattle.euclid_grammar.specs.Marks.{BeginsRule, BeginsStatement, BeginsComparison, BeginsItem, BeginsLevel, Cell, plain, tokens, beginning}

-- ---- trees: a statement, what may stand below its condition, and a list of statements

mutual
  pub data Tree : Type 0 where
    Branch : (tests : List Comparison) → (below : Below) → Tree

  pub data Below : Type 0 where
    Leaf : Below
    Under : (trees : Trees) → Below

  pub data Trees : Type 0 where
    NoTree : Trees
    MoreTrees : (first : Tree) → (others : Trees) → Trees

-- a rule's name, as it is written
pub data Name : Type 0 where
  Bare : (word : List ℕ) → Name
  Quoted : (text : List ℕ) → Name

pub record RuleTree : Type 0 where
  pub name : Name
  pub selection : Selection
  pub trees : Trees

pub record ProgramTree : Type 0 where
  pub default : Selection
  pub rules : List RuleTree

-- ---- the spelling

abbrev pub sign : Sign → Cell
sign s = plain (token.Sign s)

abbrev pub word : List ℕ → Cell
word w = plain (token.Word w)

abbrev pub str : List ℕ → Cell
str s = plain (token.Str s)

abbrev pub number : ℤ → Cell
number z = plain (token.Number z)

-- a list of items behind commas, of which the first is number i
abbrev pub behind_commas : {X : Type 0} → (X → List Cell) → ℕ → List X → List Cell
behind_commas item i [] = []
behind_commas item i (x ∷ xs) = sign Comma ∷ (beginning (BeginsItem i) (item x) ++ behind_commas item (suc i) xs)

abbrev pub with_commas : {X : Type 0} → (X → List Cell) → List X → List Cell
with_commas item [] = []
with_commas item (x ∷ xs) = beginning (BeginsItem 0) (item x) ++ behind_commas item 1 xs

abbrev pub op_sign : Op → Sign
op_sign op.Equal = Equal
op_sign op.NotEqual = NotEqual
op_sign op.Less = Less
op_sign op.LessEqual = LessEqual
op_sign op.Greater = Greater
op_sign op.GreaterEqual = GreaterEqual

abbrev pub number_cells : ℤ → List Cell
number_cells z = number z ∷ []

abbrev pub word_cells : List ℕ → List Cell
word_cells w = word w ∷ []

abbrev pub test_cells : NumberTest → List Cell
test_cells t = sign (op_sign t.op) ∷ number t.number ∷ []

abbrev pub value_cells : ValueForm → List Cell
value_cells (Number z) = number z ∷ []
value_cells (Variant w) = word w ∷ []
value_cells (Metadata key value) = str key ∷ sign Colon ∷ str value ∷ []
value_cells (Str s) = str s ∷ []
value_cells (Numbers zs) = sign RoundOpen ∷ (with_commas number_cells zs ++ sign RoundClose ∷ [])
value_cells (Variants ws) = sign RoundOpen ∷ (with_commas word_cells ws ++ sign RoundClose ∷ [])
value_cells (NumberTests ts) = sign RoundOpen ∷ (with_commas test_cells ts ++ sign RoundClose ∷ [])

abbrev pub comparison_cells : Comparison → List Cell
comparison_cells c = beginning BeginsComparison (word c.lhs ∷ sign (op_sign c.op) ∷ value_cells c.value)

abbrev pub behind_ampersands : List Comparison → List Cell
behind_ampersands [] = []
behind_ampersands (c ∷ cs) = sign Ampersand ∷ (comparison_cells c ++ behind_ampersands cs)

abbrev pub condition_cells : List Comparison → List Cell
condition_cells [] = []
condition_cells (c ∷ cs) = comparison_cells c ++ behind_ampersands cs

-- a statement of this level, the outermost being level 1
abbrev mutual
  pub tree_cells : ℕ → Tree → List Cell
  tree_cells level (Branch tests below) = beginning BeginsStatement (condition_cells tests ++ below_cells (suc level) below)

  pub below_cells : ℕ → Below → List Cell
  below_cells level Leaf = []
  below_cells level (Under trees) = beginning (BeginsLevel level) (sign CurlyOpen ∷ (trees_cells level trees ++ sign CurlyClose ∷ []))

  pub trees_cells : ℕ → Trees → List Cell
  trees_cells level NoTree = []
  trees_cells level (MoreTrees first others) = tree_cells level first ++ trees_cells level others

abbrev pub id_cells : Option (List ℕ) → List Cell
id_cells None = []
id_cells (Some id) = sign AtSign ∷ str id ∷ []

abbrev pub account_cells : Account → List Cell
account_cells a = str a.connector ∷ id_cells a.id

abbrev pub share_cells : Share → List Cell
share_cells s = account_cells s.account ++ sign Percent ∷ number (pos s.split) ∷ []

abbrev pub secure_word : ThreeDs → List ℕ
secure_word secure.ThreeDs = codes "three_ds"
secure_word secure.NoThreeDs = codes "no_three_ds"

abbrev pub selection_cells : Selection → List Cell
selection_cells (Priority accounts) = sign SquareOpen ∷ (with_commas account_cells accounts ++ sign SquareClose ∷ [])
selection_cells (Volume shares) = word (codes "split") ∷ sign SquareOpen ∷ (with_commas share_cells shares ++ sign SquareClose ∷ [])
selection_cells (SurchargeFixed z) = word (codes "surcharge") ∷ number z ∷ []
selection_cells (SurchargeRate n) = word (codes "rate") ∷ number (pos n) ∷ []
selection_cells (Auth decision) = word (secure_word decision) ∷ []
selection_cells Nothing = word (codes "none") ∷ []

abbrev pub name_token : Name → Token
name_token (Bare w) = token.Word w
name_token (Quoted s) = token.Str s

abbrev pub rule_cells : ℕ → RuleTree → List Cell
rule_cells i r =
    beginning (BeginsRule i) (plain (name_token r.name) ∷ sign Colon ∷ (selection_cells r.selection ++ sign CurlyOpen ∷ (trees_cells 1 r.trees ++ sign CurlyClose ∷ [])))

-- rules, of which the first is number i
abbrev pub rules_cells : ℕ → List RuleTree → List Cell
rules_cells i [] = []
rules_cells i (r ∷ rs) = rule_cells i r ++ rules_cells (suc i) rs

abbrev pub cells : ProgramTree → List Cell
cells p = word (codes "default") ∷ sign Colon ∷ (selection_cells p.default ++ rules_cells 0 p.rules)

abbrev pub spell : ProgramTree → List Token
spell p = tokens (cells p)

-- ---- the tree of a program whose rules' names are written in quotes

abbrev pub trees_of : List Tree → Trees
trees_of [] = NoTree
trees_of (t ∷ ts) = MoreTrees t (trees_of ts)

abbrev pub below_of : Option (List Tree) → Below
below_of None = Leaf
below_of (Some ts) = Under (trees_of ts)

abbrev pub tree_step : Statement-F Tree → Tree
tree_step s = Branch s.condition (below_of s.nested)

unfoldable pub tree_of : Statement → Tree
tree_of = fold-Statement Tree tree_step

abbrev pub rule_quoted : Rule → RuleTree
rule_quoted r = record { name = Quoted r.name; selection = r.selection; trees = trees_of (map tree_of r.statements) }

abbrev pub quoted : Program → ProgramTree
quoted p = record { default = p.default_selection; rules = map rule_quoted p.rules }

-- ---- the program of a tree, which forgets how a rule's name is written

abbrev mutual
  pub statement_of : Tree → Statement
  statement_of (Branch tests below) = roll-Statement (record { condition = tests; nested = nested_of below })

  pub nested_of : Below → Option (List Statement)
  nested_of Leaf = None
  nested_of (Under trees) = Some (statements_of trees)

  pub statements_of : Trees → List Statement
  statements_of NoTree = []
  statements_of (MoreTrees first others) = statement_of first ∷ statements_of others

abbrev pub text_of_name : Name → List ℕ
text_of_name (Bare w) = w
text_of_name (Quoted s) = s

abbrev pub rule_of : RuleTree → Rule
rule_of r = record { name = text_of_name r.name; selection = r.selection; statements = statements_of r.trees }

abbrev pub shape : ProgramTree → Program
shape p = record { default_selection = p.default; rules = map rule_of p.rules }
