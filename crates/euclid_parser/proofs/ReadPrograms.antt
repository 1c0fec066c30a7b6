-- Rules and programs are read as they are spelled.
use Rattle.std.proofs.Common.{◌≡◌, ℕ, suc, Some, List, [], ◌∷◌, ◌++◌, codes, refl, ap}
use Rattle.euclid_lexer.specs.declared.token.Token.{Token}
use Rattle.euclid_lexer.specs.declared.token.Token.TheVariants as token
use Rattle.euclid_lexer.specs.declared.token.Sign.TheVariants.{Colon, CurlyOpen, CurlyClose}
use Rattle.euclid_ast.specs.declared.statement.Statement.{Statement}
use Rattle.euclid_ast.specs.declared.selection.Selection.{Selection}
use Rattle.euclid_ast.specs.declared.selection.Selection.TheVariants.{Nothing}
use Rattle.euclid_grammar.specs.Marks.{BeginsRule, Cell, plain}
use Rattle.euclid_grammar.specs.Grammar.{Trees, NoTree, Name, Bare, Quoted, RuleTree, ProgramTree, sign, word, name_token, selection_cells, trees_cells, statements_of, rule_cells, rules_cells, cells}
use Rattle.euclid_grammar.specs.OwnTrees.{trees-own}
use Rattle.euclid_parser.specs.Reader.{Reader, one, both, mapped}
use Rattle.euclid_parser.specs.Reading.{name_of, is_name_token, the_word_reader, sign_reader, behind, selection_reader, block_reader, rule_tree_made, rule_tree_reader, rule_trees_reader, program_tree_made, program_tree_reader}
use Rattle.euclid_parser.proofs.Written.{AllWritten, written_next, written_one, word_written, sign_written}
use Rattle.euclid_parser.proofs.Readers.{IsReader, Opened, Begun, mapped_reads, limited_reads, then_reads}
use Rattle.euclid_parser.proofs.Many.{list_cells, AllFine, many_reads}
use Rattle.euclid_parser.proofs.ReadTokens.{Anything, never, IsClass, class_reads, class_opened, within-same, sign_reads, the_word_reads, behind_reads}
use Rattle.euclid_parser.proofs.ReadSelections.{IsSelection, selection_reads}
use Rattle.euclid_parser.proofs.ReadStatements.{IsStatement, AreTrees, trees-list, trees_fine, fine_trees, block_cells, block_reads}

-- ---- rules

names : IsClass Anything name_of name_token
names = record { some = Bare (codes "a"); fine = tt; written = word_written (codes "a") refl refl; made = again; read = name_read }
  where
    again : (n : Name) → Unit {0} → name_of (name_token n) ≡ Some n
    again (Bare w) fine = refl
    again (Quoted s) fine = refl

    name_read : (t : Token) (n : Name) → name_of t ≡ Some n → Unit {0} × (t ≡ name_token n)
    name_read (token.Word w) n e = let is : Bare w ≡ n = cc in (tt, ap name_token is)
    name_read (token.Str s) n e = let is : Quoted s ≡ n = cc in (tt, ap name_token is)
    name_read (token.Sign u) n e = absurd cc
    name_read (token.Number z) n e = absurd cc

abbrev name_cells : Name → List Cell
name_cells n = plain (name_token n) ∷ []

abbrev pub IsRule : RuleTree → Type 0
IsRule r = IsSelection r.selection × AreTrees r.trees

abbrev bare_cells : RuleTree → List Cell
bare_cells r = plain (name_token r.name) ∷ sign Colon ∷ (selection_cells r.selection ++ sign CurlyOpen ∷ (trees_cells 1 r.trees ++ sign CurlyClose ∷ []))

abbrev Below : Type 0
Below = Selection × List Statement

abbrev below_cells : Below → List Cell
below_cells z = selection_cells z.0 ++ block_cells z.1

abbrev BelowFine : Below → Type 0
BelowFine z = IsSelection z.0 × AllFine IsStatement z.1

abbrev bare_reader : Reader RuleTree
bare_reader = mapped rule_tree_made (both (one name_of) (behind (sign_reader Colon) (both selection_reader (block_reader 31))))

bare_reads : IsReader bare_cells IsRule never bare_reader
bare_reads =
    mapped_reads (λ (z : Name × Below). name_cells z.0 ++ (sign Colon ∷ below_cells z.1)) (λ (z : Name × Below). Unit {0} × BelowFine z.1) never (both (one name_of) (behind (sign_reader Colon) (both selection_reader (block_reader 31)))) bare_cells IsRule rule_tree_made
    (then_reads name_cells Anything (one name_of) (λ (z : Below). sign Colon ∷ below_cells z) BelowFine never (behind (sign_reader Colon) (both selection_reader (block_reader 31))) (class_reads Anything name_of name_token names)
    (behind_reads below_cells BelowFine never (both selection_reader (block_reader 31)) (sign Colon) (sign_reader Colon) (sign_reads Colon)
    (then_reads selection_cells IsSelection selection_reader block_cells (AllFine IsStatement) never (block_reader 31) selection_reads block_reads)))
    (λ z fine. ((fine.1.0, trees_fine z.1.1 fine.1.1), ap (λ (qs : List Cell). plain (name_token z.0) ∷ (sign Colon ∷ (selection_cells z.1.0 ++ sign CurlyOpen ∷ (qs ++ sign CurlyClose ∷ [])))) (trees-list 1 0 z.1.1)))
    (λ r fine. ((r.name, (r.selection, statements_of r.trees)), (tt, (fine.0, fine_trees r.trees fine.1)), ap (λ (ts : Trees). record { name = r.name; selection = r.selection; trees = ts }) (trees-own r.trees)))

rule_opened : Opened bare_cells IsRule is_name_token
rule_opened r fine = class_opened Anything name_of name_token names r.name tt

abbrev plainest : Name → RuleTree
plainest n = record { name = n; selection = Nothing; trees = NoTree }

abbrev rest : List Token
rest = token.Sign Colon ∷ token.Word (codes "none") ∷ token.Sign CurlyOpen ∷ token.Sign CurlyClose ∷ []

rest_written : AllWritten rest
rest_written =
    written_next (token.Sign Colon) (token.Word (codes "none") ∷ token.Sign CurlyOpen ∷ token.Sign CurlyClose ∷ []) (sign_written Colon)
    (written_next (token.Word (codes "none")) (token.Sign CurlyOpen ∷ token.Sign CurlyClose ∷ []) (word_written (codes "none") refl refl)
    (written_next (token.Sign CurlyOpen) (token.Sign CurlyClose ∷ []) (sign_written CurlyOpen) (written_one (token.Sign CurlyClose) (sign_written CurlyClose))))

rule_begun : Begun bare_cells IsRule is_name_token
rule_begun (token.Word w) is = (plainest (Bare w), (tt, tt), rest, refl, rest_written)
rule_begun (token.Str s) is = (plainest (Quoted s), (tt, tt), rest, refl, rest_written)
rule_begun (token.Sign u) is = absurd cc
rule_begun (token.Number z) is = absurd cc

rule_reads : (i : ℕ) → IsReader (rule_cells i) IsRule never (rule_tree_reader i)
unfolding rule_tree_reader
rule_reads i = limited_reads bare_cells IsRule never is_name_token bare_reader (BeginsRule i) bare_reads rule_opened rule_begun

-- ---- programs

rules-list : (i : ℕ) (rs : List RuleTree) → rules_cells i rs ≡ list_cells rule_cells i rs
rules-list i [] = refl
rules-list i (r ∷ rs) = ap (λ (qs : List Cell). rule_cells i r ++ qs) (rules-list (suc i) rs)

-- a program that has a spelling: no list is empty that may not be, and each number is in its range
abbrev pub IsFineProgram : ProgramTree → Type 0
IsFineProgram p = IsSelection p.default × AllFine IsRule p.rules

abbrev Program' : Type 0
Program' = Selection × List RuleTree

abbrev default_cells : Program' → List Cell
default_cells z = selection_cells z.0 ++ list_cells rule_cells 0 z.1

abbrev DefaultFine : Program' → Type 0
DefaultFine z = IsSelection z.0 × AllFine IsRule z.1

rules_read : IsReader (list_cells rule_cells 0) (AllFine IsRule) is_name_token rule_trees_reader
unfolding rule_trees_reader
rules_read = many_reads rule_cells IsRule never is_name_token is_name_token rule_tree_reader rule_reads (λ i r fine. class_opened Anything name_of name_token names r.name tt) (λ t e. refl) (λ t e. refl) (within-same is_name_token) 0

pub program_reads : IsReader cells IsFineProgram is_name_token program_tree_reader
unfolding program_tree_reader
program_reads =
    mapped_reads (λ (z : Program'). word (codes "default") ∷ (sign Colon ∷ default_cells z)) DefaultFine is_name_token (behind (the_word_reader (codes "default")) (behind (sign_reader Colon) (both selection_reader rule_trees_reader))) cells IsFineProgram program_tree_made
    (behind_reads (λ (z : Program'). sign Colon ∷ default_cells z) DefaultFine is_name_token (behind (sign_reader Colon) (both selection_reader rule_trees_reader)) (word (codes "default")) (the_word_reader (codes "default")) (the_word_reads (codes "default") (word_written (codes "default") refl refl))
    (behind_reads default_cells DefaultFine is_name_token (both selection_reader rule_trees_reader) (sign Colon) (sign_reader Colon) (sign_reads Colon)
    (then_reads selection_cells IsSelection selection_reader (list_cells rule_cells 0) (AllFine IsRule) is_name_token rule_trees_reader selection_reads rules_read)))
    (λ z fine. (fine, ap (λ (qs : List Cell). word (codes "default") ∷ (sign Colon ∷ (selection_cells z.0 ++ qs))) (rules-list 0 z.1)))
    (λ p fine. ((p.default, p.rules), fine, refl))
