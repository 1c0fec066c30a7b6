-- Statements are read as they are spelled, down to the last level that there may be.
use Rattle.std.proofs.Common.{◌≡◌, ℕ, zero, suc, ◌+◌, ◌≤◌, Bool, true, false, ◌⊎◌, inl, inr, List, [], ◌∷◌, ◌++◌, map, Option, Some, None, refl, sym, ap, subst, ◌∙◌, arith}
use Rattle.std.specs.Prelude.{nat_le, pos, codes}
use Rattle.key_table.specs.declared.atom.Op.TheVariants as op
use Rattle.euclid_lexer.specs.declared.token.Token.{Token}
use Rattle.euclid_lexer.specs.declared.token.Token.TheVariants as token
use Rattle.euclid_lexer.specs.declared.token.Sign.TheVariants.{CurlyOpen, CurlyClose, Equal}
use Rattle.euclid_ast.specs.declared.statement.ValueForm.TheVariants.{Number}
use Rattle.euclid_ast.specs.declared.statement.Comparison.{Comparison}
use Rattle.euclid_ast.specs.declared.statement.Statement.{Statement}
use Rattle.euclid_grammar.specs.Marks.{BeginsStatement, BeginsLevel, Cell, tokens, beginning}
use Rattle.euclid_grammar.specs.Grammar.{Tree, Branch, Below, Leaf, Under, Trees, NoTree, MoreTrees, sign, condition_cells, tree_cells, below_cells, trees_cells, trees_of, tree_of, statement_of, statements_of}
use Rattle.euclid_grammar.specs.OwnTrees.{trees_below, tree-roll, own, tree-own}
use Rattle.euclid_parser.specs.Reader.{Reader, starts, both, mapped, optional, many, limited, filled, too_much}
use Rattle.euclid_parser.specs.Reading.{is_the_sign, is_word_token, sign_reader, closed, condition_reader, statement_made, statements_reader, nested_reader, statement_reader, block_reader}
use Rattle.euclid_parser.proofs.Written.{AllWritten, written_next, written_one, word_written, zero_written, sign_written}
use Rattle.euclid_parser.proofs.Readers.{IsReader, Opened, Begun, loose, mapped_reads, limited_reads, respelled_reads, fits_reads, blocked_reads, optional_reads, option_cells, OptionFine}
use Rattle.euclid_parser.proofs.Many.{list_cells, AllFine, many_reads}
use Rattle.euclid_parser.proofs.ReadTokens.{never, is_the_sign-is, apart-sign, apart-word, or, within-left, within-right, within-same, sign_reads, behind_reads, closed_reads}
use Rattle.euclid_parser.proofs.Separated.{AllFilled}
use Rattle.euclid_parser.proofs.Filled.{filled_reads}
use Rattle.euclid_parser.proofs.ReadValues.{and_or_colon, IsComparison, condition_reads}

-- ---- what has a spelling

abbrev pub HasTree : Trees → Type 0
HasTree NoTree = ⊥
HasTree (MoreTrees first others) = Unit {0}

abbrev mutual
  pub IsTree : Tree → Type 0
  IsTree (Branch tests below) = AllFilled IsComparison tests × IsBelow below

  pub IsBelow : Below → Type 0
  IsBelow Leaf = Unit {0}
  IsBelow (Under trees) = HasTree trees × AreTrees trees

  pub AreTrees : Trees → Type 0
  AreTrees NoTree = Unit {0}
  AreTrees (MoreTrees first others) = IsTree first × AreTrees others

abbrev pub IsStatement : Statement → Type 0
IsStatement s = IsTree (tree_of s)

abbrev pub spelled_at : ℕ → Statement → List Cell
spelled_at level s = tree_cells level (tree_of s)

-- the same, for a list of which each item is spelled alike
abbrev pub each_at : ℕ → ℕ → Statement → List Cell
each_at level i s = spelled_at level s

-- ---- trees and their statements

pub trees-list : (level i : ℕ) (ss : List Statement) → trees_cells level (trees_of (map tree_of ss)) ≡ list_cells (each_at level) i ss
trees-list level i [] = refl
trees-list level i (s ∷ ss) = ap (λ (qs : List Cell). spelled_at level s ++ qs) (trees-list level (suc i) ss)

pub trees_fine : (ss : List Statement) → AllFine IsStatement ss → AreTrees (trees_of (map tree_of ss))
trees_fine [] fine = tt
trees_fine (s ∷ ss) fine = (fine.0, trees_fine ss fine.1)

pub fine_trees : (ts : Trees) → AreTrees ts → AllFine IsStatement (statements_of ts)
fine_trees NoTree fine = tt
fine_trees (MoreTrees first others) fine = (subst IsTree (sym (tree-own first)) fine.0, fine_trees others fine.1)

-- which tokens a statement may go on with
abbrev pub goes_on : Token → Bool
goes_on = or (is_the_sign CurlyOpen) and_or_colon

abbrev pub word_or_goes_on : Token → Bool
word_or_goes_on = or is_word_token goes_on

tree_opened : (level : ℕ) (t : Tree) → IsTree t → starts is_word_token (tokens (tree_cells level t)) ≡ true
tree_opened level (Branch [] below) fine = absurd fine.0
tree_opened level (Branch (c ∷ cs) below) fine = refl

pub statement_opened : (level : ℕ) → Opened (spelled_at level) IsStatement is_word_token
statement_opened level s fine = tree_opened level (tree_of s) fine

-- ---- what stands below a condition

abbrev inner_cells : ℕ → List Statement → List Cell
inner_cells level ss = sign CurlyOpen ∷ (list_cells (each_at level) 0 ss ++ sign CurlyClose ∷ [])

abbrev nested_cells : ℕ → List Statement → List Cell
nested_cells level ss = beginning (BeginsLevel level) (inner_cells level ss)

nested_reads : (level : ℕ) (P : Reader Statement) → IsReader (spelled_at level) IsStatement goes_on P → IsReader (inner_cells level) (AllFilled IsStatement) never (nested_reader P)
unfolding nested_reader statements_reader
nested_reads level P a =
    behind_reads (λ (ss : List Statement). list_cells (each_at level) 0 ss ++ sign CurlyClose ∷ []) (AllFilled IsStatement) never (closed (filled is_word_token (many is_word_token (λ _. P) 0)) CurlyClose) (sign CurlyOpen) (sign_reader CurlyOpen) (sign_reads CurlyOpen)
    (closed_reads (list_cells (each_at level) 0) (AllFilled IsStatement) word_or_goes_on (filled is_word_token (many is_word_token (λ _. P) 0)) CurlyClose
    (filled_reads (each_at level) IsStatement goes_on is_word_token (λ _. P) (λ i. a) (λ i. statement_opened level) (apart-word goes_on (λ w. refl)))
    refl)

-- ---- a statement, with what reads below its condition

abbrev body : ℕ → Tree → List Cell
body level (Branch tests below) = condition_cells tests ++ below_cells (suc level) below

abbrev body_cells : ℕ → Statement → List Cell
body_cells level s = body level (tree_of s)

tree-body : (level : ℕ) (t : Tree) → tree_cells level t ≡ beginning BeginsStatement (body level t)
tree-body level (Branch tests below) = refl

tree_body_opened : (level : ℕ) (t : Tree) → IsTree t → starts is_word_token (tokens (body level t)) ≡ true
tree_body_opened level (Branch [] below) fine = absurd fine.0
tree_body_opened level (Branch (c ∷ cs) below) fine = refl

abbrev simple : List ℕ → Comparison
simple w = record { lhs = w; op = op.Equal; value = Number (pos 0) }

abbrev simplest : List ℕ → Statement
simplest w = statement_made (simple w ∷ [], None)

simplest_fine : (w : List ℕ) → IsStatement (simplest w)
simplest_fine w = subst IsTree (sym (tree-roll (simple w ∷ []) None)) ((tt, tt), tt)

body_begun : (level : ℕ) → Begun (body_cells level) IsStatement is_word_token
body_begun level (token.Word w) is = (simplest w, simplest_fine w, token.Sign Equal ∷ token.Number (pos 0) ∷ [], ap (λ (t : Tree). tokens (body level t)) (tree-roll (simple w ∷ []) None), written_next (token.Sign Equal) (token.Number (pos 0) ∷ []) (sign_written Equal) (written_one (token.Number (pos 0)) zero_written))
body_begun level (token.Sign s) is = absurd cc
body_begun level (token.Str s) is = absurd cc
body_begun level (token.Number s) is = absurd cc

abbrev Parts : Type 0
Parts = List Comparison × Option (List Statement)

abbrev PartsFine : Parts → Type 0
PartsFine z = AllFilled IsComparison z.0 × OptionFine (AllFilled IsStatement) z.1

with_below : (level : ℕ) (N : Reader (Option (List Statement))) → IsReader (option_cells (nested_cells (suc level))) (OptionFine (AllFilled IsStatement)) (is_the_sign CurlyOpen) N
    → IsReader (spelled_at level) IsStatement goes_on (limited BeginsStatement is_word_token (mapped statement_made (both condition_reader N)))
with_below level N a =
    respelled_reads (λ (s : Statement). beginning BeginsStatement (body_cells level s)) IsStatement goes_on (limited BeginsStatement is_word_token (mapped statement_made (both condition_reader N))) (spelled_at level) (λ s. tree-body level (tree_of s))
    (limited_reads (body_cells level) IsStatement goes_on is_word_token (mapped statement_made (both condition_reader N)) BeginsStatement
    (mapped_reads (λ (z : Parts). condition_cells z.0 ++ option_cells (nested_cells (suc level)) z.1) PartsFine goes_on (both condition_reader N) (body_cells level) IsStatement statement_made
    (loose condition_cells (AllFilled IsComparison) and_or_colon condition_reader (option_cells (nested_cells (suc level))) (OptionFine (AllFilled IsStatement)) (is_the_sign CurlyOpen) N goes_on condition_reads a (is_the_sign CurlyOpen) opened (apart-sign CurlyOpen and_or_colon refl) (within-right (is_the_sign CurlyOpen) and_or_colon) (within-left (is_the_sign CurlyOpen) and_or_colon))
    (λ z fine. (subst IsTree (sym (tree-roll z.0 z.1)) (fine.0, there_fine z.1 fine.1), ap (body level) (tree-roll z.0 z.1) ∙ ap (λ (qs : List Cell). condition_cells z.0 ++ qs) (there z.1)))
    (λ s fine. back s (tree_of s) refl fine))
    (λ s fine. tree_body_opened level (tree_of s) fine) (body_begun level))
  where
    opened : (o : Option (List Statement)) → OptionFine (AllFilled IsStatement) o → (tokens (option_cells (nested_cells (suc level)) o) ≡ []) ⊎ (starts (is_the_sign CurlyOpen) (tokens (option_cells (nested_cells (suc level)) o)) ≡ true)
    opened None fine = inl refl
    opened (Some ss) fine = inr refl

    there_fine : (o : Option (List Statement)) → OptionFine (AllFilled IsStatement) o → IsBelow (trees_below o)
    there_fine None fine = tt
    there_fine (Some []) fine = absurd fine
    there_fine (Some (s ∷ ss)) fine = (tt, (fine.0, trees_fine ss fine.1))

    there : (o : Option (List Statement)) → below_cells (suc level) (trees_below o) ≡ option_cells (nested_cells (suc level)) o
    there None = refl
    there (Some ss) = ap (λ (qs : List Cell). beginning (BeginsLevel (suc level)) (sign CurlyOpen ∷ (qs ++ sign CurlyClose ∷ []))) (trees-list (suc level) 0 ss)

    back : (s : Statement) (t : Tree) → tree_of s ≡ t → IsTree t → (z : Parts) × PartsFine z × (statement_made z ≡ s)
    back s (Branch tests Leaf) e fine = ((tests, None), (fine.0, tt), ap statement_of (sym e) ∙ own s)
    back s (Branch tests (Under NoTree)) e fine = absurd fine.1.0
    back s (Branch tests (Under (MoreTrees first others))) e fine =
        ((tests, Some (statement_of first ∷ statements_of others)), (fine.0, fine_trees (MoreTrees first others) fine.1.1), ap statement_of (sym e) ∙ own s)

-- ---- all levels

level-fits : (level : ℕ) → level ≤ 32 → nat_le 33 level ≡ false
level-fits level l = grind arith

level-over : (level : ℕ) → level ≡ 33 → nat_le 33 level ≡ true
level-over level l = grind arith

nested_begun : (level : ℕ) → Begun (nested_cells level) (AllFilled IsStatement) (is_the_sign CurlyOpen)
nested_begun level t is =
    let same : t ≡ token.Sign CurlyOpen = is_the_sign-is CurlyOpen t is in (
      simplest (codes "a") ∷ [],
      (simplest_fine (codes "a"), tt),
      rest,
      ap (λ (u : Tree). tokens (beginning (BeginsLevel level) (sign CurlyOpen ∷ ((tree_cells level u ++ []) ++ sign CurlyClose ∷ [])))) (tree-roll (simple (codes "a") ∷ []) None) ∙ ap (λ (u : Token). u ∷ rest) (sym same),
      written,
    )
  where
    rest : List Token
    rest = token.Word (codes "a") ∷ token.Sign Equal ∷ token.Number (pos 0) ∷ token.Sign CurlyClose ∷ []

    written : AllWritten rest
    written =
        written_next (token.Word (codes "a")) (token.Sign Equal ∷ token.Number (pos 0) ∷ token.Sign CurlyClose ∷ []) (word_written (codes "a") refl refl)
        (written_next (token.Sign Equal) (token.Number (pos 0) ∷ token.Sign CurlyClose ∷ []) (sign_written Equal) (written_next (token.Number (pos 0)) (token.Sign CurlyClose ∷ []) zero_written (written_one (token.Sign CurlyClose) (sign_written CurlyClose))))

pub statement_reads : (levels level : ℕ) → level + levels ≡ 32 → IsReader (spelled_at level) IsStatement goes_on (statement_reader levels)
unfolding statement_reader
statement_reads zero level sum =
    with_below level (optional (is_the_sign CurlyOpen) too_much)
    (blocked_reads (nested_cells (suc level)) (AllFilled IsStatement) (is_the_sign CurlyOpen) (is_the_sign CurlyOpen) (λ ss fine. refl) (nested_begun (suc level))
    (λ c ss w fine. rw (level-over (suc level) (omega arith)) refl) (within-same (is_the_sign CurlyOpen)))
statement_reads (suc levels) level sum =
    with_below level (optional (is_the_sign CurlyOpen) (nested_reader (statement_reader levels)))
    (optional_reads (nested_cells (suc level)) (AllFilled IsStatement) never (is_the_sign CurlyOpen) (is_the_sign CurlyOpen) (nested_reader (statement_reader levels))
    (fits_reads (inner_cells (suc level)) (AllFilled IsStatement) never (nested_reader (statement_reader levels)) (BeginsLevel (suc level)) (λ c. level-fits (suc level) (omega arith)) (λ c. refl)
    (nested_reads (suc level) (statement_reader levels) (statement_reads levels (suc level) (omega arith))))
    (λ ss fine. refl) (λ t e. refl) (within-same (is_the_sign CurlyOpen)))

-- ---- the statements of a rule

abbrev pub block_cells : List Statement → List Cell
block_cells ss = sign CurlyOpen ∷ (list_cells (each_at 1) 0 ss ++ sign CurlyClose ∷ [])

pub block_reads : IsReader block_cells (AllFine IsStatement) never (block_reader 31)
unfolding block_reader statements_reader
block_reads =
    behind_reads (λ (ss : List Statement). list_cells (each_at 1) 0 ss ++ sign CurlyClose ∷ []) (AllFine IsStatement) never (closed (many is_word_token (λ _. statement_reader 31) 0) CurlyClose) (sign CurlyOpen) (sign_reader CurlyOpen) (sign_reads CurlyOpen)
    (closed_reads (list_cells (each_at 1) 0) (AllFine IsStatement) word_or_goes_on (many is_word_token (λ _. statement_reader 31) 0) CurlyClose
    (many_reads (each_at 1) IsStatement goes_on is_word_token word_or_goes_on (λ _. statement_reader 31) (λ i. statement_reads 31 1 refl) (λ i. statement_opened 1) (apart-word goes_on (λ w. refl)) (within-right is_word_token goes_on) (within-left is_word_token goes_on) 0)
    refl)
