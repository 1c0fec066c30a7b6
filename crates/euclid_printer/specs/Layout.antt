-- Programs as they are printed: statements on lines of their own, indented by their level.
use Rattle.std.specs.Prelude.{ℕ, ◌+◌, ◌*◌, List, [], ◌∷◌, ◌++◌, codes, Option, Some, None}
use Rattle.std.specs.List.{flat_map}
use Rattle.std.proofs.Common.{replicate}
use Rattle.euclid_lexer.specs.declared.token.Sign.TheVariants.{Colon, CurlyOpen, CurlyClose, Ampersand}
use Rattle.euclid_lexer.specs.Pieces.{Piece, White}
use Rattle.euclid_ast.specs.declared.statement.Comparison.{Comparison}
use Rattle.euclid_ast.specs.declared.statement.Statement.{Statement}
use Rattle.euclid_ast.specs.declared.statement.Statement.TheOpen.{Statement-F}
use Rattle.euclid_ast.specs.declared.statement.Statement.TheFolds.{fold-Statement}
use Rattle.euclid_ast.specs.declared.program.Rule.{Rule}
use Rattle.euclid_ast.specs.declared.program.Program.{Program}
use Rattle.euclid_grammar.specs.Grammar.{op_sign}
use Rattle.euclid_printer.specs.Values.{sign_piece, word_piece, str_piece, space, joined, value_pieces, selection_pieces}

-- a line feed
abbrev pub line_end : Piece
line_end = White (10 ∷ [])

-- so many levels of two spaces
abbrev pub indent : ℕ → Piece
indent level = White (replicate (2 * level) 32)

-- a left side, an operator and a value, with spaces between them
abbrev pub comparison_pieces : Comparison → List Piece
comparison_pieces c = word_piece c.lhs ∷ space ∷ sign_piece (op_sign c.op) ∷ space ∷ value_pieces c.value

-- what stands between two comparisons
abbrev pub ampersand : List Piece
ampersand = space ∷ sign_piece Ampersand ∷ space ∷ []

-- the comparisons of a statement
abbrev pub condition_pieces : List Comparison → List Piece
condition_pieces cs = joined ampersand comparison_pieces cs

-- the end of a statement's line, and the nested statements, where there is such a list, with the line that ends it
abbrev pub nested_pieces : ℕ → Option (List (ℕ → List Piece)) → List Piece
nested_pieces level None = line_end ∷ []
nested_pieces level (Some nested) =
    space ∷ sign_piece CurlyOpen ∷ line_end ∷ (flat_map (λ (inner : ℕ → List Piece). inner (level + 1)) nested ++ indent level ∷ sign_piece CurlyClose ∷ line_end ∷ [])

-- One statement at a level, by what is printed for each nested one at any level.
abbrev pub statement_step : Statement-F (ℕ → List Piece) → ℕ → List Piece
statement_step s level = indent level ∷ (condition_pieces s.condition ++ nested_pieces level s.nested)

-- a statement at each level, the outermost being level 1
unfoldable pub statement_pieces : Statement → ℕ → List Piece
statement_pieces s = fold-Statement (ℕ → List Piece) statement_step s

-- statements of the same level
abbrev pub statements_pieces : ℕ → List Statement → List Piece
statements_pieces level statements = flat_map (λ (s : Statement). statement_pieces s level) statements

-- a rule's name in quotes, what it gives, and its statements in curly brackets, of level 1
abbrev pub rule_pieces : Rule → List Piece
rule_pieces r =
    str_piece r.name ∷ sign_piece Colon ∷ space ∷ (selection_pieces r.selection ++ space ∷ sign_piece CurlyOpen ∷ line_end ∷ (statements_pieces 1 r.statements ++ sign_piece CurlyClose ∷ line_end ∷ []))

-- a line with the default, and then the rules
abbrev pub program_pieces : Program → List Piece
program_pieces p = word_piece (codes "default") ∷ sign_piece Colon ∷ space ∷ (selection_pieces p.default_selection ++ line_end ∷ flat_map rule_pieces p.rules)
