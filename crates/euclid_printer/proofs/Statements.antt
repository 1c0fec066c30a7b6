-- Statements by their parts.
use Rattle.std.proofs.Common.{◌≡◌, ℕ, ◌+◌, List, [], ◌∷◌, ◌++◌, Bool, true, not, ◌==◌, ◌&&◌, Option, Some, None, map, refl, ap, ◌∙◌}
use Rattle.std.specs.List.{list_all, flat_map}
use Rattle.std.proofs.lemmas.List.{length-map}
use Rattle.euclid_lexer.specs.declared.token.Sign.TheVariants.{CurlyOpen, CurlyClose}
use Rattle.euclid_lexer.specs.Pieces.{Piece}
use Rattle.euclid_ast.specs.declared.statement.Comparison.{Comparison}
use Rattle.euclid_ast.specs.declared.statement.Statement.{Statement, roll-Statement}
use Rattle.euclid_ast.specs.declared.statement.Statement.TheViews.{out-Statement}
use Rattle.euclid_ast.specs.declared.statement.Statement.TheFolds.{fold_out-Statement, fold-roll-Statement, map-Statement}
use Rattle.euclid_ast.specs.Limits.{comparisons_step, comparisons_of, comparisons_in}
use Rattle.euclid_grammar.specs.Fits.{is_filled}
use Rattle.euclid_printer.specs.Expressible.{says_comparison, says_step, says_statement}
use Rattle.euclid_printer.specs.Values.{sign_piece, space}
use Rattle.euclid_printer.specs.Layout.{line_end, indent, condition_pieces, statement_step, statement_pieces, statements_pieces}

-- what is asked of nested statements, over the statements themselves
abbrev pub nested_said : Option (List Statement) → Bool
nested_said None = true
nested_said (Some nested) = is_filled nested && list_all says_statement nested

all-map : {X : Type 0} (f : X → Bool) (xs : List X) → list_all (λ b. b) (map f xs) ≡ list_all f xs
all-map f [] = refl
all-map f (x ∷ xs) = ap (λ b. f x && b) (all-map f xs)

filled-map : {X Y : Type 0} (f : X → Y) (xs : List X) → is_filled (map f xs) ≡ is_filled xs
filled-map f xs = ap (λ n. not (n == 0)) (length-map xs f)

said-map : (condition : List Comparison) (nested : Option (List Statement))
    → says_step (map-Statement Statement Bool says_statement (record { condition = condition; nested = nested })) ≡ ((is_filled condition && list_all says_comparison condition) && nested_said nested)
said-map condition None = refl
said-map condition (Some nested) =
    ap (λ b. (is_filled condition && list_all says_comparison condition) && (b && list_all (λ said. said) (map says_statement nested))) (filled-map says_statement nested)
    ∙ ap (λ b. (is_filled condition && list_all says_comparison condition) && (is_filled nested && b)) (all-map says_statement nested)

pub says_statement-out : (s : Statement)
    → says_statement s ≡ ((is_filled (out-Statement s).condition && list_all says_comparison (out-Statement s).condition) && nested_said (out-Statement s).nested)
says_statement-out s = fold_out-Statement Bool says_step s ∙ said-map (out-Statement s).condition (out-Statement s).nested

-- the same of what is printed
abbrev pub nested_printed : ℕ → Option (List Statement) → List Piece
nested_printed level None = line_end ∷ []
nested_printed level (Some nested) = space ∷ sign_piece CurlyOpen ∷ line_end ∷ (statements_pieces (level + 1) nested ++ indent level ∷ sign_piece CurlyClose ∷ line_end ∷ [])

pieces-map : (f : Statement → ℕ → List Piece) (level : ℕ) (ss : List Statement) → flat_map (λ (inner : ℕ → List Piece). inner level) (map f ss) ≡ flat_map (λ (s : Statement). f s level) ss
pieces-map f level [] = refl
pieces-map f level (s ∷ ss) = ap (λ (u : List Piece). f s level ++ u) (pieces-map f level ss)

printed-map : (level : ℕ) (condition : List Comparison) (nested : Option (List Statement))
    → statement_step (map-Statement Statement (ℕ → List Piece) statement_pieces (record { condition = condition; nested = nested })) level ≡ indent level ∷ (condition_pieces condition ++ nested_printed level nested)
printed-map level condition None = refl
printed-map level condition (Some nested) =
    ap (λ (u : List Piece). indent level ∷ (condition_pieces condition ++ space ∷ sign_piece CurlyOpen ∷ line_end ∷ (u ++ indent level ∷ sign_piece CurlyClose ∷ line_end ∷ []))) (pieces-map statement_pieces (level + 1) nested)

pub statement_pieces-out : (s : Statement) (level : ℕ)
    → statement_pieces s level ≡ indent level ∷ (condition_pieces (out-Statement s).condition ++ nested_printed level (out-Statement s).nested)
unfolding statement_pieces
statement_pieces-out s level = ap (λ (f : ℕ → List Piece). f level) (fold_out-Statement (ℕ → List Piece) statement_step s) ∙ printed-map level (out-Statement s).condition (out-Statement s).nested

pub statement_pieces-roll : (condition : List Comparison) (nested : Option (List Statement)) (level : ℕ)
    → statement_pieces (roll-Statement (record { condition = condition; nested = nested })) level ≡ indent level ∷ (condition_pieces condition ++ nested_printed level nested)
unfolding statement_pieces
statement_pieces-roll condition nested level =
    ap (λ (f : ℕ → List Piece). f level) (fold-roll-Statement (ℕ → List Piece) statement_step (record { condition = condition; nested = nested })) ∙ printed-map level condition nested

pub says_statement-roll : (condition : List Comparison) (nested : Option (List Statement))
    → says_statement (roll-Statement (record { condition = condition; nested = nested })) ≡ ((is_filled condition && list_all says_comparison condition) && nested_said nested)
says_statement-roll condition nested = fold-roll-Statement Bool says_step (record { condition = condition; nested = nested }) ∙ said-map condition nested

-- the comparisons of nested statements
abbrev pub comparisons_below : Option (List Statement) → List Comparison
comparisons_below None = []
comparisons_below (Some nested) = comparisons_in nested

flat-map : {X : Type 0} (f : X → List Comparison) (xs : List X) → flat_map (λ (cs : List Comparison). cs) (map f xs) ≡ flat_map f xs
flat-map f [] = refl
flat-map f (x ∷ xs) = ap (λ (u : List Comparison). f x ++ u) (flat-map f xs)

compared-map : (condition : List Comparison) (nested : Option (List Statement))
    → comparisons_step (map-Statement Statement (List Comparison) comparisons_of (record { condition = condition; nested = nested })) ≡ condition ++ comparisons_below nested
compared-map condition None = refl
compared-map condition (Some nested) = ap (λ (u : List Comparison). condition ++ u) (flat-map comparisons_of nested)

pub comparisons_of-roll : (condition : List Comparison) (nested : Option (List Statement))
    → comparisons_of (roll-Statement (record { condition = condition; nested = nested })) ≡ condition ++ comparisons_below nested
comparisons_of-roll condition nested = fold-roll-Statement (List Comparison) comparisons_step (record { condition = condition; nested = nested }) ∙ compared-map condition nested
