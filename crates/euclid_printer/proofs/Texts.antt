-- Texts of pieces, part by part.
use Rattle.std.proofs.Common.{◌≡◌, ℕ, ◌+◌, ◌*◌, Option, Some, None, replicate, List, [], ◌∷◌, ◌++◌, refl, ap, sym, ◌∙◌}
use Rattle.std.specs.Prelude.{codes}
use Rattle.std.specs.List.{flat_map}
use Rattle.std.proofs.lemmas.List.{append_assoc}
use Rattle.euclid_lexer.specs.declared.token.Sign.TheVariants.{SquareClose, RoundClose}
use Rattle.euclid_lexer.specs.Pieces.{Piece, text_of}
use Rattle.euclid_printer.proofs.Pieces.{text_of-append}
use Rattle.euclid_ast.specs.declared.selection.Share.{Share}
use Rattle.euclid_printer.specs.Values.{sign_piece, joined, comma, in_brackets, listed, share_item, selection_pieces}
use Rattle.euclid_ast.specs.declared.selection.Selection.TheVariants.{Volume}
use Rattle.euclid_ast.specs.declared.statement.Comparison.{Comparison}
use Rattle.euclid_ast.specs.declared.statement.Statement.{Statement}
use Rattle.euclid_ast.specs.declared.statement.Statement.TheViews.{out-Statement}
use Rattle.euclid_ast.specs.declared.program.Rule.{Rule}
use Rattle.euclid_ast.specs.declared.program.Program.{Program}
use Rattle.euclid_printer.specs.Layout.{comparison_pieces, condition_pieces, ampersand, statement_pieces, statements_pieces, rule_pieces, program_pieces}
use Rattle.euclid_printer.proofs.Statements.{nested_printed, statement_pieces-out}
use Rattle.euclid_printer.specs.Printing.{behind_text, joined_text}

text_of-behind : {X : Type 0} (separator : List Piece) (item : X → List Piece) (xs : List X)
    → text_of (flat_map (λ x. separator ++ item x) xs) ≡ behind_text (text_of separator) (λ x. text_of (item x)) xs
text_of-behind separator item [] = refl
text_of-behind separator item (x ∷ xs) =
    text_of-append (separator ++ item x) (flat_map (λ x. separator ++ item x) xs)
    ∙ ap (λ (u : List ℕ). u ++ text_of (flat_map (λ x. separator ++ item x) xs)) (text_of-append separator (item x))
    ∙ ap (λ (u : List ℕ). text_of separator ++ text_of (item x) ++ u) (text_of-behind separator item xs)

pub text_of-joined : {X : Type 0} (separator : List Piece) (item : X → List Piece) (xs : List X)
    → text_of (joined separator item xs) ≡ joined_text (text_of separator) (λ x. text_of (item x)) xs
text_of-joined separator item [] = refl
text_of-joined separator item (x ∷ xs) =
    text_of-append (item x) (flat_map (λ x. separator ++ item x) xs) ∙ ap (λ (u : List ℕ). text_of (item x) ++ u) (text_of-behind separator item xs)

pub text_of_brackets : {X : Type 0} (item : X → List Piece) (xs : List X)
    → text_of (in_brackets item xs) ≡ 40 ∷ (joined_text (codes ", ") (λ x. text_of (item x)) xs ++ 41 ∷ [])
text_of_brackets item xs =
    ap (λ (u : List ℕ). 40 ∷ u) (text_of-append (joined comma item xs) (sign_piece RoundClose ∷ []) ∙ ap (λ (u : List ℕ). u ++ 41 ∷ []) (text_of-joined comma item xs))

pub text_of_listed : {X : Type 0} (item : X → List Piece) (xs : List X)
    → text_of (listed item xs) ≡ 91 ∷ (joined_text (codes ", ") (λ x. text_of (item x)) xs ++ 93 ∷ [])
text_of_listed item xs =
    ap (λ (u : List ℕ). 91 ∷ u) (text_of-append (joined comma item xs) (sign_piece SquareClose ∷ []) ∙ ap (λ (u : List ℕ). u ++ 93 ∷ []) (text_of-joined comma item xs))

-- what is appended to what was appended
pub then : (a b x y : List ℕ) (c : List ℕ) → b ≡ a ++ x → c ≡ b ++ y → c ≡ a ++ (x ++ y)
then a b x y c p q = q ∙ ap (λ (u : List ℕ). u ++ y) p ∙ append_assoc a x y

pub text_of_volume : (shares : List Share) → text_of (selection_pieces (Volume shares)) ≡ codes "split [" ++ (joined_text (codes ", ") (λ s. text_of (share_item s)) shares ++ 93 ∷ [])
text_of_volume shares = ap (λ (u : List ℕ). codes "split " ++ u) (text_of_listed share_item shares)

text_of-each : {X : Type 0} (item : X → List Piece) (xs : List X) → text_of (flat_map item xs) ≡ flat_map (λ x. text_of (item x)) xs
text_of-each item [] = refl
text_of-each item (x ∷ xs) = text_of-append (item x) (flat_map item xs) ∙ ap (λ (u : List ℕ). text_of (item x) ++ u) (text_of-each item xs)

-- the text of statements
abbrev pub statements_text : ℕ → List Statement → List ℕ
statements_text level ss = flat_map (λ (s : Statement). text_of (statement_pieces s level)) ss

abbrev pub condition_text : List Comparison → List ℕ
condition_text cs = joined_text (codes " & ") (λ (c : Comparison). text_of (comparison_pieces c)) cs

abbrev pub nested_text : ℕ → Option (List Statement) → List ℕ
nested_text level None = 10 ∷ []
nested_text level (Some nested) = codes " {\n" ++ (statements_text (level + 1) nested ++ (replicate (2 * level) 32 ++ codes "}\n"))

text_of-nested : (level : ℕ) (nested : Option (List Statement)) → text_of (nested_printed level nested) ≡ nested_text level nested
text_of-nested level None = refl
text_of-nested level (Some nested) =
    ap (λ (u : List ℕ). codes " {\n" ++ u)
    (text_of-append (statements_pieces (level + 1) nested) _ ∙ ap (λ (u : List ℕ). u ++ (replicate (2 * level) 32 ++ codes "}\n")) (text_of-each (λ (s : Statement). statement_pieces s (level + 1)) nested))

pub text_of_statement : (s : Statement) (level : ℕ)
    → text_of (statement_pieces s level) ≡ replicate (2 * level) 32 ++ (condition_text (out-Statement s).condition ++ nested_text level (out-Statement s).nested)
text_of_statement s level =
    ap text_of (statement_pieces-out s level)
    ∙ ap (λ (u : List ℕ). replicate (2 * level) 32 ++ u)
    (text_of-append (condition_pieces (out-Statement s).condition) (nested_printed level (out-Statement s).nested)
    ∙ ap (λ (u : List ℕ). u ++ text_of (nested_printed level (out-Statement s).nested)) (text_of-joined ampersand comparison_pieces (out-Statement s).condition)
    ∙ ap (λ (u : List ℕ). condition_text (out-Statement s).condition ++ u) (text_of-nested level (out-Statement s).nested))

pub text_of_rule : (r : Rule)
    → text_of (rule_pieces r) ≡ (34 ∷ (r.name ++ codes "\": ")) ++ (text_of (selection_pieces r.selection) ++ (codes " {\n" ++ (statements_text 1 r.statements ++ codes "}\n")))
text_of_rule r =
    let closing = codes "}\n" in
    let behind = text_of (selection_pieces r.selection) ++ (codes " {\n" ++ (statements_text 1 r.statements ++ closing)) in
    ap (λ (u : List ℕ). 34 ∷ (r.name ++ 34 ∷ []) ++ (codes ": " ++ u))
    (text_of-append (selection_pieces r.selection) _
    ∙ ap (λ (u : List ℕ). text_of (selection_pieces r.selection) ++ (codes " {\n" ++ u))
    (text_of-append (statements_pieces 1 r.statements) _ ∙ ap (λ (u : List ℕ). u ++ closing) (text_of-each (λ (s : Statement). statement_pieces s 1) r.statements)))
    ∙ ap (λ (u : List ℕ). 34 ∷ u) (append_assoc r.name (34 ∷ []) (codes ": " ++ behind) ∙ sym (append_assoc r.name (codes "\": ") behind))

pub text_of_program : (p : Program)
    → text_of (program_pieces p) ≡ codes "default: " ++ (text_of (selection_pieces p.default_selection) ++ (10 ∷ flat_map (λ (r : Rule). text_of (rule_pieces r)) p.rules))
text_of_program p =
    ap (λ (u : List ℕ). codes "default: " ++ u)
    (text_of-append (selection_pieces p.default_selection) _ ∙ ap (λ (u : List ℕ). text_of (selection_pieces p.default_selection) ++ 10 ∷ u) (text_of-each rule_pieces p.rules))
