-- The answer for the bytes of a text is right, and nothing else is.
use Rattle.std.proofs.Common.{◌≡◌, ℕ, List, [], ◌∷◌, length, Result, Ok, Err, true, refl, sym, ap, subst, ◌∙◌}
use Rattle.std.specs.Prelude.{IfOk}
use Rattle.std.specs.List.{list_all}
use Rattle.std.proofs.lemmas.Bool.{and_from, and_parts}
use Rattle.key_table.specs.declared.stop.Stop.{Stop}
use Rattle.key_table.specs.declared.stop.Stop.TheVariants as stop
use Rattle.key_table.specs.Answers.{◌>>=◌, Answers}
use Rattle.euclid_lexer.specs.declared.token.Placed.{Placed}
use Rattle.euclid_lexer.specs.declared.error.LexError.{LexError}
use Rattle.euclid_lexer.specs.Pieces.{can_be_written, AllCanBeWritten, WrittenLaw}
use Rattle.euclid_lexer.specs.Tokens.{tokens_of}
use Rattle.euclid_ast.specs.declared.program.Program.{Program}
use Rattle.euclid_ast.specs.Limits.{IsWithinLimits}
use Rattle.euclid_grammar.specs.Laws.{LimitsLaw}
use Rattle.euclid_grammar.specs.Texts.{tokens_alone}
use Rattle.euclid_parser.specs.declared.error.ParseError.{ParseError}
use Rattle.euclid_parser.specs.declared.fault.Code.{Code}
use Rattle.euclid_parser.specs.declared.fault.Code.TheVariants.{Unexpected, TooMuch}
use Rattle.euclid_parser.specs.declared.fault.Fault.{Fault}
use Rattle.euclid_parser.specs.Parsing.{IsFault, HasNoTokens, HasUnexpected, HasTooMuch, IsRight, IsRightAnswer}
use Rattle.euclid_parser.specs.Reading.{tree_of_all, all_of}
use Rattle.euclid_parser.specs.TextFiles.{fault_at, or_told, or_placed, text_file, TextLaw}
use Rattle.euclid_parser.proofs.Written.{AllWritten}
use Rattle.euclid_parser.proofs.Forgets.{shaped, all_forgets}
use Rattle.euclid_parser.proofs.Whole.{IsFaultOf, all_again, unexpected_only, too_much_only}
use Rattle.euclid_parser.proofs.Answer.{found, refused}

all_alone : (placed : List Placed) → list_all (λ (p : Placed). can_be_written p.token) placed ≡ true → AllWritten (tokens_alone placed)
all_alone [] h = refl
all_alone (p ∷ placed) h =
    let parts = and_parts (can_be_written p.token) (list_all (λ (p : Placed). can_be_written p.token) placed) h in and_from (can_be_written p.token) (list_all can_be_written (tokens_alone placed)) parts.0 (all_alone placed parts.1)

-- the tokens of a text can be written
written_tokens : WrittenLaw → (bytes : List ℕ) (placed : List Placed) → tokens_of bytes ≡ Ok placed → AllWritten (tokens_alone placed)
written_tokens law bytes placed e = all_alone placed (subst AllCanBeWritten e (law bytes))

fault_of : (bytes : List ℕ) (placed : List Placed) → tokens_of bytes ≡ Ok placed → (c : Code) (left : ℕ) → IsFaultOf c (tokens_alone placed) left → IsFault bytes (fault_at (length bytes) placed (record { code = c; left = left }))
fault_of bytes placed e Unexpected left is = HasUnexpected placed left e is refl
fault_of bytes placed e TooMuch left is = HasTooMuch placed left e is refl

pub right : WrittenLaw → (bytes : List ℕ) → IsRight bytes (text_file bytes)
unfolding text_file
right law bytes = at (tokens_of bytes) refl
  where
    by : (placed : List Placed) → tokens_of bytes ≡ Ok placed → (q : Result Program Fault) → all_of (tokens_alone placed) ≡ q → IsRight bytes (or_placed (length bytes) placed q)
    by placed e (Ok p) given =
        let f = found (tokens_alone placed) (written_tokens law bytes placed e) p given in record { placed = placed; tree = f.tree; tokens = e; spelled = f.spelled; within = f.within; says = f.says }
    by placed e (Err f) given = fault_of bytes placed e f.code f.left (refused (tokens_alone placed) (written_tokens law bytes placed e) f given)

    at : (r : Result (List Placed) LexError) → tokens_of bytes ≡ r → IsRight bytes (or_told r >>= λ placed. or_placed (length bytes) placed (all_of (tokens_alone placed)))
    at (Ok placed) e = by placed e (all_of (tokens_alone placed)) refl
    at (Err f) e = HasNoTokens f e refl

pub only_right : WrittenLaw → (bytes : List ℕ) (r : Result Program ParseError) → IsRight bytes r → text_file bytes ≡ r
unfolding text_file
only_right law bytes (Ok p) h =
    let read : all_of (tokens_alone h.placed) ≡ Ok p = all_forgets (tokens_alone h.placed) ∙ ap shaped (ap tree_of_all h.spelled.1 ∙ all_again h.tree h.spelled.0.fits h.within) ∙ ap (λ (q : Program). Ok q) h.says in
    rw (h.tokens, read) refl
only_right law bytes (Err e) (HasNoTokens f faulty is) = rw faulty (ap (λ (f : ParseError). Err f) (sym is))
only_right law bytes (Err e) (HasUnexpected placed left tokens unexpected is) =
    let read : all_of (tokens_alone placed) ≡ Err (record { code = Unexpected; left = left }) = all_forgets (tokens_alone placed) ∙ ap shaped (unexpected_only (tokens_alone placed) left (written_tokens law bytes placed tokens) unexpected) in
    rw (tokens, read) (ap (λ (f : ParseError). Err f) (sym is))
only_right law bytes (Err e) (HasTooMuch placed left tokens too_much is) =
    let read : all_of (tokens_alone placed) ≡ Err (record { code = TooMuch; left = left }) = all_forgets (tokens_alone placed) ∙ ap shaped (too_much_only (tokens_alone placed) left too_much) in
    rw (tokens, read) (ap (λ (f : ParseError). Err f) (sym is))

pub text-law : WrittenLaw → TextLaw
text-law law bytes r = (only_right law bytes r, λ e. subst (IsRight bytes) e (right law bytes))

pub right_answer : WrittenLaw → (bytes : List ℕ) (r : Result Program (Stop ParseError)) → Answers (λ (p : Program). p) r (text_file bytes) → IsRightAnswer bytes r
right_answer law bytes (Ok p) given = subst (IsRight bytes) given (right law bytes)
right_answer law bytes (Err stop.Memory) given = tt
right_answer law bytes (Err (stop.Fault e)) given = subst (IsRight bytes) given (right law bytes)

-- a program that is found is within the limits
pub within_limits : LimitsLaw → (bytes : List ℕ) (r : Result Program (Stop ParseError)) → IsRightAnswer bytes r → IfOk r (λ p. IsWithinLimits p)
within_limits law bytes (Ok p) is = subst IsWithinLimits is.says ((law is.tree is.spelled.0).0 is.within)
within_limits law bytes (Err stop) is = tt
