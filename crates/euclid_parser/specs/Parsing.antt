-- What is right for the bytes of a text: its program, or its first fault.
use Rattle.std.specs.Prelude.{◌≡◌, ℕ, ◌-◌, List, length, slice_get, Option, Some, None, Result, Ok, Err}
use Rattle.key_table.specs.declared.stop.Stop.{Stop}
use Rattle.key_table.specs.declared.stop.Stop.TheVariants.{Memory, Fault}
use Rattle.euclid_lexer.specs.declared.token.Placed.{Placed}
use Rattle.euclid_lexer.specs.declared.error.LexError.{LexError}
use Rattle.euclid_lexer.specs.Tokens.{tokens_of}
use Rattle.euclid_ast.specs.declared.program.Program.{Program}
use Rattle.euclid_grammar.specs.Faults.{IsUnexpected, IsTooMuch}
use Rattle.euclid_grammar.specs.Texts.{tokens_alone, IsTextOf}
use Rattle.euclid_parser.specs.declared.error.ParseError.{ParseError}

-- a token's place, or the end where there is none
abbrev pub place_or : ℕ → Option Placed → ℕ
place_or end None = end
place_or end (Some token) = token.at

-- the place of the first of so many last tokens, or the end where there are none of them
abbrev pub place_of : ℕ → List Placed → ℕ → ℕ
place_of end placed left = place_or end (slice_get placed (length placed - left))

-- A text is at fault there: it has no tokens; or it has, and the first of those that are left cannot stand there, or begins one too many.
pub data IsFault (bytes : List ℕ) (e : ParseError) : Type 0 where
  HasNoTokens : (fault : LexError) → tokens_of bytes ≡ Err fault → e ≡ record { at = fault.at; code = fault.code } → IsFault bytes e
  HasUnexpected : (placed : List Placed) → (left : ℕ) → tokens_of bytes ≡ Ok placed → IsUnexpected (tokens_alone placed) left → e ≡ record { at = place_of (length bytes) placed left; code = 6 } → IsFault bytes e
  HasTooMuch : (placed : List Placed) → (left : ℕ) → tokens_of bytes ≡ Ok placed → IsTooMuch (tokens_alone placed) left → e ≡ record { at = place_of (length bytes) placed left; code = 7 } → IsFault bytes e

-- The bytes are the text of the program, or at fault.
abbrev pub IsRight : List ℕ → Result Program ParseError → Type 0
IsRight bytes (Ok program) = IsTextOf bytes program
IsRight bytes (Err e) = IsFault bytes e

-- An answer is right, or there was no memory.
abbrev pub IsRightAnswer : List ℕ → Result Program (Stop ParseError) → Type 0
IsRightAnswer bytes (Ok program) = IsRight bytes (Ok program)
IsRightAnswer bytes (Err Memory) = Unit {0}
IsRightAnswer bytes (Err (Fault e)) = IsRight bytes (Err e)
