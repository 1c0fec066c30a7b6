-- The one right answer for the bytes of a text.
use Rattle.std.specs.Prelude.{◌≡◌, ◌↔◌, ℕ, List, length, Result, Ok, Err}
use Rattle.key_table.specs.Answers.{◌>>=◌}
use Rattle.euclid_lexer.specs.declared.token.Placed.{Placed}
use Rattle.euclid_lexer.specs.declared.error.LexError.{LexError}
use Rattle.euclid_lexer.specs.Tokens.{tokens_of}
use Rattle.euclid_ast.specs.declared.program.Program.{Program}
use Rattle.euclid_grammar.specs.Texts.{tokens_alone}
use Rattle.euclid_parser.specs.declared.error.ParseError.{ParseError}
use Rattle.euclid_parser.specs.declared.fault.Code.{Code}
use Rattle.euclid_parser.specs.declared.fault.Code.TheVariants.{Unexpected, TooMuch}
use Rattle.euclid_parser.specs.declared.fault.Fault.{Fault}
use Rattle.euclid_parser.specs.Parsing.{place_of, IsRight}
use Rattle.euclid_parser.specs.Reading.{all_of}

-- the codes of the faults of tokens
abbrev pub code_of : Code → ℕ
code_of Unexpected = 6
code_of TooMuch = 7

-- a fault of the tokens, at its byte
abbrev pub fault_at : ℕ → List Placed → Fault → ParseError
fault_at end placed f = record { at = place_of end placed f.left; code = code_of f.code }

-- the tokens, or the lexer's fault
abbrev pub or_told : Result (List Placed) LexError → Result (List Placed) ParseError
or_told (Ok placed) = Ok placed
or_told (Err f) = Err (record { at = f.at; code = f.code })

-- the program, or the fault of the tokens
abbrev pub or_placed : ℕ → List Placed → Result Program Fault → Result Program ParseError
or_placed end placed (Ok program) = Ok program
or_placed end placed (Err f) = Err (fault_at end placed f)

-- The program of a text, or its first fault. By TextLaw this is exactly what is right for the text, so that nobody has to read how it is found.
unfoldable pub text_file : List ℕ → Result Program ParseError
text_file bytes = or_told (tokens_of bytes) >>= λ placed. or_placed (length bytes) placed (all_of (tokens_alone placed))

-- A text has exactly one right answer.
abbrev pub TextLaw : Type 0
TextLaw = (bytes : List ℕ) (r : Result Program ParseError) → IsRight bytes r ↔ (text_file bytes ≡ r)
