-- Which bytes are the text of a program.
use Rattle.std.specs.Prelude.{◌≡◌, ℕ, List, map, Ok}
use Rattle.euclid_lexer.specs.declared.token.Token.{Token}
use Rattle.euclid_lexer.specs.declared.token.Placed.{Placed}
use Rattle.euclid_lexer.specs.Tokens.{tokens_of}
use Rattle.euclid_ast.specs.declared.program.Program.{Program}
use Rattle.euclid_grammar.specs.Grammar.{ProgramTree, shape}
use Rattle.euclid_grammar.specs.Faults.{Spells, IsWithinMarks}

-- the tokens alone
abbrev pub tokens_alone : List Placed → List Token
tokens_alone ts = map (λ p. p.token) ts

-- The bytes have tokens, and these spell a tree that says the program and is within the limits.
pub record IsTextOf (bytes : List ℕ) (program : Program) : Type 0 where
  pub placed : List Placed
  pub tree : ProgramTree
  pub tokens : tokens_of bytes ≡ Ok placed
  pub spelled : Spells (tokens_alone placed) tree
  pub within : IsWithinMarks tree
  pub says : shape tree ≡ program
