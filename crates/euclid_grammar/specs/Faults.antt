-- When a list of tokens is a program, begins one, or is at fault.
use Rattle.std.specs.Prelude.{◌≡◌, ℕ, suc, true, false, List, [], ◌∷◌, ◌++◌, length}
use Rattle.std.specs.List.{list_all}
use Rattle.euclid_grammar.specs.declared.counts.Counts.{Counts}
use Rattle.euclid_lexer.specs.declared.token.Token.{Token}
use Rattle.euclid_lexer.specs.Pieces.{can_be_written}
use Rattle.euclid_grammar.specs.Marks.{Cell, tokens}
use Rattle.euclid_grammar.specs.Fits.{start, any_over, after_all, is_program}
use Rattle.euclid_grammar.specs.Grammar.{ProgramTree, cells, spell}

-- No list is empty that may not be, each number is in its range, and each token can be written.
pub record IsProgram (p : ProgramTree) : Type 0 where
  pub fits : is_program p ≡ true
  pub written : list_all can_be_written (spell p) ≡ true

-- the tokens are the program's
abbrev pub Spells : List Token → ProgramTree → Type 0
Spells ts p = IsProgram p × (ts ≡ spell p)

-- some program begins so, limits aside
abbrev pub Begins : List Token → Type 0
Begins ts = (p : ProgramTree) × IsProgram p × (rest : List Token) × (spell p ≡ ts ++ rest)

-- none of the tokens begins one too many, where so many statements and comparisons were begun before them
abbrev pub IsWithin : Counts → List Cell → Type 0
IsWithin counts [] = Unit {0}
IsWithin counts (q ∷ qs) = (any_over counts q.marks ≡ false) × IsWithin (after_all counts q.marks) qs

-- what was begun behind the tokens
abbrev pub count : Counts → List Cell → Counts
count counts [] = counts
count counts (q ∷ qs) = count (after_all counts q.marks) qs

-- none of a tree's tokens begins one too many
abbrev pub IsWithinMarks : ProgramTree → Type 0
IsWithinMarks p = IsWithin start (cells p)

-- these tokens begin a program, and none of them begins one too many
pub record BeginsWithin (ts : List Token) : Type 0 where
  pub program : ProgramTree
  pub is_program : IsProgram program
  pub front : List Cell
  pub rest : List Cell
  pub parts : cells program ≡ front ++ rest
  pub tokens_are : tokens front ≡ ts
  pub within : IsWithin start front

-- the first of these tokens can't stand there, or more tokens are missing
abbrev pub NoneGoesOn : List Token → List Token → Type 0
NoneGoesOn before [] = (p : ProgramTree) → Spells before p → ⊥
NoneGoesOn before (t ∷ rest) = Begins (before ++ t ∷ []) → ⊥

-- the tokens up to the fault begin a program within the limits, and with the next one they begin none, limits aside
pub record IsUnexpected (ts : List Token) (left : ℕ) : Type 0 where
  pub before : List Token
  pub from : List Token
  pub split : ts ≡ before ++ from
  pub left_is : left ≡ length from
  pub begins : BeginsWithin before
  pub ends : NoneGoesOn before from

-- the tokens up to the fault begin a program within the limits, and with the next one they begin one in which it begins one too many
pub record IsTooMuch (ts : List Token) (left : ℕ) : Type 0 where
  pub program : ProgramTree
  pub is_program : IsProgram program
  pub front : List Cell
  pub next : Cell
  pub rest : List Cell
  pub parts : cells program ≡ front ++ next ∷ rest
  pub from : List Token
  pub split : ts ≡ tokens front ++ next.token ∷ from
  pub left_is : left ≡ suc (length from)
  pub within : IsWithin start front
  pub over : any_over (count start front) next.marks ≡ true
