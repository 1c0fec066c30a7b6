-- What holds of the trees of programs.
use Rattle.std.specs.Prelude.{◌≡◌, ◌↔◌}
use Rattle.euclid_ast.specs.declared.program.Program.{Program}
use Rattle.euclid_ast.specs.Limits.{IsWithinLimits}
use Rattle.euclid_grammar.specs.Grammar.{ProgramTree, quoted, shape}
use Rattle.euclid_grammar.specs.Faults.{IsProgram, IsWithinMarks}

-- The tree that a program has with its rules' names in quotes says that program.
abbrev pub QuotedLaw : Type 0
QuotedLaw = (p : Program) → shape (quoted p) ≡ p

-- A tree of the grammar has no token that begins one too many exactly where its program is within the limits.
abbrev pub LimitsLaw : Type 0
LimitsLaw = (t : ProgramTree) → IsProgram t → IsWithinMarks t ↔ IsWithinLimits (shape t)
