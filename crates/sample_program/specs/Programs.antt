-- The programs of samples.
use Rattle.std.specs.Prelude.{ℕ, ◌+◌, ◌*◌, List, [], ◌∷◌, ◌++◌, map, codes, decimal, None, slice_get}
use Rattle.std.specs.List.{filter_map, range_with_len}
use Rattle.euclid_ast.specs.declared.selection.Selection.{Selection}
use Rattle.euclid_ast.specs.declared.selection.Selection.TheVariants.{Priority}
use Rattle.euclid_ast.specs.declared.statement.Comparison.{Comparison}
use Rattle.euclid_ast.specs.declared.statement.Statement.{Statement, roll-Statement}
use Rattle.euclid_ast.specs.declared.program.Rule.{Rule}
use Rattle.euclid_ast.specs.declared.program.Program.{Program}
use Rattle.sample_program.specs.Comparisons.{comparisons}
use Rattle.sample_program.specs.Draws.{draw, draws_from}

-- the one connector `c` with a number, without an account's id
abbrev pub output : ℕ → Selection
output number = Priority (record { connector = codes "c" ++ decimal number; id = None } ∷ [])

-- the comparisons with these numbers, in order
abbrev pub condition : List ℕ → List Comparison
condition numbers = filter_map (slice_get comparisons) numbers

-- a statement with nothing nested
abbrev pub statement : List Comparison → Statement
statement condition = roll-Statement (record { condition = condition; nested = None })

-- The rule with a number takes four draws, after those of the rules before it: three for the comparisons of its one statement, and one for its output.
abbrev pub rule : ℕ → ℕ → Rule
rule seed i = record {
  name = codes "r" ++ decimal i;
  selection = output (draw seed (4 * i + 3) 4);
  statements = statement (condition (draws_from seed (4 * i) 8 3)) ∷ [];
}

-- so many rules, with numbers from 0
unfoldable pub rules : ℕ → ℕ → List Rule
rules seed count = map (rule seed) (range_with_len 0 count)

-- The program of a seed: 256 rules, and `c0` as the default's output.
unfoldable pub program : ℕ → Program
program seed = record { default_selection = output 0; rules = rules seed 256 }
