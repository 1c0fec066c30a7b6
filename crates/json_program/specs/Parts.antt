-- Whether the parts of a program are within the limits, and their statements nest at most so deep.
use Rattle.std.specs.Prelude.{ℕ, nat_le, length, Bool, ◌&&◌}
use Rattle.std.specs.List.{list_all}
use Rattle.euclid_ast.specs.declared.statement.Statement.{Statement}
use Rattle.euclid_ast.specs.declared.program.Rule.{Rule}
use Rattle.euclid_ast.specs.declared.program.Program.{Program}
use Rattle.euclid_ast.specs.Limits.{levels_of, comparisons_of, is_comparison, is_short, is_selection}

-- a statement that nests at most so deep, and whose comparisons are within the limits
abbrev pub is_statement : ℕ → Statement → Bool
is_statement levels s = nat_le (levels_of s) levels && list_all is_comparison (comparisons_of s)

-- a rule with such statements
abbrev pub is_rule : ℕ → Rule → Bool
is_rule levels r = is_short r.name && (is_selection r.selection && list_all (is_statement levels) r.statements)

-- a program with at most 256 such rules
abbrev pub is_program : ℕ → Program → Bool
is_program levels p = is_selection p.default_selection && (nat_le (length p.rules) 256 && list_all (is_rule levels) p.rules)
