-- Valued programs: typed programs with atoms for comparisons, those of a condition by their slots.
use Rattle.std.specs.Prelude.{List, map}
use Rattle.dir_typing.specs.declared.dir.DirStatement.{DirStatement}
use Rattle.dir_typing.specs.declared.dir.DirStatement.TheOpen.{DirStatement-F}
use Rattle.dir_typing.specs.declared.dir.DirStatement.TheFolds.{fold-DirStatement}
use Rattle.dir_typing.specs.declared.dir.DirRule.{DirRule}
use Rattle.dir_typing.specs.Numbered.{rule_of}
use Rattle.dir_typing.specs.Typed.{Typed}
use Rattle.vir_lowering.specs.declared.vir.VirStatement.{VirStatement, roll-VirStatement}
use Rattle.vir_lowering.specs.declared.vir.VirRule.{VirRule}
use Rattle.vir_lowering.specs.Atoms.{atom_of}
use Rattle.vir_lowering.specs.Grouped.{grouped}

-- one statement, by what its nested statements become
abbrev pub valued_step : DirStatement-F VirStatement → VirStatement
valued_step s = roll-VirStatement (record { condition = grouped (map atom_of s.condition); nested = s.nested })

-- A statement with atoms for comparisons, and so its nested ones.
abbrev pub valued_statement : DirStatement → VirStatement
valued_statement = fold-DirStatement VirStatement valued_step

-- A rule with atoms for comparisons.
abbrev pub valued_rule : DirRule → VirRule
valued_rule rule = record { name = rule.name; selection = rule.selection; statements = map valued_statement rule.statements }

-- The rules of a program: those of the typed program, with atoms for comparisons.
abbrev pub valued_rules : Typed → List VirRule
valued_rules p = map valued_rule (map (rule_of p.table) p.source.rules)
