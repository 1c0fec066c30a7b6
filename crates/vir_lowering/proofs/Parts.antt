-- Statements by their parts.
use Rattle.std.proofs.Common.{◌≡◌, List, map, Option, Some, None, option_map, refl, ap, ◌∙◌}
use Rattle.key_table.specs.declared.atom.Atom.{Atom}
use Rattle.key_table.specs.Tables.{Table}
use Rattle.euclid_ast.specs.declared.statement.Comparison.{Comparison}
use Rattle.euclid_ast.specs.declared.statement.Statement.{Statement}
use Rattle.euclid_ast.specs.declared.statement.Statement.TheViews.{roll-Statement}
use Rattle.euclid_ast.specs.declared.statement.Statement.TheFolds.{fold-roll-Statement}
use Rattle.dir_typing.specs.declared.dir.DirComparison.{DirComparison}
use Rattle.dir_typing.specs.declared.dir.DirStatement.{DirStatement}
use Rattle.dir_typing.specs.declared.dir.DirStatement.TheViews.{out-DirStatement}
use Rattle.dir_typing.specs.declared.dir.DirStatement.TheFolds.{fold_out-DirStatement, fold-roll-DirStatement, map-DirStatement}
use Rattle.dir_typing.specs.Numbered.{comparison_of, statement_step, statement_of}
use Rattle.vir_lowering.specs.declared.vir.VirStatement.{VirStatement, roll-VirStatement}
use Rattle.vir_lowering.specs.Atoms.{atom_of}
use Rattle.vir_lowering.specs.Grouped.{grouped}
use Rattle.vir_lowering.specs.Valued.{valued_step, valued_statement}

valued_map : (condition : List DirComparison) (nested : Option (List DirStatement))
    → valued_step (map-DirStatement DirStatement VirStatement valued_statement (record { condition = condition; nested = nested }))
    ≡ roll-VirStatement (record { condition = grouped (map atom_of condition); nested = option_map (map valued_statement) nested })
valued_map condition None = refl
valued_map condition (Some nested) = refl

-- A valued statement, by the parts of a typed one.
pub valued_out : (s : DirStatement)
    → valued_statement s ≡ roll-VirStatement (record { condition = grouped (map atom_of (out-DirStatement s).condition); nested = option_map (map valued_statement) (out-DirStatement s).nested })
valued_out s = fold_out-DirStatement VirStatement valued_step s ∙ valued_map (out-DirStatement s).condition (out-DirStatement s).nested

-- the valued statement of a source statement
abbrev pub valued : Table → Statement → VirStatement
valued table s = valued_statement (statement_of table s)

abbrev pub valued_all : Table → List Statement → List VirStatement
valued_all table ss = map valued_statement (map (statement_of table) ss)

abbrev pub atoms_of_comparisons : Table → List Comparison → List Atom
atoms_of_comparisons table cs = map atom_of (map (comparison_of table) cs)

-- A valued statement, by the parts of a source one.
pub valued_roll : (table : Table) (condition : List Comparison) (nested : Option (List Statement))
    → valued table (roll-Statement (record { condition = condition; nested = nested }))
    ≡ roll-VirStatement (record { condition = grouped (atoms_of_comparisons table condition); nested = option_map (valued_all table) nested })
valued_roll table condition None =
    ap valued_statement (fold-roll-Statement DirStatement (statement_step table) (record { condition = condition; nested = None }))
    ∙ fold-roll-DirStatement VirStatement valued_step (record { condition = map (comparison_of table) condition; nested = None })
valued_roll table condition (Some nested) =
    ap valued_statement (fold-roll-Statement DirStatement (statement_step table) (record { condition = condition; nested = Some nested }))
    ∙ fold-roll-DirStatement VirStatement valued_step (record { condition = map (comparison_of table) condition; nested = Some (map (statement_of table) nested) })
