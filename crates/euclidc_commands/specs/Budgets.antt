-- Budgets that are enough for a target, whatever the search does.
use Rattle.std.specs.Prelude.{ℕ, List, ◌++◌, ◌-◌, ◌^◌, ◌≤◌, length}
use Rattle.key_table.specs.declared.atom.Atom.{Atom}
use Rattle.euclid_ast.specs.declared.meaning.Choice as decided
use Rattle.connector_settings.specs.Takes.{atoms_of_settings}
use Rattle.rule_problem.specs.Distinct.{firsts}
use Rattle.rule_report.specs.Paths.{joined, paths_of}
use Rattle.rule_report.specs.Targets.{wants_of, bars_of}
use Rattle.euclidc_commands.specs.Inquiries.{Inquiry}

-- the atoms that the problem of a target speaks of: those of its wants, of its bars, and of the settings
abbrev pub atoms_for : Inquiry → decided.Choice → List Atom
atoms_for i target = joined (joined (wants_of (paths_of i.program) target)) ++ (joined (bars_of (paths_of i.program) target) ++ atoms_of_settings i.program.table i.settings)

-- how many different ones they are
abbrev pub atom_count : Inquiry → decided.Choice → ℕ
atom_count i target = length (firsts (atoms_for i target))

-- The budget is at least 2 ^ a - 1, where a is that number.
abbrev pub IsEnough : Inquiry → ℕ → decided.Choice → Type 0
IsEnough i budget target = 2 ^ atom_count i target - 1 ≤ budget
