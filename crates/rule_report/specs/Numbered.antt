-- Statements with numbers for atoms.
use Rattle.std.specs.Prelude.{◌≡◌, ◌<◌, ℕ, List, length, map, fold, Some, slice_get}
use Rattle.std.specs.List.{All, flat_map, filter_map}
use Rattle.key_table.specs.declared.atom.Atom.{Atom}
use Rattle.rule_problem.specs.Distinct.{with_atom}
use Rattle.rule_report.specs.declared.numbered.NumberedStatement.{NumberedStatement}
use Rattle.rule_report.specs.declared.numbered.NumberedStatement.TheOpen.{NumberedStatement-F}
use Rattle.rule_report.specs.declared.numbered.NumberedStatement.TheFolds.{fold-NumberedStatement}
use Rattle.rule_report.specs.Paths.{Path, behind, nested_paths}

-- one statement, by the paths of each nested one
abbrev pub numbers_step : NumberedStatement-F (List (List ℕ)) → List (List ℕ)
numbers_step s = behind s.condition (nested_paths s.nested)

-- the paths of a statement, as numbers
abbrev pub statement_numbers : NumberedStatement → List (List ℕ)
statement_numbers = fold-NumberedStatement (List (List ℕ)) numbers_step

-- the paths of a rule's statements, as numbers
abbrev pub rule_numbers : List NumberedStatement → List (List ℕ)
rule_numbers statements = flat_map statement_numbers statements

-- the atoms with these numbers, where there is one
abbrev pub atoms_at : List Atom → List ℕ → Path
atoms_at atoms numbers = filter_map (slice_get atoms) numbers

-- Each number on each path is that of an atom.
abbrev pub AreWithin : List Atom → List (List ℕ) → Type 0
AreWithin atoms paths = All (λ path. All (λ number. number < length atoms) path) paths

-- The numbers are those of these atoms.
abbrev pub AreNumbersOf : List Atom → List ℕ → Path → Type 0
AreNumbersOf atoms numbers path = map (slice_get atoms) numbers ≡ map (λ (a : Atom). Some a) path

-- So it is on each path.
abbrev pub ArePathsOf : List Atom → List (List ℕ) → List Path → Type 0
ArePathsOf atoms numbers paths = map (λ ns. map (slice_get atoms) ns) numbers ≡ map (λ path. map (λ (a : Atom). Some a) path) paths

-- So it is of each rule.
abbrev pub AreRulesOf : List Atom → List (List (List ℕ)) → List (List Path) → Type 0
AreRulesOf atoms numbers rules = map (λ nss. map (λ ns. map (slice_get atoms) ns) nss) numbers ≡ map (λ paths. map (λ path. map (λ (a : Atom). Some a) path) paths) rules

-- Some atoms came to those that were there, each that was not there yet last.
abbrev pub IsGrown : List Atom → List Atom → Type 0
IsGrown old new = (came : List Atom) × (new ≡ fold with_atom old came)
