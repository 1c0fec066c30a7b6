-- The paths of rules: each leaf statement in source order, with the atoms of all conditions from the outermost statement down.
use Rattle.std.specs.Prelude.{List, [], ◌∷◌, ◌++◌, map, Option, Some, None}
use Rattle.std.specs.List.{flat_map}
use Rattle.key_table.specs.declared.atom.Atom.{Atom}
use Rattle.dir_typing.specs.Typed.{Typed}
use Rattle.vir_lowering.specs.declared.vir.VirStatement.{VirStatement}
use Rattle.vir_lowering.specs.declared.vir.VirStatement.TheOpen.{VirStatement-F}
use Rattle.vir_lowering.specs.declared.vir.VirStatement.TheFolds.{fold-VirStatement}
use Rattle.vir_lowering.specs.declared.vir.VirRule.{VirRule}
use Rattle.vir_lowering.specs.Valued.{valued_rules}

-- the atoms that a path asks for
abbrev pub Path : Type 0
Path = List Atom

-- the items of lists, one list after another
abbrev pub joined : {X : Type 0} → List (List X) → List X
joined lists = flat_map (λ list. list) lists

-- each list with these items in front
abbrev pub behind : {X : Type 0} → List X → List (List X) → List (List X)
behind front lists = map (λ list. front ++ list) lists

-- A statement without a nested list is a leaf; one with a list has the paths of each statement in it, so with an empty list none.
abbrev pub nested_paths : {X : Type 0} → Option (List (List (List X))) → List (List X)
nested_paths None = [] ∷ []
nested_paths (Some nested) = joined nested

-- one statement, by the paths of each nested one: the atoms of its condition, and then those of a path below
abbrev pub paths_step : VirStatement-F (List Path) → List Path
paths_step s = behind s.condition (nested_paths s.nested)

-- The paths of a statement.
abbrev pub statement_paths : VirStatement → List Path
statement_paths = fold-VirStatement (List Path) paths_step

-- The paths of a rule, statement by statement.
abbrev pub rule_paths : VirRule → List Path
rule_paths rule = flat_map statement_paths rule.statements

-- The paths of each rule of a program.
abbrev pub paths_of : Typed → List (List Path)
paths_of p = map rule_paths (valued_rules p)
