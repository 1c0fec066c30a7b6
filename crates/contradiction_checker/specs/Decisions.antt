-- Whether reasons hold, by the few options that are tried.
use Rattle.std.specs.Prelude.{List, Bool, true, false, not, ◌&&◌, if◌then◌else◌, slice_get}
use Rattle.std.specs.Option.{option_map_or}
use Rattle.std.specs.List.{list_any, list_all}
use Rattle.key_table.specs.declared.atom.Atom.{Atom}
use Rattle.key_table.specs.declared.atom.Verdict3.{Verdict3}
use Rattle.key_table.specs.declared.atom.Verdict3.TheVariants.{Entailed, Refuted, Undecided}
use Rattle.key_table.specs.Tables.{Table}
use Rattle.rule_problem.specs.declared.problem.Literal.{Literal}
use Rattle.rule_problem.specs.declared.problem.Problem.{Problem}
use Rattle.rule_problem.specs.declared.certificate.Item.{Item}
use Rattle.rule_problem.specs.declared.certificate.Item.TheVariants.{Split, Void, Want, Bar, Goal, Todo}
use Rattle.key_table.specs.Contexts.{Context}
use Rattle.constraint_graph.specs.Values.{verdict}
use Rattle.contradiction_checker.specs.Tries.{leaves}

-- whether no option is left on which an atom has this truth
abbrev pub excludes : Table → Context → Atom → Bool → Bool
excludes table context atom truth = not (leaves table context atom truth)

-- whether no option is left to the slot of an atom
abbrev pub is_void : Table → Context → Atom → Bool
is_void table context atom = excludes table context atom true && excludes table context atom false

-- whether no option is left on which a literal is false
abbrev pub literal_entailed : Table → Context → List Atom → Literal → Bool
literal_entailed table context atoms literal = option_map_or (λ atom. excludes table context atom (not literal.want)) (slice_get atoms literal.atom) false

-- whether no option is left on which a literal is true
abbrev pub literal_refuted : Table → Context → List Atom → Literal → Bool
literal_refuted table context atoms literal = option_map_or (λ atom. excludes table context atom literal.want) (slice_get atoms literal.atom) false

-- whether some literal of a path is refuted
abbrev pub path_refuted : Table → Context → List Atom → List Literal → Bool
path_refuted table context atoms path = list_any (literal_refuted table context atoms) path

-- whether each path has a refuted literal
abbrev pub want_refuted : Table → Context → List Atom → List (List Literal) → Bool
want_refuted table context atoms paths = list_all (path_refuted table context atoms) paths

-- whether all literals of a bar are entailed
abbrev pub bar_entailed : Table → Context → List Atom → List Literal → Bool
bar_entailed table context atoms bar = list_all (literal_entailed table context atoms) bar

-- the verdict of an atom, refuted on a void slot
abbrev pub atom_verdict : Table → Context → Atom → Verdict3
atom_verdict table context atom = if excludes table context atom true then Refuted else (if excludes table context atom false then Entailed else Undecided)

-- whether a verdict is refuted
abbrev pub is_refuted : Verdict3 → Bool
is_refuted Refuted = true
is_refuted _ = false

-- Whether an item is a reason that holds. A number that names nothing is none.
abbrev pub reason_holds : Table → Problem → List Atom → Context → Item → Bool
reason_holds table problem atoms context (Void x) = option_map_or (is_void table context) (slice_get atoms x) false
reason_holds table problem atoms context (Want w) = option_map_or (want_refuted table context problem.atoms) (slice_get problem.wants w) false
reason_holds table problem atoms context (Bar b) = option_map_or (bar_entailed table context problem.atoms) (slice_get problem.bars b) false
reason_holds table problem atoms context Goal = is_refuted (verdict (atom_verdict table context) problem.graph problem.goal)
reason_holds table problem atoms context (Split x) = false
reason_holds table problem atoms context Todo = false
