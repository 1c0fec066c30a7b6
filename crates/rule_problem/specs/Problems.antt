-- Problems: which are well made, and which payments satisfy them.
use Rattle.std.specs.Prelude.{List, length, Bool, not, ◌&&◌, nat_lt}
use Rattle.std.specs.List.{list_any, list_all}
use Rattle.key_table.specs.declared.atom.Atom.{Atom}
use Rattle.key_table.specs.Atoms.{atom_fits}
use Rattle.key_table.specs.Payments.{Entries, is_legal}
use Rattle.key_table.specs.Tables.{Table}
use Rattle.constraint_graph.specs.Graphs.{atoms_of}
use Rattle.constraint_graph.specs.Values.{holds}
use Rattle.rule_problem.specs.declared.problem.Literal.{Literal}
use Rattle.rule_problem.specs.declared.problem.Problem.{Problem}
use Rattle.rule_problem.specs.Distinct.{is_among, are_distinct}
use Rattle.rule_problem.specs.Literals.{is_true}

-- whether each atom of the problem fits the table
abbrev pub atoms_fit : Table → Problem → Bool
atoms_fit table problem = list_all (atom_fits table) problem.atoms

-- whether no atom stands twice among those of the problem, and each of the graph's test nodes has its atom there
abbrev pub atoms_stand : Problem → Bool
atoms_stand problem = are_distinct problem.atoms && list_all (is_among problem.atoms) (atoms_of problem.graph)

-- whether the numbers of a path's literals are those of atoms
abbrev pub path_fits : List Atom → List Literal → Bool
path_fits atoms path = list_all (λ literal. nat_lt literal.atom (length atoms)) path

-- whether each literal of the wants and the bars is on one of the atoms
abbrev pub literals_fit : Problem → Bool
literals_fit problem = list_all (λ paths. list_all (path_fits problem.atoms) paths) problem.wants && list_all (path_fits problem.atoms) problem.bars

-- whether the literals are on atoms, and the goal is a node
abbrev pub numbers_fit : Problem → Bool
numbers_fit problem = literals_fit problem && nat_lt problem.goal (length problem.graph)

-- Whether each atom fits the table, the atoms of the graph's test nodes stand among the problem's and none of these twice, each literal is on one of them, and the goal is a node.
unfoldable pub problem_fits : Table → Problem → Bool
problem_fits table problem = atoms_fit table problem && (atoms_stand problem && numbers_fit problem)

-- whether some path has all its literals true
abbrev pub some_path : List Atom → Entries → List (List Literal) → Bool
some_path atoms payment paths = list_any (λ path. list_all (is_true atoms payment) path) paths

-- whether each want has a path whose literals are all true, and no bar has all its literals true
abbrev pub rules_hold : Problem → Entries → Bool
rules_hold problem payment = list_all (some_path problem.atoms payment) problem.wants && not (some_path problem.atoms payment problem.bars)

-- A payment satisfies a problem where it is legal, the goal holds, each want has a path whose literals are all true, and no bar has all its literals true.
abbrev pub sat : Table → Problem → Entries → Bool
sat table problem payment = is_legal table payment && (holds problem.graph payment problem.goal && rules_hold problem payment)
