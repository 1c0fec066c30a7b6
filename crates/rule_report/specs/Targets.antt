-- The problem of a target: a rule, or the default.
use Rattle.std.specs.Prelude.{◌≡◌, ℕ, List, ◌++◌, map, take, Bool, true, Option, Some, None, slice_get}
use Rattle.std.specs.Option.{option_to_list}
use Rattle.key_table.specs.declared.atom.Atom.{Atom}
use Rattle.euclid_ast.specs.declared.meaning.Choice as decided
use Rattle.euclid_ast.specs.declared.meaning.Choice.TheVariants.{Rule, Default}
use Rattle.constraint_graph.specs.declared.node.Node.{Node}
use Rattle.constraint_graph.specs.Graphs.{atoms_of}
use Rattle.rule_problem.specs.declared.problem.Literal.{Literal}
use Rattle.rule_problem.specs.declared.problem.Problem.{Problem}
use Rattle.rule_problem.specs.Distinct.{firsts}
use Rattle.rule_report.specs.Paths.{Path, joined}

-- What there is for each rule: of a rule its own is wanted, of the default nothing is.
abbrev pub wanted : {X : Type 0} → decided.Choice → List X → Option X
wanted (Rule k) rules = slice_get rules k
wanted Default rules = None

-- The rules that come before a rule, and before the default all.
abbrev pub before : {X : Type 0} → decided.Choice → List X → List X
before (Rule k) rules = take k rules
before Default rules = rules

-- One want for a rule, of which some path has to be true, and none for the default. Given are the paths of each rule.
abbrev pub wants_of : List (List Path) → decided.Choice → List (List Path)
wants_of rules target = option_to_list (wanted target rules)

-- No path of a rule before the target may be true.
abbrev pub bars_of : List (List Path) → decided.Choice → List Path
bars_of rules target = joined (before target rules)

-- the atoms of the wants, the bars and the graph, in this order
abbrev pub standing : List (List Path) → List Node → decided.Choice → List Atom
standing rules graph target = joined (joined (wants_of rules target)) ++ (joined (bars_of rules target) ++ atoms_of graph)

-- What literals say: of each its atom, where there is one with its number, and the truth that it wants.
abbrev pub said : List Atom → List Literal → List (Option Atom × Bool)
said atoms path = map (λ (l : Literal). (slice_get atoms l.atom, l.want)) path

-- that each atom of a path is true
abbrev pub all_true : Path → List (Option Atom × Bool)
all_true path = map (λ (a : Atom). (Some a, true)) path

-- The problem of a target: each atom once, in the order in which they first stand; the wants and the bars by the numbers of their atoms, all wanted true; and the graph with its goal.
pub record IsProblemOf (rules : List (List Path)) (graph : List Node) (goal : ℕ) (target : decided.Choice) (problem : Problem) : Type 0 where
  pub atoms : problem.atoms ≡ firsts (standing rules graph target)
  pub wants : map (λ paths. map (said problem.atoms) paths) problem.wants ≡ map (λ paths. map all_true paths) (wants_of rules target)
  pub bars : map (said problem.atoms) problem.bars ≡ map all_true (bars_of rules target)
  pub same_graph : problem.graph ≡ graph
  pub same_goal : problem.goal ≡ goal
