-- The problems of samples are small.
use Rattle.std.proofs.Common.{◌≡◌, ℕ, ◌≤◌, List, [], ◌∷◌, ◌++◌, length, length-append, take, map, Bool, Option, Some, None, slice_get, refl, ap, subst, sym, ◌∙◌, arith}
use Rattle.std.specs.List.{AllByRecursion}
use Rattle.std.specs.Option.{option_to_list}
use Rattle.std.proofs.lemmas.List.{length-map, length-take}
use Rattle.key_table.specs.declared.atom.Atom.{Atom}
use Rattle.key_table.specs.BuiltIn.{built_in}
use Rattle.euclid_ast.specs.declared.meaning.Choice as decided
use Rattle.euclid_ast.specs.declared.meaning.Choice.TheVariants as choice
use Rattle.constraint_graph.specs.declared.node.Node.{Node}
use Rattle.constraint_graph.specs.Graphs.{atoms_of}
use Rattle.connector_settings.specs.declared.layout.ConnectorGraph.{ConnectorGraph}
use Rattle.connector_settings.specs.GraphOf.{IsGraphOf}
use Rattle.connector_settings.specs.Takes.{atoms_of_settings}
use Rattle.dir_typing.specs.Numbered.{rule_of}
use Rattle.vir_lowering.specs.Valued.{valued_rule}
use Rattle.rule_problem.specs.declared.problem.Literal.{Literal}
use Rattle.rule_report.specs.Paths.{Path, joined, rule_paths, paths_of}
use Rattle.rule_report.specs.Targets.{wants_of, bars_of, standing, said, all_true}
use Rattle.sample_program.specs.Laws.{sample, SmallLaw}
use Rattle.sample_program.specs.Programs.{rules, program}
use Rattle.sample_program.specs.SettingsTexts.{settings}
use Rattle.sample_program.proofs.Alls.{Among, all_append, all_joined, all_taken, all_found, all_contained, contained_all}
use Rattle.sample_program.proofs.Few.{firsts_few}
use Rattle.sample_program.proofs.Fine.{atoms, atoms_count, settings_few}
use Rattle.sample_program.proofs.Made.{rules_made, rules_count}
use Rattle.sample_program.proofs.OnePath.{IsOnePath, one_path_each}

abbrev IsFew : Atom → Type 0
IsFew = Among atoms

abbrev AreFew : List Path → Type 0
AreFew paths = AllByRecursion (AllByRecursion IsFew) paths

paths_few : (paths : List Path) → IsOnePath paths → AreFew paths
paths_few paths one = subst AreFew (sym one.one) (one.few, tt)

all_few : (rules : List (List Path)) → AllByRecursion IsOnePath rules → AllByRecursion AreFew rules
all_few [] each = tt
all_few (paths ∷ rules) each = (paths_few paths each.0, all_few rules each.1)

joined_few : (paths : List Path) → AreFew paths → AllByRecursion IsFew (joined paths)
joined_few paths few = all_joined IsFew (λ path. path) paths few

wants_few : (rules : List (List Path)) (target : decided.Choice) → AllByRecursion AreFew rules → AllByRecursion AreFew (wants_of rules target)
wants_few rules (choice.Rule k) few = all_found AreFew rules k few
wants_few rules choice.Default few = tt

bars_few : (rules : List (List Path)) (target : decided.Choice) → AllByRecursion AreFew rules → AreFew (bars_of rules target)
bars_few rules (choice.Rule k) few = all_joined (AllByRecursion IsFew) (λ paths. paths) (take k rules) (all_taken AreFew k rules few)
bars_few rules choice.Default few = all_joined (AllByRecursion IsFew) (λ paths. paths) rules few

-- the atoms of a graph of the settings
graph_few : (connectors : ConnectorGraph) → IsGraphOf built_in settings connectors → AllByRecursion IsFew (atoms_of connectors.graph)
graph_few connectors graph =
    all_contained IsFew (atoms_of connectors.graph) (λ atom there. contained_all IsFew (atoms_of_settings built_in settings) atom settings_few ((graph.atoms atom).0 there))

standing_few : (rules : List (List Path)) (graph : List Node) (target : decided.Choice) → AllByRecursion AreFew rules → AllByRecursion IsFew (atoms_of graph) → AllByRecursion IsFew (standing rules graph target)
standing_few rules graph target few of_graph =
    let wants = joined (joined (wants_of rules target)) in
    let bars = joined (bars_of rules target) in
    all_append IsFew wants (bars ++ atoms_of graph)
    (joined_few (joined (wants_of rules target)) (all_joined (AllByRecursion IsFew) (λ paths. paths) (wants_of rules target) (wants_few rules target few)))
    (all_append IsFew bars (atoms_of graph) (joined_few (bars_of rules target) (bars_few rules target few)) of_graph)

found_count : {X : Type 0} (o : Option X) → length (option_to_list o) ≤ 1
found_count None = omega arith
found_count (Some x) = omega arith

wants_count : (rules : List (List Path)) (target : decided.Choice) → length (wants_of rules target) ≤ 1
wants_count rules (choice.Rule k) = found_count (slice_get rules k)
wants_count rules choice.Default = omega arith

-- as many paths as rules
joined_count : (rules : List (List Path)) → AllByRecursion IsOnePath rules → length (joined rules) ≡ length rules
joined_count [] each = refl
joined_count (paths ∷ rules) each =
    let long = length-append paths (joined rules) in
    let one = ap {A = List Path} length each.0.one in
    let rest = joined_count rules each.1 in
    omega arith

bars_count : (rules : List (List Path)) (target : decided.Choice) → AllByRecursion IsOnePath rules → length (bars_of rules target) ≤ length rules
bars_count rules (choice.Rule k) each =
    let same = joined_count (take k rules) (all_taken IsOnePath k rules each) in
    let short = length-take k rules in
    omega arith
bars_count rules choice.Default each = let same = joined_count rules each in omega arith

each_one : (seed : ℕ) → AllByRecursion IsOnePath (paths_of (sample seed))
unfolding program
each_one seed = one_path_each (rules seed 256) (rules_made seed 256 (omega arith))

paths_count : (seed : ℕ) → length (paths_of (sample seed)) ≡ 256
unfolding program
paths_count seed =
    let rs = rules seed 256 in
    length-map (map valued_rule (map (rule_of built_in) rs)) rule_paths ∙ length-map (map (rule_of built_in) rs) valued_rule ∙ length-map rs (rule_of built_in) ∙ rules_count seed 256

pub small : SmallLaw
small seed connectors target problem graph of =
    let rules = paths_of (sample seed) in
    let each = each_one seed in
    let count = paths_count seed in
    let all = standing_few rules connectors.graph target (all_few rules each) (graph_few connectors graph) in
    let most = firsts_few atoms (standing rules connectors.graph target) all in
    let eleven = atoms_count in
    let same = ap {A = List Atom} length of.atoms in
    let wants = wants_count rules target in
    let bars = bars_count rules target each in
    let of_wants = ap {A = List (List (List (Option Atom × Bool)))} length of.wants in
    let of_bars = ap {A = List (List (Option Atom × Bool))} length of.bars in
    let wants_left = length-map problem.wants (λ (paths : List (List Literal)). map (said problem.atoms) paths) in
    let wants_right = length-map (wants_of rules target) (λ (paths : List Path). map all_true paths) in
    let bars_left = length-map problem.bars (said problem.atoms) in
    let bars_right = length-map (bars_of rules target) all_true in
    record { atoms = omega arith; wants = omega arith; bars = omega arith }
