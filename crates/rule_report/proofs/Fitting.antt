-- The problem of a target fits.
use Rattle.std.proofs.Common.{◌≡◌, ℕ, zero, suc, ◌<◌, nat_lt, List, [], ◌∷◌, ◌++◌, map, take, length, Bool, true, ◌&&◌, Option, Some, fold, refl, ap, ◌∙◌, slice_get, arith}
use Rattle.std.specs.List.{All, list_all}
use Rattle.std.specs.Option.{option_to_list}
use Rattle.std.proofs.lemmas.Bool.{and_parts, and_from}
use Rattle.std.proofs.lemmas.Grind.{common_steps}
use Rattle.std.proofs.lemmas.List.Elements.{All-head, All-tail}
use Rattle.std.proofs.lemmas.Option.{slice_get_within}
use Rattle.key_table.specs.declared.atom.Atom.{Atom}
use Rattle.key_table.specs.Atoms.{atom_fits}
use Rattle.euclid_ast.specs.declared.meaning.Choice as decided
use Rattle.euclid_ast.specs.declared.meaning.Choice.TheVariants.{Rule, Default}
use Rattle.dir_typing.specs.Typed.{Typed}
use Rattle.vir_lowering.specs.Fits.{AllFit}
use Rattle.vir_lowering.specs.Valued.{valued_rules}
use Rattle.constraint_graph.specs.declared.node.Node.{Node}
use Rattle.constraint_graph.specs.Graphs.{atoms_of}
use Rattle.connector_settings.specs.declared.layout.ConnectorGraph.{ConnectorGraph}
use Rattle.connector_settings.specs.GraphOf.{IsMadeWith}
use Rattle.rule_problem.specs.declared.problem.Literal.{Literal}
use Rattle.rule_problem.specs.declared.problem.Problem.{Problem}
use Rattle.rule_problem.specs.Distinct.{is_among, are_distinct, with_atom}
use Rattle.rule_problem.specs.Problems.{path_fits, atoms_fit, atoms_stand, literals_fit, numbers_fit, problem_fits}
use Rattle.rule_report.specs.Paths.{Path, joined, paths_of}
use Rattle.rule_report.specs.Targets.{before, wants_of, bars_of, standing, said, all_true, IsProblemOf}
use Rattle.rule_report.proofs.Once.{SameLaw, distinct_grown, came_grown, pass_grown}
use Rattle.rule_report.proofs.PathLemmas.{rules_pass, pass_flat, pass_flat_rules, pass_both, pass_right}

-- what passes everywhere passes at a place, and in front of it
pass_some : {X : Type 0} (p : X → Bool) (xs : List X) (k : ℕ) → list_all p xs ≡ true → list_all p (option_to_list (slice_get xs k)) ≡ true
pass_some p [] k h = refl
pass_some p (x ∷ xs) zero h = and_from (p x) true (and_parts (p x) (list_all p xs) h).0 refl
pass_some p (x ∷ xs) (suc k) h = pass_some p xs k (and_parts (p x) (list_all p xs) h).1

pass_take : {X : Type 0} (p : X → Bool) (xs : List X) (k : ℕ) → list_all p xs ≡ true → list_all p (take k xs) ≡ true
pass_take p xs zero h = refl
pass_take p [] (suc k) h = refl
pass_take p (x ∷ xs) (suc k) h = let parts = and_parts (p x) (list_all p xs) h in and_from (p x) (list_all p (take k xs)) parts.0 (pass_take p xs k parts.1)

wants_pass : (p : List Path → Bool) (rules : List (List Path)) (target : decided.Choice) → list_all p rules ≡ true → list_all p (wants_of rules target) ≡ true
wants_pass p rules (Rule k) h = pass_some p rules k h
wants_pass p rules Default h = refl

before_pass : (p : List Path → Bool) (rules : List (List Path)) (target : decided.Choice) → list_all p rules ≡ true → list_all p (before target rules) ≡ true
before_pass p rules (Rule k) h = pass_take p rules k h
before_pass p rules Default h = h

standing_pass : (p : Atom → Bool) (rules : List (List Path)) (graph : List Node) (target : decided.Choice) → list_all (list_all (list_all p)) rules ≡ true → list_all p (atoms_of graph) ≡ true
    → list_all p (standing rules graph target) ≡ true
standing_pass p rules graph target h g =
    pass_both p (joined (joined (wants_of rules target))) (joined (bars_of rules target) ++ atoms_of graph)
    (pass_flat p (joined (wants_of rules target)) (pass_flat_rules p (wants_of rules target) (wants_pass (list_all (list_all p)) rules target h)))
    (pass_both p (joined (bars_of rules target)) (atoms_of graph) (pass_flat p (bars_of rules target) (pass_flat_rules p (before target rules) (before_pass (list_all (list_all p)) rules target h))) g)

all_pass : {X : Type 0} (p : X → Bool) (xs : List X) → All (λ x. p x ≡ true) xs → list_all p xs ≡ true
all_pass p [] h = refl
all_pass p (x ∷ xs) h = and_from (p x) (list_all p xs) (All-head (λ x. p x ≡ true) x xs h) (all_pass p xs (All-tail (λ x. p x ≡ true) x xs h))

below : (n m : ℕ) → n < m → nat_lt n m ≡ true
below n m less = grind (arith, common_steps)

path_right : (atoms : List Atom) (path : List Literal) (right : Path) → said atoms path ≡ all_true right → path_fits atoms path ≡ true
path_right atoms [] right h = refl
path_right atoms (l ∷ path) [] h = cc
path_right atoms (l ∷ path) (a ∷ right) h =
    let head : (slice_get atoms l.atom, l.want) ≡ (Some a, true) = cc in
    let tail : said atoms path ≡ all_true right = cc in
    and_from (nat_lt l.atom (length atoms)) (path_fits atoms path)
    (below l.atom (length atoms) (slice_get_within atoms l.atom a (ap (λ (e : Option Atom × Bool). e.0) head)))
    (path_right atoms path right tail)

paths_right : (atoms : List Atom) (paths : List (List Literal)) (right : List Path) → map (said atoms) paths ≡ map all_true right → list_all (path_fits atoms) paths ≡ true
paths_right atoms [] right h = refl
paths_right atoms (p ∷ paths) [] h = cc
paths_right atoms (p ∷ paths) (r ∷ right) h =
    let head : said atoms p ≡ all_true r = cc in
    let tail : map (said atoms) paths ≡ map all_true right = cc in
    and_from (path_fits atoms p) (list_all (path_fits atoms) paths) (path_right atoms p r head) (paths_right atoms paths right tail)

wants_right : (atoms : List Atom) (wants : List (List (List Literal))) (right : List (List Path)) → map (λ paths. map (said atoms) paths) wants ≡ map (λ paths. map all_true paths) right → list_all (λ paths. list_all (path_fits atoms) paths) wants ≡ true
wants_right atoms [] right h = refl
wants_right atoms (p ∷ wants) [] h = cc
wants_right atoms (p ∷ wants) (r ∷ right) h =
    let head : map (said atoms) p ≡ map all_true r = cc in
    let tail : map (λ paths. map (said atoms) paths) wants ≡ map (λ paths. map all_true paths) right = cc in
    and_from (list_all (path_fits atoms) p) (list_all (λ paths. list_all (path_fits atoms) paths) wants) (paths_right atoms p r head) (wants_right atoms wants right tail)

pub fits : SameLaw → (p : Typed) → AllFit p → (connectors : ConnectorGraph) → IsMadeWith p.table connectors → (target : decided.Choice) (problem : Problem)
    → IsProblemOf (paths_of p) connectors.graph connectors.goal target problem → problem_fits p.table problem ≡ true
unfolding problem_fits
fits law p all connectors made target problem of =
    let ok : Atom → Bool = atom_fits p.table in
    let stand : List Atom = standing (paths_of p) connectors.graph target in
    let each = standing_pass ok (paths_of p) connectors.graph target (rules_pass ok (valued_rules p) all) (all_pass ok (atoms_of connectors.graph) made.atoms_fit) in
    let there = came_grown stand [] in
    let rest = joined (bars_of (paths_of p) target) ++ atoms_of connectors.graph in
    let graph = pass_right (is_among (fold with_atom [] stand)) (joined (bars_of (paths_of p) target)) (atoms_of connectors.graph)
    (pass_right (is_among (fold with_atom [] stand)) (joined (joined (wants_of (paths_of p) target))) rest there) in
    and_from (atoms_fit p.table problem) (atoms_stand problem && numbers_fit problem)
    (ap (list_all ok) of.atoms ∙ pass_grown ok [] stand refl each)
    (and_from (atoms_stand problem) (numbers_fit problem)
    (and_from (are_distinct problem.atoms) (list_all (is_among problem.atoms) (atoms_of problem.graph))
    (ap are_distinct of.atoms ∙ distinct_grown law [] stand refl)
    (ap (λ z. list_all (is_among z) (atoms_of problem.graph)) of.atoms ∙ ap (λ z. list_all (is_among (fold with_atom [] stand)) (atoms_of z)) of.same_graph ∙ graph))
    (and_from (literals_fit problem) (nat_lt problem.goal (length problem.graph))
    (and_from (list_all (λ paths. list_all (path_fits problem.atoms) paths) problem.wants) (list_all (path_fits problem.atoms) problem.bars)
    (wants_right problem.atoms problem.wants (wants_of (paths_of p) target) of.wants)
    (paths_right problem.atoms problem.bars (bars_of (paths_of p) target) of.bars))
    (ap (λ z. nat_lt z (length problem.graph)) of.same_goal ∙ ap (λ (z : List Node). nat_lt connectors.goal (length z)) of.same_graph ∙ below connectors.goal (length connectors.graph) made.goal_within)))
