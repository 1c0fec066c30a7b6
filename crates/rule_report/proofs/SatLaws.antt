-- A payment satisfies the problem of a target exactly where it comes to the target.
use Rattle.std.proofs.Common.{◌≡◌, ℕ, suc, List, [], ◌∷◌, length, map, take, Bool, true, false, not, ◌&&◌, Option, Some, None, cond, option_map, refl, ap, sym, ◌∙◌, subst, slice_get, position}
use Rattle.std.specs.List.{list_any, list_all}
use Rattle.std.specs.Option.{option_map_or, option_to_list}
use Rattle.std.proofs.lemmas.Bool.{and_parts, and_from}
use Rattle.std.proofs.lemmas.List.{length-map}
use Rattle.std.proofs.Math.Path.{fun_ext}
use Rattle.key_table.specs.Payments.{Entries, is_legal}
use Rattle.euclid_ast.specs.declared.meaning.Choice as decided
use Rattle.euclid_ast.specs.declared.meaning.Choice.TheVariants.{Rule, Default}
use Rattle.euclid_ast.specs.Meaning.{choice_of, choice, IsWithin}
use Rattle.dir_typing.specs.Numbered.{rule_of}
use Rattle.dir_typing.specs.Typed.{Typed}
use Rattle.vir_lowering.specs.Decisions.{IsKept, KeepsLaw}
use Rattle.vir_lowering.specs.Valued.{valued_rule, valued_rules}
use Rattle.constraint_graph.specs.declared.node.Node.{Node}
use Rattle.constraint_graph.specs.Values.{holds}
use Rattle.connector_settings.specs.declared.layout.ConnectorGraph.{ConnectorGraph}
use Rattle.rule_problem.specs.declared.problem.Problem.{Problem}
use Rattle.rule_problem.specs.Problems.{some_path, rules_hold}
use Rattle.rule_report.specs.Paths.{Path, joined, rule_paths, paths_of}
use Rattle.rule_report.specs.Targets.{wants_of, bars_of, IsProblemOf}
use Rattle.rule_report.specs.Reaching.{IsMetWhere, ReachesLaw}
use Rattle.rule_report.proofs.PathLemmas.{rule_agrees}
use Rattle.rule_report.proofs.Places.{list_any-flat_map, first, position-first, passes-first, position-to, position-from, no-position-to, no-position-from}
use Rattle.rule_report.proofs.Said.{says_on, paths-same, wants-same}

-- whether some path of a rule is true
abbrev true_rule : Entries → List Path → Bool
true_rule payment paths = list_any (list_all (says_on payment)) paths

-- over atoms: each want has a true path, and no bar is true
abbrev asks : Entries → List (List Path) → decided.Choice → Bool
asks payment rules target = list_all (true_rule payment) (wants_of rules target) && not (true_rule payment (bars_of rules target))

wanted_is : (p : List Path → Bool) (o : Option (List Path)) → list_all p (option_to_list o) ≡ option_map_or p o true
wanted_is p None = refl
wanted_is p (Some paths) = and_true (p paths)
  where
    and_true : (b : Bool) → (b && true) ≡ b
    and_true true = refl
    and_true false = refl

asks_rule : (payment : Entries) (rules : List (List Path)) (k : ℕ) → asks payment rules (Rule k) ≡ passes-first (true_rule payment) rules k
asks_rule payment rules k =
    ap (λ b. b && not (true_rule payment (joined (take k rules)))) (wanted_is (true_rule payment) (slice_get rules k))
    ∙ ap (λ b. option_map_or (true_rule payment) (slice_get rules k) true && not b) (list_any-flat_map (list_all (says_on payment)) (λ paths. paths) (take k rules))

asks_default : (payment : Entries) (rules : List (List Path)) → asks payment rules Default ≡ not (list_any (true_rule payment) rules)
asks_default payment rules = ap not (list_any-flat_map (list_all (says_on payment)) (λ paths. paths) rules)

some_choice : (o : Option ℕ) (k : ℕ) → choice_of o ≡ Rule k → o ≡ Some k
some_choice None k h = cc
some_choice (Some n) k h = cc

no_choice : (o : Option ℕ) → choice_of o ≡ Default → o ≡ None
no_choice None h = refl
no_choice (Some n) h = cc

-- the first rule with a true path
abbrev chosen : Entries → List (List Path) → decided.Choice
chosen payment rules = choice_of (position (true_rule payment) rules)

to_choice : (payment : Entries) (rules : List (List Path)) (target : decided.Choice) → IsWithin target (length rules) → asks payment rules target ≡ true → chosen payment rules ≡ target
to_choice payment rules (Rule k) within h = ap choice_of (position-to (true_rule payment) rules k within (sym (asks_rule payment rules k) ∙ h))
to_choice payment rules Default within h = ap choice_of (no-position-to (true_rule payment) rules (sym (asks_default payment rules) ∙ h))

from_choice : (payment : Entries) (rules : List (List Path)) (target : decided.Choice) → chosen payment rules ≡ target → asks payment rules target ≡ true
from_choice payment rules (Rule k) h = asks_rule payment rules k ∙ position-from (true_rule payment) rules k (some_choice (position (true_rule payment) rules) k h)
from_choice payment rules Default h = asks_default payment rules ∙ no-position-from (true_rule payment) rules (no_choice (position (true_rule payment) rules) h)

first_map : {X Y : Type 0} (p : Y → Bool) (f : X → Y) (xs : List X) → first p (map f xs) ≡ first (λ x. p (f x)) xs
first_map p f [] = refl
first_map p f (x ∷ xs) = ap (λ o. cond (p (f x)) (Some 0) (option_map (λ n. suc n) o)) (first_map p f xs)

position_map : {X Y : Type 0} (p : Y → Bool) (f : X → Y) (xs : List X) → position p (map f xs) ≡ position (λ x. p (f x)) xs
position_map p f xs = position-first p (map f xs) ∙ first_map p f xs ∙ sym (position-first (λ x. p (f x)) xs)

-- the rule that is chosen is the one that the source program chooses
chosen_is : (p : Typed) → IsKept p → (payment : Entries) → chosen payment (paths_of p) ≡ choice p.table payment p.source
chosen_is p kept payment =
    ap choice_of (position_map (true_rule payment) rule_paths (valued_rules p) ∙ ap (λ f. position f (valued_rules p)) (fun_ext (rule_agrees payment)))
    ∙ kept payment

count_is : (p : Typed) → length (paths_of p) ≡ length p.source.rules
count_is p = length-map (valued_rules p) rule_paths ∙ length-map (map (rule_of p.table) p.source.rules) valued_rule ∙ length-map p.source.rules (rule_of p.table)

asks_is : (payment : Entries) (rules : List (List Path)) (graph : List Node) (goal : ℕ) (target : decided.Choice) (problem : Problem)
    → IsProblemOf rules graph goal target problem → rules_hold problem payment ≡ asks payment rules target
asks_is payment rules graph goal target problem of =
    ap (λ b. b && not (some_path problem.atoms payment problem.bars)) (wants-same problem.atoms payment problem.wants (wants_of rules target) of.wants)
    ∙ ap (λ b. list_all (true_rule payment) (wants_of rules target) && not b) (paths-same problem.atoms payment problem.bars (bars_of rules target) of.bars)

goal_is : (payment : Entries) (rules : List (List Path)) (graph : List Node) (goal : ℕ) (target : decided.Choice) (problem : Problem)
    → IsProblemOf rules graph goal target problem → holds problem.graph payment problem.goal ≡ holds graph payment goal
goal_is payment rules graph goal target problem of = ap (λ g. holds g payment problem.goal) of.same_graph ∙ ap (holds graph payment) of.same_goal

pub met : (p : Typed) → IsKept p → (connectors : ConnectorGraph) (target : decided.Choice) (problem : Problem) → IsWithin target (length p.source.rules)
    → IsProblemOf (paths_of p) connectors.graph connectors.goal target problem → IsMetWhere p connectors target problem
met p kept connectors target problem within of = λ payment.
    let asked = asks_is payment (paths_of p) connectors.graph connectors.goal target problem of in
    let held = goal_is payment (paths_of p) connectors.graph connectors.goal target problem of in
    let P : ℕ → Type 0 = λ n. IsWithin target n in (
      (λ h.
          let outer = and_parts (is_legal p.table payment) (holds problem.graph payment problem.goal && rules_hold problem payment) h in
          let inner = and_parts (holds problem.graph payment problem.goal) (rules_hold problem payment) outer.1 in
          record {
            legal = outer.0;
            goal_holds = sym held ∙ inner.0;
            chosen = sym (chosen_is p kept payment) ∙ to_choice payment (paths_of p) target (subst P (sym (count_is p)) within) (sym asked ∙ inner.1);
          }),
      (λ r. and_from (is_legal p.table payment) (holds problem.graph payment problem.goal && rules_hold problem payment) r.legal
          (and_from (holds problem.graph payment problem.goal) (rules_hold problem payment)
          (held ∙ r.goal_holds)
          (asked ∙ from_choice payment (paths_of p) target (chosen_is p kept payment ∙ r.chosen)))),
    )

pub reaches : KeepsLaw → ReachesLaw
reaches keeps p settings connectors target problem typed within graph of payment =
    let comes = met p (keeps p typed) connectors target problem within of payment in (
      (λ h. let r = comes.0 h in record { legal = r.legal; taken = sym (graph.goal_holds payment) ∙ r.goal_holds; decides = r.chosen }),
      (λ r. comes.1 (record { legal = r.legal; goal_holds = graph.goal_holds payment ∙ r.taken; chosen = r.decides })),
    )
