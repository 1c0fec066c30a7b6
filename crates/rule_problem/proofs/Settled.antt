-- A payment with the truths of a settled context satisfies the problem.
use Rattle.std.proofs.Common.{◌≡◌, List, [], ◌∷◌, Bool, true, false, not, ◌||◌, ap, subst, refl, inl, inr}
use Rattle.std.specs.List.{list_all, AllByRecursion, Contains}
use Rattle.std.proofs.lemmas.Bool.{and_from, or_right}
use Rattle.key_table.specs.declared.atom.Verdict3.{Verdict3}
use Rattle.key_table.specs.Contexts.{Assumption, Context}
use Rattle.key_table.specs.Options.{holds_on, OptionLaw}
use Rattle.key_table.specs.Payments.{Entries, is_legal}
use Rattle.key_table.specs.Slots.{SameSlotLaw}
use Rattle.key_table.specs.Tables.{Table}
use Rattle.constraint_graph.specs.Laws.{agrees, SoundLaw}
use Rattle.constraint_graph.specs.Values.{holds}
use Rattle.rule_problem.specs.ContextLaws.{SettledLaw}
use Rattle.rule_problem.specs.declared.problem.Literal.{Literal}
use Rattle.rule_problem.specs.declared.problem.Problem.{Problem}
use Rattle.rule_problem.specs.Literals.{is_true, HasRefuted, HasEntailed}
use Rattle.rule_problem.specs.Open.{IsSettled}
use Rattle.rule_problem.specs.Problems.{some_path, rules_hold}
use Rattle.rule_problem.proofs.Fit.{there, first}
use Rattle.rule_problem.proofs.Soundness.{Agrees, IsLeftTo, met, bar_true, path_false, verdict_agrees}

each_agrees : (payment : Entries) (c : Context) → ((a : Assumption) → Contains c a → holds_on a.atom payment ≡ a.truth) → Agrees payment c
each_agrees payment [] each = tt
each_agrees payment (a ∷ c) each = (each a (first a c), each_agrees payment c (λ b in_it. each b (there a b c in_it)))

module _ (table : Table) (payment : Entries) (c : Context) (fits : IsLeftTo table c payment) (problem : Problem) where
  abbrev holds_all : List Literal → Bool
  holds_all path = list_all (is_true problem.atoms payment) path

  met_true : (paths : List (List Literal)) → HasEntailed table c problem.atoms paths → some_path problem.atoms payment paths ≡ true
  met_true [] h = absurd h
  met_true (path ∷ paths) (inl h) = ap (λ (b : Bool). b || some_path problem.atoms payment paths) (bar_true table payment c fits problem.atoms path h)
  met_true (path ∷ paths) (inr h) = or_right (holds_all path) (some_path problem.atoms payment paths) (met_true paths h)

  wants_true : (wants : List (List (List Literal))) → AllByRecursion (HasEntailed table c problem.atoms) wants → list_all (some_path problem.atoms payment) wants ≡ true
  wants_true [] h = refl
  wants_true (paths ∷ wants) h = and_from (some_path problem.atoms payment paths) (list_all (some_path problem.atoms payment) wants) (met_true paths h.0) (wants_true wants h.1)

  bars_false : (bars : List (List Literal)) → AllByRecursion (HasRefuted table c problem.atoms) bars → some_path problem.atoms payment bars ≡ false
  bars_false [] h = refl
  bars_false (bar ∷ bars) h = rw (path_false table payment c fits problem.atoms bar h.0, bars_false bars h.1) refl

  goal_true : SoundLaw → IsSettled table problem c → holds problem.graph payment problem.goal ≡ true
  goal_true law s =
      let P : Verdict3 → Type 0 = λ v. agrees v (holds problem.graph payment problem.goal) ≡ true in
      subst P s.goal.is (law s.goal.says payment problem.graph problem.goal (λ a in_it. verdict_agrees table payment c fits a (s.goal.says a) (s.goal.are a in_it)))

pub settled : OptionLaw → SameSlotLaw → SoundLaw → SettledLaw
settled option same law table problem c payment s legal each =
    let agree = each_agrees payment c each in
    let fits : IsLeftTo table c payment = record { left = λ slot. record { legal = option table payment slot legal; met = met same payment slot c agree } } in
    let goal = holds problem.graph payment problem.goal in
    let wants = list_all (some_path problem.atoms payment) problem.wants in
    let rules = and_from wants (not (some_path problem.atoms payment problem.bars)) (wants_true table payment c fits problem problem.wants s.wants) (ap not (bars_false table payment c fits problem problem.bars s.bars)) in
    and_from (is_legal table payment) _ legal (and_from goal (rules_hold problem payment) (goal_true table payment c fits problem law s) rules)
