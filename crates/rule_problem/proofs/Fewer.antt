-- With fewer assumptions fewer reasons hold, an open context stays open and a live atom live: so a tree keeps its splits proper.
use Rattle.std.proofs.Common.{◌≡◌, List, [], ◌∷◌, ◌++◌, Bool, true, false, not, ◌⊎◌, inl, inr, refl, sym, ◌∙◌, subst, slice_get}
use Rattle.std.specs.List.{Contains}
use Rattle.std.proofs.lemmas.Bool.{false≢true}
use Rattle.std.proofs.lemmas.List.Elements.{Contains-append_left, Contains-push, Contains-push_cases}
use Rattle.key_table.specs.declared.atom.Atom.{Atom}
use Rattle.key_table.specs.declared.atom.Verdict3.{Verdict3}
use Rattle.key_table.specs.declared.atom.Verdict3.TheVariants.{Entailed, Refuted, Undecided}
use Rattle.key_table.specs.Contexts.{Assumption, Context, assume, IsVoid, Forces, HasVerdict, IsWithin, MoreLaw}
use Rattle.key_table.specs.Tables.{Table}
use Rattle.constraint_graph.specs.Graphs.{atoms_of}
use Rattle.constraint_graph.specs.Laws.{Stays}
use Rattle.constraint_graph.specs.Laws as graph_laws
use Rattle.constraint_graph.specs.Values.{verdict}
use Rattle.rule_problem.specs.declared.problem.Literal.{Literal}
use Rattle.rule_problem.specs.declared.problem.Problem.{Problem}
use Rattle.rule_problem.specs.Goals.{GoalHasVerdict}
use Rattle.rule_problem.specs.Laws.{DropLaw}
use Rattle.rule_problem.specs.Literals.{IsEntailed, IsRefuted, AreEntailed, HasRefuted, HasEntailed, AreRefuted}
use Rattle.rule_problem.specs.Open.{IsSettled, IsOpen, StandsInOpen, Matters, IsLive}
use Rattle.rule_problem.specs.Open.Matters.{for_want, for_bar, for_goal}
use Rattle.rule_problem.specs.Reasons.{Reason, void, want, bar, goal, ReasonHolds}
use Rattle.rule_problem.specs.Trees.{missing, closed, split}
use Rattle.rule_problem.proofs.Assigned.{judged, assigned}
use Rattle.rule_problem.proofs.Names.{SameLaw}
use Rattle.rule_problem.proofs.Weaker.{all_weaker, any_weaker, some_weaker}

with_within : (c d : Context) (atom : Atom) (truth : Bool) → IsWithin c d → IsWithin (c ++ assume atom truth ∷ []) (d ++ assume atom truth ∷ [])
with_within c d atom truth within a h =
    let at : (Contains c a) ⊎ (assume atom truth ≡ a) = Contains-push_cases c (assume atom truth) a h in
    elim at [
      | inl h ↦ Contains-append_left d (assume atom truth ∷ []) a (within a h)
      | inr e ↦ subst (λ (b : Assumption). Contains (d ++ assume atom truth ∷ []) b) e (Contains-push d (assume atom truth))
    ]

-- a verdict that is decided stays
kept : (v u w : Verdict3) → u ≡ v → (v ≡ Undecided → ⊥) → Stays u w → w ≡ v
kept Entailed u w is decided stays = subst (λ (x : Verdict3). Stays x w) is stays
kept Refuted u w is decided stays = subst (λ (x : Verdict3). Stays x w) is stays
kept Undecided u w is decided stays = absurd (decided refl)

module _ (same : SameLaw) (more : MoreLaw) (graph_more : graph_laws.MoreLaw) (table : Table) (problem : Problem) (c d : Context) (within : IsWithin c d) where
  entailed_more : (path : List Literal) → AreEntailed table c problem.atoms path → AreEntailed table d problem.atoms path
  entailed_more = all_weaker (IsEntailed table c problem.atoms) (IsEntailed table d problem.atoms)
      (λ l. some_weaker (λ a. Forces table c a l.want) (λ a. Forces table d a l.want) (λ a. more table c d a l.want within) (slice_get problem.atoms l.atom))

  refuted_more : (path : List Literal) → HasRefuted table c problem.atoms path → HasRefuted table d problem.atoms path
  refuted_more = any_weaker (IsRefuted table c problem.atoms) (IsRefuted table d problem.atoms)
      (λ l. some_weaker (λ a. Forces table c a (not l.want)) (λ a. Forces table d a (not l.want)) (λ a. more table c d a (not l.want) within) (slice_get problem.atoms l.atom))

  met_more : (paths : List (List Literal)) → HasEntailed table c problem.atoms paths → HasEntailed table d problem.atoms paths
  met_more = any_weaker (AreEntailed table c problem.atoms) (AreEntailed table d problem.atoms) entailed_more

  failed_more : (paths : List (List Literal)) → AreRefuted table c problem.atoms paths → AreRefuted table d problem.atoms paths
  failed_more = all_weaker (HasRefuted table c problem.atoms) (HasRefuted table d problem.atoms) refuted_more

  both_forced : (a : Atom) → Forces table d a true → Forces table d a false → IsVoid table d a.slot
  both_forced a t f option left = false≢true (sym (f option left) ∙ t option left)

  void_more : (a : Atom) → IsVoid table c a.slot → IsVoid table d a.slot
  void_more a none = both_forced a (more table c d a true within (λ option left. absurd (none option left))) (more table c d a false within (λ option left. absurd (none option left)))

  module _ (is_open : IsOpen table problem d) where
    stays : (a : Atom) (v w : Verdict3) → HasVerdict table c a v → HasVerdict table d a w → Stays v w
    stays a Undecided w h k = tt
    stays a Refuted Refuted h k = refl
    stays a Refuted Entailed h k = absurd (k.1 (more table c d a false within h))
    stays a Refuted Undecided h k = absurd (k.1 (more table c d a false within h))
    stays a Entailed Entailed h k = refl
    stays a Entailed Refuted h k = absurd (is_open.no_reason (void a) (both_forced a (more table c d a true within h.0) k))
    stays a Entailed Undecided h k = absurd (k.0 (more table c d a true within h.0))

    goal_more : (v : Verdict3) → (v ≡ Undecided → ⊥) → GoalHasVerdict table c problem.graph problem.goal v → (GoalHasVerdict table d problem.graph problem.goal v → ⊥) → ⊥
    goal_more v decided h none =
        assigned same (HasVerdict table d) (judged table d) (atoms_of problem.graph) (λ says are.
        none (record {
          says = says;
          are = are;
          is = kept v (verdict h.says problem.graph problem.goal) (verdict says problem.graph problem.goal) h.is decided
              (graph_more h.says says problem.graph problem.goal (λ a stands. stays a (h.says a) (says a) (h.are a stands) (are a stands)));
        }))

    no_reason_less : (reason : Reason) → ReasonHolds table problem c reason → ⊥
    no_reason_less (void a) h = is_open.no_reason (void a) (void_more a h)
    no_reason_less (want w) h = is_open.no_reason (want w) (some_weaker (AreRefuted table c problem.atoms) (AreRefuted table d problem.atoms) failed_more (slice_get problem.wants w) h)
    no_reason_less (bar b) h = is_open.no_reason (bar b) (some_weaker (AreEntailed table c problem.atoms) (AreEntailed table d problem.atoms) entailed_more (slice_get problem.bars b) h)
    no_reason_less goal h = goal_more Refuted (λ e. cc) h (is_open.no_reason goal)

    unsettled_less : IsSettled table problem c → ⊥
    unsettled_less s =
        goal_more Entailed (λ e. cc) s.goal (λ entailed.
        is_open.unsettled (record {
          wants = all_weaker (HasEntailed table c problem.atoms) (HasEntailed table d problem.atoms) met_more problem.wants s.wants;
          bars = all_weaker (HasRefuted table c problem.atoms) (HasRefuted table d problem.atoms) refuted_more problem.bars s.bars;
          goal = entailed;
        }))

    pub open_less : IsOpen table problem c
    open_less = record { no_reason = no_reason_less; unsettled = unsettled_less }

    stands_less : (a : Atom) (path : List Literal) → StandsInOpen table d problem.atoms a path → StandsInOpen table c problem.atoms a path
    stands_less a path h = (h.0, λ r. h.1 (refuted_more path r))

    matters_less : (a : Atom) → Matters table problem d a → Matters table problem c a
    matters_less a (for_want h) = for_want (any_weaker _ _ (λ paths u. (λ met. u.0 (met_more paths met), any_weaker _ _ (stands_less a) paths u.1)) problem.wants h)
    matters_less a (for_bar h) = for_bar (any_weaker _ _ (stands_less a) problem.bars h)
    matters_less a (for_goal g is_of) = for_goal (λ e. goal_more Entailed (λ s. cc) e g.0, λ r. goal_more Refuted (λ s. cc) r g.1) is_of

    pub live_less : (a : Atom) → IsLive table problem d a → IsLive table problem c a
    live_less a l = record {
      undecided = (λ t. l.undecided.0 (more table c d a true within t), λ f. l.undecided.1 (more table c d a false within f));
      matters = matters_less a l.matters;
    }

pub proper_less : SameLaw → MoreLaw → graph_laws.MoreLaw → DropLaw
proper_less same more graph_more table problem c d missing within h = tt
proper_less same more graph_more table problem c d (closed reason) within h = tt
proper_less same more graph_more table problem c d (split a left right) within h = (
  open_less same more graph_more table problem c d within h.0,
  live_less same more graph_more table problem c d within h.0 a h.1,
  proper_less same more graph_more table problem (c ++ assume a true ∷ []) (d ++ assume a true ∷ []) left (with_within c d a true within) h.2,
  proper_less same more graph_more table problem (c ++ assume a false ∷ []) (d ++ assume a false ∷ []) right (with_within c d a false within) h.3,
)
