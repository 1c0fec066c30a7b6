-- An open context has a live atom.
use Rattle.std.proofs.Common.{◌≡◌, List, [], ◌∷◌, length, Bool, true, false, not, ltb, inl, inr, Option, Some, None, slice_get, refl, sym, ◌∙◌, subst}
use Rattle.std.specs.Option.{IsSomeAnd}
use Rattle.std.specs.List.{list_all, AllByRecursion, Contains}
use Rattle.std.proofs.lemmas.Bool.{and_parts, ltb-true, false≢true}
use Rattle.key_table.specs.declared.atom.Atom.{Atom}
use Rattle.key_table.specs.declared.atom.Verdict3.{Verdict3}
use Rattle.key_table.specs.declared.atom.Verdict3.TheVariants.{Entailed, Refuted, Undecided}
use Rattle.key_table.specs.Contexts.{Context, Forces, HasVerdict}
use Rattle.key_table.specs.Tables.{Table}
use Rattle.constraint_graph.specs.Graphs.{atoms_of}
use Rattle.constraint_graph.specs.Laws.{UndecidedLaw}
use Rattle.constraint_graph.specs.Values.{verdict}
use Rattle.rule_problem.specs.ContextLaws.{LiveLaw, FoundLaw}
use Rattle.rule_problem.specs.declared.problem.Literal.{Literal}
use Rattle.rule_problem.specs.declared.problem.Problem.{Problem}
use Rattle.rule_problem.specs.Goals.{GoalHasVerdict}
use Rattle.rule_problem.specs.Literals.{IsEntailed, IsRefuted, AreEntailed, HasRefuted, HasEntailed, AreRefuted}
use Rattle.rule_problem.specs.Open.{IsOpen, StandsIn, StandsInOpen, GoalIsUndecided, IsLive}
use Rattle.rule_problem.specs.Open.Matters.{for_want, for_bar, for_goal}
use Rattle.rule_problem.specs.Problems.{path_fits}
use Rattle.rule_problem.specs.Quantifiers.{AnyByRecursion}
use Rattle.rule_problem.specs.Reasons.{void, want, bar, goal}
use Rattle.rule_problem.proofs.Assigned.{judged, assigned}
use Rattle.rule_problem.proofs.Fit.{at_number, Parts, fits_parts, in_graph}
use Rattle.rule_problem.proofs.Names.{SameLaw}
use Rattle.rule_problem.proofs.Weaker.{each_not}

-- Something is done, or fails, or waits for an undecided atom.
data State (table : Table) (c : Context) (Done Fails : Type 0) (Waits : Atom → Type 0) : Type 0 where
  done : Done → State table c Done Fails Waits
  fails : Fails → State table c Done Fails Waits
  waits : (a : Atom) → HasVerdict table c a Undecided → Waits a → State table c Done Fails Waits

module _ (table : Table) (c : Context) (atoms : List Atom) (says : Atom → Verdict3) (are : (a : Atom) → Contains atoms a → HasVerdict table c a (says a)) (whole : (a : Atom) → Forces table c a true → Forces table c a false → ⊥) where
  abbrev LiteralState : Literal → Type 0
  LiteralState l = State table c (IsEntailed table c atoms l) (IsRefuted table c atoms l) (λ a. slice_get atoms l.atom ≡ Some a)

  apart_wanted : (a : Atom) (b : Bool) → Forces table c a (not b) → Forces table c a b → ⊥
  apart_wanted a true r e = whole a e r
  apart_wanted a false r e = whole a r e

  apart_some : (o : Option Atom) (b : Bool) → IsSomeAnd o (λ a. Forces table c a (not b)) → IsSomeAnd o (λ a. Forces table c a b) → ⊥
  apart_some None b r e = r
  apart_some (Some a) b r e = apart_wanted a b r e

  -- nothing is both entailed and refuted
  not_both : (path : List Literal) → HasRefuted table c atoms path → AreEntailed table c atoms path → ⊥
  not_both [] r e = r
  not_both (l ∷ path) (inl r) e = apart_some (slice_get atoms l.atom) l.want r e.0
  not_both (l ∷ path) (inr r) e = not_both path r e.1

  undecided_some : (o : Option Atom) (a : Atom) (b : Bool) → o ≡ Some a → HasVerdict table c a Undecided → IsSomeAnd o (λ x. Forces table c x b) → ⊥
  undecided_some o a true is u h = u.0 (subst (λ (p : Option Atom). IsSomeAnd p (λ x. Forces table c x true)) is h)
  undecided_some o a false is u h = u.1 (subst (λ (p : Option Atom). IsSomeAnd p (λ x. Forces table c x false)) is h)

  not_entailed : (path : List Literal) (a : Atom) → HasVerdict table c a Undecided → StandsIn atoms a path → AreEntailed table c atoms path → ⊥
  not_entailed [] a u in_it e = in_it
  not_entailed (l ∷ path) a u (inl is) e = undecided_some (slice_get atoms l.atom) a l.want is u e.0
  not_entailed (l ∷ path) a u (inr later) e = not_entailed path a u later e.1

  atom_state : (a : Atom) (truth : Bool) (v : Verdict3) → HasVerdict table c a v → State table c (Forces table c a truth) (Forces table c a (not truth)) (λ x. Some a ≡ Some x)
  atom_state a true Entailed h = done h.0
  atom_state a true Refuted h = fails h
  atom_state a false Entailed h = fails h.0
  atom_state a false Refuted h = done h
  atom_state a truth Undecided h = waits a h refl

  literal_state : (l : Literal) → ltb l.atom (length atoms) ≡ true → LiteralState l
  literal_state l below =
      let at = at_number atoms l.atom (ltb-true l.atom (length atoms) below) in
      subst (λ (o : Option Atom). State table c (IsSomeAnd o (λ a. Forces table c a l.want)) (IsSomeAnd o (λ a. Forces table c a (not l.want))) (λ a. o ≡ Some a)) (sym at.1) (atom_state at.0 l.want (says at.0) (are at.0 at.2))

  abbrev PathState : List Literal → Type 0
  PathState path = State table c (AreEntailed table c atoms path) (HasRefuted table c atoms path) (λ a. StandsInOpen table c atoms a path)

  path_more : (l : Literal) (path : List Literal) → LiteralState l → PathState path → PathState (l ∷ path)
  path_more l path (fails r) state = fails (inl r)
  path_more l path (done e) (done es) = done (e, es)
  path_more l path (done e) (fails r) = fails (inr r)
  path_more l path (done e) (waits a u in_it) = waits a u (inr in_it.0, λ r. elim r [ inl here ↦ apart_some (slice_get atoms l.atom) l.want here e | inr later ↦ in_it.1 later ])
  path_more l path (waits a u is) (done es) = waits a u (inl is, λ r. elim r [ inl here ↦ undecided_some (slice_get atoms l.atom) a (not l.want) is u here | inr later ↦ not_both path later es ])
  path_more l path (waits a u is) (fails r) = fails (inr r)
  path_more l path (waits a u is) (waits b w in_it) = waits a u (inl is, λ r. elim r [ inl here ↦ undecided_some (slice_get atoms l.atom) a (not l.want) is u here | inr later ↦ in_it.1 later ])

  path_state : (path : List Literal) → path_fits atoms path ≡ true → PathState path
  path_state [] fit = done tt
  path_state (l ∷ path) fit =
      let parts = and_parts (ltb l.atom (length atoms)) (path_fits atoms path) fit in
      path_more l path (literal_state l parts.0) (path_state path parts.1)

  abbrev Waiting : List (List Literal) → Atom → Type 0
  Waiting paths a = (HasEntailed table c atoms paths → ⊥) × AnyByRecursion (StandsInOpen table c atoms a) paths

  abbrev WantState : List (List Literal) → Type 0
  WantState paths = State table c (HasEntailed table c atoms paths) (AreRefuted table c atoms paths) (Waiting paths)

  want_not_both : (paths : List (List Literal)) → HasEntailed table c atoms paths → AreRefuted table c atoms paths → ⊥
  want_not_both [] e r = e
  want_not_both (path ∷ paths) (inl e) r = not_both path r.0 e
  want_not_both (path ∷ paths) (inr e) r = want_not_both paths e r.1

  want_more : (path : List Literal) (paths : List (List Literal)) → PathState path → WantState paths → WantState (path ∷ paths)
  want_more path paths (done e) state = done (inl e)
  want_more path paths (fails r) (done e) = done (inr e)
  want_more path paths (fails r) (fails rs) = fails (r, rs)
  want_more path paths (fails r) (waits a u w) = waits a u (λ e. elim e [ inl here ↦ not_both path r here | inr later ↦ w.0 later ], inr w.1)
  want_more path paths (waits a u in_it) (done e) = done (inr e)
  want_more path paths (waits a u in_it) (fails rs) = waits a u (λ e. elim e [ inl here ↦ not_entailed path a u in_it.0 here | inr later ↦ want_not_both paths later rs ], inl in_it)
  want_more path paths (waits a u in_it) (waits b v w) = waits a u (λ e. elim e [ inl here ↦ not_entailed path a u in_it.0 here | inr later ↦ w.0 later ], inl in_it)

  want_state : (paths : List (List Literal)) → list_all (path_fits atoms) paths ≡ true → WantState paths
  want_state [] fit = fails tt
  want_state (path ∷ paths) fit =
      let parts = and_parts (path_fits atoms path) (list_all (path_fits atoms) paths) fit in
      want_more path paths (path_state path parts.0) (want_state paths parts.1)

  -- Where no want fails, all are met or one waits.
  wants_more : (paths : List (List Literal)) (wants : List (List (List Literal))) → (AreRefuted table c atoms paths → ⊥) → WantState paths
      → State table c (AllByRecursion (HasEntailed table c atoms) wants) ⊥ (λ a. AnyByRecursion (λ ps. Waiting ps a) wants) → State table c (AllByRecursion (HasEntailed table c atoms) (paths ∷ wants)) ⊥ (λ a. AnyByRecursion (λ ps. Waiting ps a) (paths ∷ wants))
  wants_more paths wants not_failed (fails r) state = absurd (not_failed r)
  wants_more paths wants not_failed (waits a u w) state = waits a u (inl w)
  wants_more paths wants not_failed (done e) (done es) = done (e, es)
  wants_more paths wants not_failed (done e) (fails f) = absurd f
  wants_more paths wants not_failed (done e) (waits a u w) = waits a u (inr w)

  wants_state : (wants : List (List (List Literal))) → list_all (λ paths. list_all (path_fits atoms) paths) wants ≡ true → AllByRecursion (λ paths. AreRefuted table c atoms paths → ⊥) wants
      → State table c (AllByRecursion (HasEntailed table c atoms) wants) ⊥ (λ a. AnyByRecursion (λ ps. Waiting ps a) wants)
  wants_state [] fit not_failed = done tt
  wants_state (paths ∷ wants) fit not_failed =
      let parts = and_parts (list_all (path_fits atoms) paths) (list_all (λ ps. list_all (path_fits atoms) ps) wants) fit in
      wants_more paths wants not_failed.0 (want_state paths parts.0) (wants_state wants parts.1 not_failed.1)

  -- Where no bar is entailed, all are refuted or one waits.
  bars_more : (path : List Literal) (bars : List (List Literal)) → (AreEntailed table c atoms path → ⊥) → PathState path
      → State table c (AllByRecursion (HasRefuted table c atoms) bars) ⊥ (λ a. AnyByRecursion (StandsInOpen table c atoms a) bars) → State table c (AllByRecursion (HasRefuted table c atoms) (path ∷ bars)) ⊥ (λ a. AnyByRecursion (StandsInOpen table c atoms a) (path ∷ bars))
  bars_more path bars none_entailed (done e) state = absurd (none_entailed e)
  bars_more path bars none_entailed (waits a u w) state = waits a u (inl w)
  bars_more path bars none_entailed (fails r) (done rs) = done (r, rs)
  bars_more path bars none_entailed (fails r) (fails f) = absurd f
  bars_more path bars none_entailed (fails r) (waits a u w) = waits a u (inr w)

  bars_state : (bars : List (List Literal)) → list_all (path_fits atoms) bars ≡ true → AllByRecursion (λ bar. AreEntailed table c atoms bar → ⊥) bars
      → State table c (AllByRecursion (HasRefuted table c atoms) bars) ⊥ (λ a. AnyByRecursion (StandsInOpen table c atoms a) bars)
  bars_state [] fit none_entailed = done tt
  bars_state (path ∷ bars) fit none_entailed =
      let parts = and_parts (path_fits atoms path) (list_all (path_fits atoms) bars) fit in
      bars_more path bars none_entailed.0 (path_state path parts.0) (bars_state bars parts.1 none_entailed.1)

module _ (law : SameLaw) (undecided : UndecidedLaw) (table : Table) (problem : Problem) (c : Context) (is_open : IsOpen table problem c) where
  abbrev Live : Type 0
  Live = (a : Atom) × IsLive table problem c a

  goal_undecided : AllByRecursion (HasEntailed table c problem.atoms) problem.wants → AllByRecursion (HasRefuted table c problem.atoms) problem.bars → GoalIsUndecided table problem c
  goal_undecided wants bars = (λ e. is_open.unsettled (record { wants = wants; bars = bars; goal = e }), λ r. is_open.no_reason goal r)

  in_goal : (v : Verdict3) → GoalHasVerdict table c problem.graph problem.goal v → GoalIsUndecided table problem c → Live
  in_goal Entailed h u = absurd (u.0 h)
  in_goal Refuted h u = absurd (u.1 h)
  in_goal Undecided h u =
      let found = undecided h.says problem.graph problem.goal h.is in
      let V : Verdict3 → Type 0 = λ v. HasVerdict table c found.0 v in
      (found.0, record { undecided = subst V found.2 (h.are found.0 found.1); matters = for_goal u found.1 })

  in_bars : (says : Atom → Verdict3) → ((a : Atom) → Contains (atoms_of problem.graph) a → HasVerdict table c a (says a)) → AllByRecursion (HasEntailed table c problem.atoms) problem.wants
      → State table c (AllByRecursion (HasRefuted table c problem.atoms) problem.bars) ⊥ (λ a. AnyByRecursion (StandsInOpen table c problem.atoms a) problem.bars) → Live
  in_bars says are met (done out) = in_goal (verdict says problem.graph problem.goal) (record { says = says; are = are; is = refl }) (goal_undecided met out)
  in_bars says are met (fails f) = absurd f
  in_bars says are met (waits a u w) = (a, record { undecided = u; matters = for_bar w })

  in_wants : (says : Atom → Verdict3) → ((a : Atom) → Contains (atoms_of problem.graph) a → HasVerdict table c a (says a))
      → State table c (AllByRecursion (HasRefuted table c problem.atoms) problem.bars) ⊥ (λ a. AnyByRecursion (StandsInOpen table c problem.atoms a) problem.bars)
      → State table c (AllByRecursion (HasEntailed table c problem.atoms) problem.wants) ⊥ (λ a. AnyByRecursion (λ ps. (HasEntailed table c problem.atoms ps → ⊥) × AnyByRecursion (StandsInOpen table c problem.atoms a) ps) problem.wants) → Live
  in_wants says are bars (done met) = in_bars says are met bars
  in_wants says are bars (fails f) = absurd f
  in_wants says are bars (waits a u w) = (a, record { undecided = u; matters = for_want w })

  no_void : (a : Atom) → Forces table c a true → Forces table c a false → ⊥
  no_void a t f = is_open.no_reason (void a) (λ option left. false≢true (sym (f option left) ∙ t option left))

  pub one_live : Parts problem → (says : Atom → Verdict3) → ((a : Atom) → Contains problem.atoms a → HasVerdict table c a (says a)) → Live
  one_live parts says are =
      in_wants says (λ a in_it. are a (in_graph law problem parts a in_it))
      (bars_state table c problem.atoms says are no_void problem.bars parts.bars (each_not (AreEntailed table c problem.atoms) problem.bars (λ b h. is_open.no_reason (bar b) h)))
      (wants_state table c problem.atoms says are no_void problem.wants parts.wants (each_not (AreRefuted table c problem.atoms) problem.wants (λ w h. is_open.no_reason (want w) h)))

pub found : SameLaw → UndecidedLaw → FoundLaw
found law undecided = λ table problem c says fits are is_open. one_live law undecided table problem c is_open (fits_parts table problem fits) says are

pub some : SameLaw → UndecidedLaw → LiveLaw
some law undecided = λ table problem c fits is_open none.
    assigned law (HasVerdict table c) (judged table c) problem.atoms (λ says are.
    let live = one_live law undecided table problem c is_open (fits_parts table problem fits) says are in
    none live.0 live.1)
