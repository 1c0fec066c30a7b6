-- Which atoms are live, as verdicts of atoms tell it.
use Rattle.std.proofs.Common.{◌≡◌, ℕ, ◌<◌, ◌≤◌, ◌==◌, List, [], ◌∷◌, length, Bool, true, false, not, ◌&&◌, Option, Some, slice_get, inl, inr, refl, ap, sym, ◌∙◌, subst, arith, nat_lt}
use Rattle.std.specs.List.{list_any, Contains}
use Rattle.std.specs.Option.{IsSomeAnd}
use Rattle.std.proofs.lemmas.Bool.{true≢false, false≢true, and_parts, and_from, eqb-true, eq-eqb, ltb-true}
use Rattle.std.proofs.lemmas.Option.{slice_get-get_or, slice_get_within}
use Rattle.key_table.specs.declared.atom.Atom.{Atom}
use Rattle.key_table.specs.declared.atom.Verdict3.{Verdict3}
use Rattle.key_table.specs.declared.atom.Verdict3.TheVariants.{Entailed, Refuted, Undecided}
use Rattle.key_table.specs.Contexts.{Forces, HasVerdict}
use Rattle.constraint_graph.specs.Graphs.{atoms_of}
use Rattle.rule_problem.specs.declared.problem.Literal.{Literal}
use Rattle.rule_problem.specs.ContextLaws.{GoalLaw}
use Rattle.rule_problem.specs.Literals.{HasEntailed}
use Rattle.rule_problem.specs.Open.{StandsIn, StandsInOpen, GoalIsUndecided, Matters, for_want, for_bar, for_goal, IsLive}
use Rattle.rule_problem.specs.Problems.{problem_fits, atoms_fit, atoms_stand, literals_fit, numbers_fit}
use Rattle.rule_problem.specs.declared.problem.Problem.{Problem}
use Rattle.key_table.specs.Tables.{Table}
use Rattle.rule_problem.specs.Quantifiers.{AnyByRecursion}
use Rattle.domain_store.specs.Stores.{Seen, context_of}
use Rattle.domain_store.specs.Verdicts.{HasGoalVerdict}
use Rattle.rule_search.specs.Choosing.{IsLiveAt, stands_in, stands_in_open, stands_in_wants}
use Rattle.rule_search.specs.Standings.{AreNumbered}
use Rattle.rule_search.specs.Told.{IsForced, AreVerdicts, is_forced, is_refuted, has_entailed}
use Rattle.rule_search.proofs.Quantifiers.{any_yes, any_back}
use Rattle.rule_search.proofs.Telling.{refuted_yes, refuted_back, has_entailed_yes, has_entailed_back}

-- A test that fails speaks against what it tests, and one that passes for it.
not_told : {P : Type 0} (b : Bool) → (P → b ≡ true) → not b ≡ true → P → ⊥
not_told true back h p = false≢true h
not_told false back h p = false≢true (back p)

told_not : {P : Type 0} (b : Bool) → (b ≡ true → P) → (P → ⊥) → not b ≡ true
told_not true tells refuse = absurd (refuse (tells refl))
told_not false tells refuse = refl

module _ (seen : Seen) (vs : List Verdict3) (told : AreVerdicts seen vs) (numbers : AreNumbered seen.problem) (n : ℕ) (atom : Atom) (there : slice_get seen.problem.atoms n ≡ Some atom) where
  on_atom : (l : Literal) → l.atom == n ≡ true → slice_get seen.problem.atoms l.atom ≡ Some atom
  on_atom l h = ap (slice_get seen.problem.atoms) (eqb-true l.atom n h) ∙ there

  on_number : (l : Literal) → slice_get seen.problem.atoms l.atom ≡ Some atom → l.atom == n ≡ true
  on_number l h = eq-eqb l.atom n (sym (numbers.places l.atom atom h) ∙ numbers.places n atom there)

  open_yes : (path : List Literal) → stands_in_open vs n path ≡ true → StandsInOpen seen.table (context_of seen) seen.problem.atoms atom path
  open_yes path h =
      let both = and_parts (stands_in n path) (not (is_refuted vs path)) h in
      (any_yes (λ (l : Literal). slice_get seen.problem.atoms l.atom ≡ Some atom) (λ (l : Literal). l.atom == n) on_atom path both.0, not_told (is_refuted vs path) (refuted_back seen vs told path) both.1)

  open_back : (path : List Literal) → StandsInOpen seen.table (context_of seen) seen.problem.atoms atom path → stands_in_open vs n path ≡ true
  open_back path h =
      and_from (stands_in n path) (not (is_refuted vs path)) (any_back (λ (l : Literal). slice_get seen.problem.atoms l.atom ≡ Some atom) (λ (l : Literal). l.atom == n) on_number path h.0) (told_not (is_refuted vs path) (refuted_yes seen vs told path) h.1)

  abbrev Waits : List (List Literal) → Type 0
  Waits paths = (HasEntailed seen.table (context_of seen) seen.problem.atoms paths → ⊥) × AnyByRecursion (StandsInOpen seen.table (context_of seen) seen.problem.atoms atom) paths

  want_yes : (paths : List (List Literal)) → (not (has_entailed vs paths) && list_any (stands_in_open vs n) paths) ≡ true → Waits paths
  want_yes paths h =
      let both = and_parts (not (has_entailed vs paths)) (list_any (stands_in_open vs n) paths) h in
      (not_told (has_entailed vs paths) (has_entailed_back seen vs told paths) both.0, any_yes (StandsInOpen seen.table (context_of seen) seen.problem.atoms atom) (stands_in_open vs n) open_yes paths both.1)

  want_back : (paths : List (List Literal)) → Waits paths → (not (has_entailed vs paths) && list_any (stands_in_open vs n) paths) ≡ true
  want_back paths h =
      and_from (not (has_entailed vs paths)) (list_any (stands_in_open vs n) paths) (told_not (has_entailed vs paths) (has_entailed_yes seen vs told paths) h.0)
      (any_back (StandsInOpen seen.table (context_of seen) seen.problem.atoms atom) (stands_in_open vs n) open_back paths h.1)

  forced_here : (truth : Bool) → Forces seen.table (context_of seen) atom truth → IsForced seen n truth
  forced_here truth f = subst (λ (o : Option Atom). IsSomeAnd o (λ a. Forces seen.table (context_of seen) a truth)) (sym there) f

  forced_of : (truth : Bool) → IsForced seen n truth → Forces seen.table (context_of seen) atom truth
  forced_of truth f = subst (λ (o : Option Atom). IsSomeAnd o (λ a. Forces seen.table (context_of seen) a truth)) there f

  pub undecided_yes : not (is_forced vs n true) ≡ true → not (is_forced vs n false) ≡ true → HasVerdict seen.table (context_of seen) atom Undecided
  undecided_yes t f = ((λ h. not_told (is_forced vs n true) (told n true).1 t (forced_here true h)), (λ h. not_told (is_forced vs n false) (told n false).1 f (forced_here false h)))

  pub undecided_back : HasVerdict seen.table (context_of seen) atom Undecided → (not (is_forced vs n true) ≡ true) × (not (is_forced vs n false) ≡ true)
  undecided_back u = (told_not (is_forced vs n true) (told n true).0 (λ h. u.0 (forced_of true h)), told_not (is_forced vs n false) (told n false).0 (λ h. u.1 (forced_of false h)))

  pub by_want : (wants : List (List (List Literal))) → wants ≡ seen.problem.wants → stands_in_wants vs n wants ≡ true → Matters seen.table seen.problem (context_of seen) atom
  by_want wants same h = for_want (subst (AnyByRecursion Waits) same (any_yes Waits (λ paths. not (has_entailed vs paths) && list_any (stands_in_open vs n) paths) want_yes wants h))

  pub by_bar : (bars : List (List Literal)) → bars ≡ seen.problem.bars → list_any (stands_in_open vs n) bars ≡ true → Matters seen.table seen.problem (context_of seen) atom
  by_bar bars same h = for_bar (subst (AnyByRecursion (StandsInOpen seen.table (context_of seen) seen.problem.atoms atom)) same (any_yes (StandsInOpen seen.table (context_of seen) seen.problem.atoms atom) (stands_in_open vs n) open_yes bars h))

  undecided_goal : GoalLaw → HasGoalVerdict seen Undecided → GoalIsUndecided seen.table seen.problem (context_of seen)
  undecided_goal law h =
      ((λ e. let no : Undecided ≡ Entailed = law seen.table (context_of seen) seen.problem.graph seen.problem.goal Undecided Entailed h e in cc), (λ r. let no : Undecided ≡ Refuted = law seen.table (context_of seen) seen.problem.graph seen.problem.goal Undecided Refuted h r in cc))

  pub by_goal : GoalLaw → HasGoalVerdict seen Undecided → Contains (atoms_of seen.problem.graph) atom → Matters seen.table seen.problem (context_of seen) atom
  by_goal law h own = for_goal (undecided_goal law h) own

  pub live_here : IsLive seen.table seen.problem (context_of seen) atom → IsLiveAt seen n
  live_here l = subst (λ (o : Option Atom). IsSomeAnd o (IsLive seen.table seen.problem (context_of seen))) (sym there) l

  undecided_only : (v : Verdict3) → HasGoalVerdict seen v → GoalIsUndecided seen.table seen.problem (context_of seen) → v ≡ Undecided
  undecided_only Entailed h u = absurd (u.0 h)
  undecided_only Refuted h u = absurd (u.1 h)
  undecided_only Undecided h u = refl

  -- An atom that stands in no want and no bar as it should matters for the goal.
  pub matters_back : (v : Verdict3) → HasGoalVerdict seen v → (wants : List (List (List Literal))) (bars : List (List Literal)) → wants ≡ seen.problem.wants → bars ≡ seen.problem.bars
      → stands_in_wants vs n wants ≡ false → list_any (stands_in_open vs n) bars ≡ false → Matters seen.table seen.problem (context_of seen) atom → (v ≡ Undecided) × Contains (atoms_of seen.problem.graph) atom
  matters_back v h wants bars same_wants same_bars no_want no_bar (for_want w) =
      absurd (true≢false (sym (any_back Waits (λ paths. not (has_entailed vs paths) && list_any (stands_in_open vs n) paths) want_back wants (subst (AnyByRecursion Waits) (sym same_wants) w)) ∙ no_want))
  matters_back v h wants bars same_wants same_bars no_want no_bar (for_bar b) =
      absurd (true≢false (sym (any_back (StandsInOpen seen.table (context_of seen) seen.problem.atoms atom) (stands_in_open vs n) open_back bars (subst (AnyByRecursion (StandsInOpen seen.table (context_of seen) seen.problem.atoms atom)) (sym same_bars) b)) ∙ no_bar))
  matters_back v h wants bars same_wants same_bars no_want no_bar (for_goal u own) = (undecided_only v h u, own)

-- A live atom is one of the problem's.
number_in : (atoms : List Atom) (atom : Atom) (path : List Literal) → StandsIn atoms atom path → (n : ℕ) × (slice_get atoms n ≡ Some atom)
number_in atoms atom [] h = absurd h
number_in atoms atom (l ∷ path) (inl is) = (l.atom, is)
number_in atoms atom (l ∷ path) (inr rest) = number_in atoms atom path rest

module _ (seen : Seen) (atom : Atom) where
  in_paths : (paths : List (List Literal)) → AnyByRecursion (StandsInOpen seen.table (context_of seen) seen.problem.atoms atom) paths → (n : ℕ) × (slice_get seen.problem.atoms n ≡ Some atom)
  in_paths [] h = absurd h
  in_paths (path ∷ paths) (inl h) = number_in seen.problem.atoms atom path h.0
  in_paths (path ∷ paths) (inr h) = in_paths paths h

  in_wants : (wants : List (List (List Literal))) → AnyByRecursion (λ paths. (HasEntailed seen.table (context_of seen) seen.problem.atoms paths → ⊥) × AnyByRecursion (StandsInOpen seen.table (context_of seen) seen.problem.atoms atom) paths) wants → (n : ℕ) × (slice_get seen.problem.atoms n ≡ Some atom)
  in_wants [] h = absurd h
  in_wants (paths ∷ wants) (inl h) = in_paths paths h.1
  in_wants (paths ∷ wants) (inr h) = in_wants wants h

  number_of : ((a : Atom) → Contains (atoms_of seen.problem.graph) a → Contains seen.problem.atoms a) → Matters seen.table seen.problem (context_of seen) atom → (n : ℕ) × (slice_get seen.problem.atoms n ≡ Some atom)
  number_of graph (for_want w) = in_wants seen.problem.wants w
  number_of graph (for_bar b) = in_paths seen.problem.bars b
  number_of graph (for_goal u own) = let c = graph atom own in (c.0, slice_get-get_or seen.problem.atoms c.0 atom c.1 ∙ ap (λ (a : Atom). Some a) c.2)

-- Where no number is that of a live atom, no atom is live.
pub none_live : (seen : Seen) (count : ℕ) → ((a : Atom) → Contains (atoms_of seen.problem.graph) a → Contains seen.problem.atoms a) → length seen.problem.atoms ≤ count → ((m : ℕ) → m < count → IsLiveAt seen m → ⊥)
    → (atom : Atom) → IsLive seen.table seen.problem (context_of seen) atom → ⊥
none_live seen count graph all refuse atom live =
    let n = number_of seen atom graph live.matters in
    let within = slice_get_within seen.problem.atoms n.0 atom n.1 in
    refuse n.0 (omega (arith, within, all)) (subst (λ (o : Option Atom). IsSomeAnd o (IsLive seen.table seen.problem (context_of seen))) (sym n.1) live)

-- The goal of a problem that fits is a node.
pub goal_within : (table : Table) (problem : Problem) → problem_fits table problem ≡ true → problem.goal < length problem.graph
unfolding problem_fits
goal_within table problem fits =
    let one = and_parts (atoms_fit table problem) (atoms_stand problem && numbers_fit problem) fits in
    let two = and_parts (atoms_stand problem) (numbers_fit problem) one.1 in
    let three = and_parts (literals_fit problem) (nat_lt problem.goal (length problem.graph)) two.1 in
    ltb-true problem.goal (length problem.graph) three.1
