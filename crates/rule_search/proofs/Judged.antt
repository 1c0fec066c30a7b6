-- How a context stands, by what the verdicts of the atoms and of the goal tell.
use Rattle.std.proofs.Common.{◌≡◌, ℕ, List, [], ◌∷◌, ◌≤◌, length, get_or, Bool, true, false, arith, Option, Some, None, slice_get, refl, ap, sym, ◌∙◌, subst}
use Rattle.std.specs.Option.{IsSomeAnd}
use Rattle.std.specs.List.{AllByRecursion, position, position_or_len, list_all}
use Rattle.std.proofs.lemmas.Bool.{true≢false, and_parts, and_from}
use Rattle.std.proofs.lemmas.Option.{slice_get-get_or, slice_get_within, get_or_from_slice_get}
use Rattle.std.proofs.lemmas.Grind.{common_steps}
use Rattle.std.proofs.lemmas.List.Sums.{fails_before_first}
use Rattle.std.proofs.lemmas.List.Quantifiers.{position-Some}
use Rattle.key_table.specs.declared.atom.Verdict3.{Verdict3}
use Rattle.key_table.specs.declared.atom.Verdict3.TheVariants.{Entailed, Refuted}
use Rattle.key_table.specs.declared.atom.Atom.{Atom}
use Rattle.key_table.specs.Contexts.{LeftLaw, IsVoid}
use Rattle.rule_problem.specs.declared.certificate.Item.TheVariants.{Want, Bar, Goal}
use Rattle.rule_problem.specs.declared.problem.Literal.{Literal}
use Rattle.rule_problem.specs.ContextLaws.{GoalLaw}
use Rattle.rule_problem.specs.Literals.{AreEntailed, HasRefuted, HasEntailed, AreRefuted}
use Rattle.rule_problem.specs.Open.{IsSettled}
use Rattle.rule_problem.specs.Reasons.{Reason, void, want, bar, goal, ReasonHolds}
use Rattle.domain_store.specs.Stores.{Seen, context_of, HasNoVoid}
use Rattle.domain_store.specs.Verdicts.{HasGoalVerdict}
use Rattle.rule_search.specs.Told.{AreVerdicts, is_entailed, has_entailed, are_refuted, are_met}
use Rattle.rule_search.specs.declared.judging.Standing.TheVariants.{Closed, Settled, Open}
use Rattle.rule_search.specs.Standings.{Stands}
use Rattle.rule_search.proofs.Quantifiers.{all_yes, all_back, some_item}
use Rattle.rule_search.proofs.Telling.{entailed_yes, entailed_back, has_entailed_yes, has_entailed_back, are_refuted_yes, are_refuted_back}

-- An item that is found by its number passes, and where none is found none passes.
pub found_at : {X : Type 0} (P : X → Type 0) (p : X → Bool) → ((x : X) → p x ≡ true → P x) → (xs : List X) (n : ℕ) → position p xs ≡ Some n → IsSomeAnd (slice_get xs n) P
found_at P p f [] n is = cc
found_at P p f (x ∷ xs) n is =
    let found = position-Some p (x ∷ xs) n x is in
    subst (λ (o : Option _). IsSomeAnd o P) (sym (slice_get-get_or (x ∷ xs) n x found.0)) (f (get_or (x ∷ xs) n x) found.1)

past_all : {X : Type 0} (p : X → Bool) (xs : List X) → position p xs ≡ None → length xs ≤ position_or_len p xs
past_all p xs is = grind (arith, common_steps)

pub none_at : {X : Type 0} (P : X → Type 0) (p : X → Bool) → ((x : X) → P x → p x ≡ true) → (xs : List X) → position p xs ≡ None → (n : ℕ) → IsSomeAnd (slice_get xs n) P → ⊥
none_at P p f xs is n h =
    let item = some_item P (slice_get xs n) h in
    let within = slice_get_within xs n item.0 item.1 in
    let past = past_all p xs is in
    let fails : p (get_or xs n item.0) ≡ false = fails_before_first p xs n item.0 (omega (arith, within, past)) in
    true≢false (sym (f item.0 item.2) ∙ ap p (sym (get_or_from_slice_get xs n item.0 item.0 item.1)) ∙ fails)

-- No slot is void.
pub no_void : LeftLaw → (seen : Seen) → HasNoVoid seen → (atom : Atom) → IsVoid seen.table (context_of seen) atom.slot → ⊥
no_void law seen whole atom h = let some = whole atom.slot in h some.0 ((law seen.table (context_of seen) atom.slot some.0).0 some.1)

module _ (seen : Seen) (vs : List Verdict3) (told : AreVerdicts seen vs) where
  pub bar_stands : (bars : List (List Literal)) (n : ℕ) → bars ≡ seen.problem.bars → position (is_entailed vs) bars ≡ Some n → Stands seen (Closed (Bar n))
  bar_stands bars n same is =
      let holds = found_at (AreEntailed seen.table (context_of seen) seen.problem.atoms) (is_entailed vs) (entailed_yes seen vs told) bars n is in
      (bar n, refl, subst (λ (b : List (List Literal)). IsSomeAnd (slice_get b n) (AreEntailed seen.table (context_of seen) seen.problem.atoms)) same holds, refl)

  pub want_stands : (wants : List (List (List Literal))) (n : ℕ) → wants ≡ seen.problem.wants → position (are_refuted vs) wants ≡ Some n → Stands seen (Closed (Want n))
  want_stands wants n same is =
      let holds = found_at (AreRefuted seen.table (context_of seen) seen.problem.atoms) (are_refuted vs) (are_refuted_yes seen vs told) wants n is in
      (want n, refl, subst (λ (w : List (List (List Literal))). IsSomeAnd (slice_get w n) (AreRefuted seen.table (context_of seen) seen.problem.atoms)) same holds, refl)

  pub goal_stands : HasGoalVerdict seen Refuted → Stands seen (Closed Goal)
  goal_stands h = (goal, refl, h, refl)

  pub settled_stands : (wants : List (List (List Literal))) (bars : List (List Literal)) → wants ≡ seen.problem.wants → bars ≡ seen.problem.bars → HasGoalVerdict seen Entailed → are_met vs wants bars ≡ true → Stands seen Settled
  settled_stands wants bars same_wants same_bars h met =
      let both = and_parts (list_all (has_entailed vs) wants) (are_refuted vs bars) met in
      record {
        wants = subst (AllByRecursion (HasEntailed seen.table (context_of seen) seen.problem.atoms)) same_wants (all_yes (HasEntailed seen.table (context_of seen) seen.problem.atoms) (has_entailed vs) (has_entailed_yes seen vs told) wants both.0);
        bars = subst (AllByRecursion (HasRefuted seen.table (context_of seen) seen.problem.atoms)) same_bars (are_refuted_yes seen vs told bars both.1);
        goal = h;
      }

  not_met : (wants : List (List (List Literal))) (bars : List (List Literal)) → wants ≡ seen.problem.wants → bars ≡ seen.problem.bars → are_met vs wants bars ≡ false → IsSettled seen.table seen.problem (context_of seen) → ⊥
  not_met wants bars same_wants same_bars met s =
      let w = all_back (HasEntailed seen.table (context_of seen) seen.problem.atoms) (has_entailed vs) (has_entailed_back seen vs told) wants (subst (AllByRecursion (HasEntailed seen.table (context_of seen) seen.problem.atoms)) (sym same_wants) s.wants) in
      let b = are_refuted_back seen vs told bars (subst (AllByRecursion (HasRefuted seen.table (context_of seen) seen.problem.atoms)) (sym same_bars) s.bars) in
      true≢false (sym (and_from (list_all (has_entailed vs) wants) (are_refuted vs bars) w b) ∙ met)

  none_holds : LeftLaw → HasNoVoid seen → position (is_entailed vs) seen.problem.bars ≡ None → position (are_refuted vs) seen.problem.wants ≡ None → (HasGoalVerdict seen Refuted → ⊥) → (reason : Reason) → ReasonHolds seen.table seen.problem (context_of seen) reason → ⊥
  none_holds law full bars wants not_refuted (void atom) h = no_void law seen full atom h
  none_holds law full bars wants not_refuted (want w) h = none_at (AreRefuted seen.table (context_of seen) seen.problem.atoms) (are_refuted vs) (are_refuted_back seen vs told) seen.problem.wants wants w h
  none_holds law full bars wants not_refuted (bar b) h = none_at (AreEntailed seen.table (context_of seen) seen.problem.atoms) (is_entailed vs) (entailed_back seen vs told) seen.problem.bars bars b h
  none_holds law full bars wants not_refuted goal h = not_refuted h

  not_this : GoalLaw → (v w : Verdict3) → HasGoalVerdict seen v → (v ≡ w → ⊥) → HasGoalVerdict seen w → ⊥
  not_this law v w h differ other = differ (law seen.table (context_of seen) seen.problem.graph seen.problem.goal v w h other)

  -- The goal is undecided, or it is entailed and not all is met.
  pub open_stands : LeftLaw → GoalLaw → HasNoVoid seen → (wants : List (List (List Literal))) (bars : List (List Literal)) → wants ≡ seen.problem.wants → bars ≡ seen.problem.bars
      → position (is_entailed vs) bars ≡ None → position (are_refuted vs) wants ≡ None → (v : Verdict3) → HasGoalVerdict seen v → (v ≡ Refuted → ⊥) → (v ≡ Entailed → are_met vs wants bars ≡ false) → Stands seen (Open v)
  open_stands law one full wants bars same_wants same_bars no_bar no_want v h not_refuted unmet =
      let b = subst (λ (l : List (List Literal)). position (is_entailed vs) l ≡ None) same_bars no_bar in
      let w = subst (λ (l : List (List (List Literal))). position (are_refuted vs) l ≡ None) same_wants no_want in (
        record {
          no_reason = none_holds law full b w (not_this one v Refuted h not_refuted);
          unsettled = λ s. not_met wants bars same_wants same_bars (unmet (one seen.table (context_of seen) seen.problem.graph seen.problem.goal v Entailed h s.goal)) s;
        },
        h,
      )
