-- What verdicts of atoms tell of literals, paths and wants.
use Rattle.std.proofs.Common.{◌≡◌, ℕ, zero, suc, ◌<◌, ◌≤◌, List, [], ◌∷◌, ◌++◌, length, Bool, true, false, not, Option, Some, None, slice_get, inl, inr, ◌⊎◌, refl, ap, sym, ◌∙◌, subst, arith}
use Rattle.std.specs.Option.{option_map_or, IsSomeAnd}
use Rattle.std.proofs.lemmas.Bool.{true≢false, false≢true}
use Rattle.std.proofs.lemmas.Option.{slice_get_past}
use Rattle.key_table.specs.declared.atom.Atom.{Atom}
use Rattle.key_table.specs.declared.atom.Verdict3.{Verdict3}
use Rattle.key_table.specs.declared.atom.Verdict3.TheVariants.{Entailed, Refuted, Undecided}
use Rattle.key_table.specs.Contexts.{Forces, HasVerdict, LeftLaw}
use Rattle.rule_problem.specs.declared.problem.Literal.{Literal}
use Rattle.rule_problem.specs.Literals.{IsEntailed, IsRefuted, AreEntailed, HasRefuted, HasEntailed, AreRefuted}
use Rattle.domain_store.specs.Stores.{Seen, context_of, HasNoVoid}
use Rattle.domain_store.specs.Verdicts.{AtomHasVerdict}
use Rattle.rule_search.specs.Told.{IsForced, forces, is_forced, AreVerdicts, is_entailed, is_refuted, has_entailed, are_refuted}
use Rattle.rule_search.proofs.Quantifiers.{all_yes, all_back, any_yes, any_back}

differ : (b : Bool) → b ≡ not b → ⊥
differ true e = true≢false e
differ false e = false≢true e

-- Not both truths are forced on an atom.
pub not_both : LeftLaw → (seen : Seen) → HasNoVoid seen → (atom : Atom) (truth : Bool) → Forces seen.table (context_of seen) atom truth → Forces seen.table (context_of seen) atom (not truth) → ⊥
not_both law seen whole atom truth one other =
    let some = whole atom.slot in
    let is = (law seen.table (context_of seen) atom.slot some.0).0 some.1 in
    differ truth (sym (one some.0 is) ∙ other some.0 is)

-- A verdict tells which truths are forced.
told_one : LeftLaw → (seen : Seen) → HasNoVoid seen → (atom : Atom) (v : Verdict3) → HasVerdict seen.table (context_of seen) atom v → (truth : Bool)
    → (forces truth v ≡ true → Forces seen.table (context_of seen) atom truth) × (Forces seen.table (context_of seen) atom truth → forces truth v ≡ true)
told_one law seen whole atom Entailed h true = ((λ _. h.0), (λ _. refl))
told_one law seen whole atom Entailed h false = ((λ e. absurd (false≢true e)), (λ f. absurd (h.1 f)))
told_one law seen whole atom Refuted h true = ((λ e. absurd (false≢true e)), (λ f. absurd (not_both law seen whole atom true f h)))
told_one law seen whole atom Refuted h false = ((λ _. h), (λ _. refl))
told_one law seen whole atom Undecided h true = ((λ e. absurd (false≢true e)), (λ f. absurd (h.0 f)))
told_one law seen whole atom Undecided h false = ((λ e. absurd (false≢true e)), (λ f. absurd (h.1 f)))

-- The list tells of its own atoms which truths are forced on them.
abbrev pub ToldTo : Seen → List Verdict3 → Type 0
ToldTo seen vs = (n : ℕ) (truth : Bool) → n < length vs → (is_forced vs n truth ≡ true → IsForced seen n truth) × (IsForced seen n truth → is_forced vs n truth ≡ true)

last_or_before : (vs : List Verdict3) (v : Verdict3) (n : ℕ) → n < length (vs ++ v ∷ []) → ((slice_get (vs ++ v ∷ []) n ≡ slice_get vs n) × (n < length vs)) ⊎ ((slice_get (vs ++ v ∷ []) n ≡ Some v) × (n ≡ length vs))
last_or_before [] v zero h = inr (refl, refl)
last_or_before [] v (suc n) h = absurd (omega arith)
last_or_before (w ∷ vs) v zero h = inl (refl, omega arith)
last_or_before (w ∷ vs) v (suc n) h =
    elim (last_or_before vs v n (omega arith)) [
      | inl e ↦ inl (e.0, omega (arith, e.1))
      | inr e ↦ inr (e.0, omega (arith, e.1))
    ]

told_at : LeftLaw → (seen : Seen) → HasNoVoid seen → (n : ℕ) (v : Verdict3) (o : Option Atom) (w : Option Verdict3) → IsSomeAnd o (λ atom. HasVerdict seen.table (context_of seen) atom v) → w ≡ Some v → (truth : Bool)
    → (option_map_or (forces truth) w false ≡ true → IsSomeAnd o (λ atom. Forces seen.table (context_of seen) atom truth)) × (IsSomeAnd o (λ atom. Forces seen.table (context_of seen) atom truth) → option_map_or (forces truth) w false ≡ true)
told_at law seen whole n v None w h is truth = absurd h
told_at law seen whole n v (Some atom) w h is truth =
    let one = told_one law seen whole atom v h truth in
    let same : option_map_or (forces truth) w false ≡ forces truth v = ap (λ (o : Option Verdict3). option_map_or (forces truth) o false) is in
    ((λ e. one.0 (sym same ∙ e)), (λ f. same ∙ one.1 f))

pub told_none : (seen : Seen) (vs : List Verdict3) → vs ≡ [] → ToldTo seen vs
told_none seen vs is n truth within = absurd (let e : length vs ≡ 0 = ap (λ (l : List Verdict3). length l) is in omega (arith, e, within))

pub told_more : LeftLaw → (seen : Seen) → HasNoVoid seen → (vs ws : List Verdict3) (v : Verdict3) (m : ℕ) → ToldTo seen vs → length vs ≡ m → AtomHasVerdict seen m v → ws ≡ vs ++ v ∷ [] → ToldTo seen ws
told_more law seen whole vs ws v m told count at is n truth within =
    let within' : n < length (vs ++ v ∷ []) = subst (λ (l : List Verdict3). n < length l) is within in
    let Both : Option Verdict3 → Type 0 = λ (w : Option Verdict3). (option_map_or (forces truth) w false ≡ true → IsForced seen n truth) × (IsForced seen n truth → option_map_or (forces truth) w false ≡ true) in
    let same : slice_get ws n ≡ slice_get (vs ++ v ∷ []) n = ap (λ (l : List Verdict3). slice_get l n) is in
    elim (last_or_before vs v n within') [
      | inl e ↦ subst Both (sym (same ∙ e.0)) (told n truth e.1)
      | inr e ↦
          let here : AtomHasVerdict seen n v = subst (λ (k : ℕ). AtomHasVerdict seen k v) (sym (e.1 ∙ count)) at in
          told_at law seen whole n v (slice_get seen.problem.atoms n) (slice_get ws n) here (same ∙ e.0) truth
    ]

within_or_past : (n m : ℕ) → (n < m) ⊎ (m ≤ n)
within_or_past n zero = inr (omega arith)
within_or_past zero (suc m) = inl (omega arith)
within_or_past (suc n) (suc m) = elim (within_or_past n m) [ inl e ↦ inl (omega (arith, e)) | inr e ↦ inr (omega (arith, e)) ]

-- The list tells of all atoms.
pub told_all : (seen : Seen) (vs : List Verdict3) → length vs ≡ length seen.problem.atoms → ToldTo seen vs → AreVerdicts seen vs
told_all seen vs count told n truth =
    elim (within_or_past n (length vs)) [
      | inl within ↦ told n truth within
      | inr past ↦
          let none : slice_get vs n ≡ None = slice_get_past vs n past in
          let no_atom : slice_get seen.problem.atoms n ≡ None = slice_get_past seen.problem.atoms n (omega (arith, count, past)) in
          ((λ e. absurd (false≢true (sym (ap (λ (o : Option Verdict3). option_map_or (forces truth) o false) none) ∙ e))), (λ f. absurd (subst (λ (o : Option Atom). IsSomeAnd o (λ atom. Forces seen.table (context_of seen) atom truth)) no_atom f)))
    ]

module _ (seen : Seen) (vs : List Verdict3) (told : AreVerdicts seen vs) where
  pub entailed_yes : (path : List Literal) → is_entailed vs path ≡ true → AreEntailed seen.table (context_of seen) seen.problem.atoms path
  entailed_yes = all_yes (IsEntailed seen.table (context_of seen) seen.problem.atoms) (λ (l : Literal). is_forced vs l.atom l.want) (λ l. (told l.atom l.want).0)

  pub entailed_back : (path : List Literal) → AreEntailed seen.table (context_of seen) seen.problem.atoms path → is_entailed vs path ≡ true
  entailed_back = all_back (IsEntailed seen.table (context_of seen) seen.problem.atoms) (λ (l : Literal). is_forced vs l.atom l.want) (λ l. (told l.atom l.want).1)

  pub refuted_yes : (path : List Literal) → is_refuted vs path ≡ true → HasRefuted seen.table (context_of seen) seen.problem.atoms path
  refuted_yes = any_yes (IsRefuted seen.table (context_of seen) seen.problem.atoms) (λ (l : Literal). is_forced vs l.atom (not l.want)) (λ l. (told l.atom (not l.want)).0)

  pub refuted_back : (path : List Literal) → HasRefuted seen.table (context_of seen) seen.problem.atoms path → is_refuted vs path ≡ true
  refuted_back = any_back (IsRefuted seen.table (context_of seen) seen.problem.atoms) (λ (l : Literal). is_forced vs l.atom (not l.want)) (λ l. (told l.atom (not l.want)).1)

  pub has_entailed_yes : (paths : List (List Literal)) → has_entailed vs paths ≡ true → HasEntailed seen.table (context_of seen) seen.problem.atoms paths
  has_entailed_yes = any_yes (AreEntailed seen.table (context_of seen) seen.problem.atoms) (is_entailed vs) entailed_yes

  pub has_entailed_back : (paths : List (List Literal)) → HasEntailed seen.table (context_of seen) seen.problem.atoms paths → has_entailed vs paths ≡ true
  has_entailed_back = any_back (AreEntailed seen.table (context_of seen) seen.problem.atoms) (is_entailed vs) entailed_back

  pub are_refuted_yes : (paths : List (List Literal)) → are_refuted vs paths ≡ true → AreRefuted seen.table (context_of seen) seen.problem.atoms paths
  are_refuted_yes = all_yes (HasRefuted seen.table (context_of seen) seen.problem.atoms) (is_refuted vs) refuted_yes

  pub are_refuted_back : (paths : List (List Literal)) → AreRefuted seen.table (context_of seen) seen.problem.atoms paths → are_refuted vs paths ≡ true
  are_refuted_back = all_back (HasRefuted seen.table (context_of seen) seen.problem.atoms) (is_refuted vs) refuted_back
