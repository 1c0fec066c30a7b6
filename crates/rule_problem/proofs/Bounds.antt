-- How many proper splits a tree can have.
use Rattle.std.proofs.Common.{◌≡◌, ℕ, zero, suc, ◌+◌, ◌^◌, ◌<◌, ◌≤◌, List, [], ◌∷◌, ◌++◌, length, Bool, true, false, not, cond, ◌||◌, inl, inr, ap, ◌∙◌, sym, subst, refl, arith, Some, slice_get}
use Rattle.std.specs.List.{list_any, Contains}
use Rattle.std.proofs.lemmas.Bool.{or_cases, or_right, cases_Bool, cases_lt, false≢true}
use Rattle.std.proofs.lemmas.List.Folds.{list_any-append}
use Rattle.std.proofs.lemmas.Nat.{pow_pos}
use Rattle.std.proofs.Math.Nat.{two-pow-succ}
use Rattle.key_table.specs.declared.atom.Atom.{Atom}
use Rattle.key_table.specs.Contexts.{Assumption, Context, assume, Forces, AssumedLaw}
use Rattle.key_table.specs.Tables.{Table}
use Rattle.constraint_graph.specs.Laws.{UndecidedLaw}
use Rattle.rule_problem.specs.declared.problem.Literal.{Literal}
use Rattle.rule_problem.specs.declared.problem.Problem.{Problem}
use Rattle.rule_problem.specs.Distinct.{is_same}
use Rattle.rule_problem.specs.Laws.{SplitsLaw, TraceLaw}
use Rattle.rule_problem.specs.Open.{IsOpen, StandsInOpen, Matters, IsLive}
use Rattle.rule_problem.specs.Open.Matters.{for_want, for_bar, for_goal}
use Rattle.rule_problem.specs.Problems.{problem_fits}
use Rattle.rule_problem.specs.Quantifiers.{AnyByRecursion}
use Rattle.rule_problem.specs.Traces.{AreProper, IsCut}
use Rattle.rule_problem.specs.Trees.{Tree, missing, closed, split, split_count}
use Rattle.rule_problem.proofs.Fit.{there, first, gotten, fits_parts, in_graph}
use Rattle.rule_problem.proofs.Lively.{some}
use Rattle.rule_problem.proofs.Names.{SameLaw, same_self}

-- how many items pass a test
abbrev count : {X : Type 0} → (X → Bool) → List X → ℕ
count p [] = 0
count p (x ∷ xs) = cond (p x) 1 0 + count p xs

count_le_length : {X : Type 0} (p : X → Bool) (xs : List X) → count p xs ≤ length xs
count_le_length p [] = omega arith
count_le_length p (x ∷ xs) =
    let rest = count_le_length p xs in
    elim (p x) as (λ (b : Bool). cond b 1 0 + count p xs ≤ length (x ∷ xs)) [ true ↦ omega (arith, rest) | false ↦ omega (arith, rest) ]

-- Where a second test passes no others, it counts no more.
one_le : (a b : Bool) → (b ≡ true → a ≡ true) → cond b 1 0 ≤ cond a 1 0
one_le true true h = omega arith
one_le true false h = omega arith
one_le false true h = absurd (false≢true (h refl))
one_le false false h = omega arith

count_le : {X : Type 0} (p q : X → Bool) (xs : List X) → ((x : X) → q x ≡ true → p x ≡ true) → count q xs ≤ count p xs
count_le p q [] fewer = omega arith
count_le p q (x ∷ xs) fewer =
    let rest = count_le p q xs fewer in
    let one = one_le (p x) (q x) (fewer x) in
    omega (arith, rest, one)

-- And where it fails one item that passes the first, it counts fewer.
count_lt : {X : Type 0} (p q : X → Bool) (xs : List X) (a : X) → ((x : X) → q x ≡ true → p x ≡ true) → Contains xs a → p a ≡ true → q a ≡ false → count q xs < count p xs
count_lt p q [] a fewer (k, within, is) t f = absurd (omega arith)
count_lt p q (x ∷ xs) a fewer (zero, within, is) t f =
    let rest = count_le p q xs fewer in
    let passes : p x ≡ true = subst (λ y. p y ≡ true) (sym is) t in
    let not_so : q x ≡ false = subst (λ y. q y ≡ false) (sym is) f in
    rw (passes, not_so) (omega (arith, rest))
count_lt p q (x ∷ xs) a fewer (suc k, within, is) t f =
    let rest = count_lt p q xs a fewer (k, omega arith, is) t f in
    let one = one_le (p x) (q x) (fewer x) in
    omega (arith, rest, one)

-- whether a context has an assumption on the atom
abbrev has : Context → Atom → Bool
has c a = list_any (λ (s : Assumption). is_same a s.atom) c

-- how many of the atoms a context has no assumption on
abbrev free : List Atom → Context → ℕ
free atoms c = count (λ a. not (has c a)) atoms

has_more : (c : Context) (x a : Atom) (truth : Bool) → has (c ++ assume x truth ∷ []) a ≡ (has c a || (is_same a x || false))
has_more c x a truth = list_any-append (λ (s : Assumption). is_same a s.atom) c (assume x truth ∷ [])

or_false : (a b : Bool) → not (a || b) ≡ true → not a ≡ true
or_false true b h = h
or_false false b h = refl

has_itself : (c : Context) (x : Atom) (truth : Bool) → has (c ++ assume x truth ∷ []) x ≡ true
has_itself c x truth = has_more c x x truth ∙ or_right (has c x) (is_same x x || false) (ap (λ (b : Bool). b || false) (same_self x))

-- one assumption more, on an atom without one
free_less : (atoms : List Atom) (c : Context) (x : Atom) (truth : Bool) → Contains atoms x → has c x ≡ false → free atoms (c ++ assume x truth ∷ []) < free atoms c
free_less atoms c x truth in_it new =
    count_lt (λ a. not (has c a)) (λ a. not (has (c ++ assume x truth ∷ []) a)) atoms x (λ a h. or_false (has c a) (is_same a x || false) (sym (ap not (has_more c x a truth)) ∙ h)) in_it (ap not new) (ap not (has_itself c x truth))

assumed_at : SameLaw → (c : Context) (a : Atom) → has c a ≡ true → (truth : Bool) × Contains c (assume a truth)
assumed_at law [] a h = absurd (false≢true h)
assumed_at law (s ∷ c) a h =
    elim (or_cases (is_same a s.atom) (has c a) h) [
      | inl e ↦ (s.truth, subst (λ (x : Atom). Contains (s ∷ c) (assume x s.truth)) (sym (law a s.atom e)) (first s c))
      | inr later ↦ let found = assumed_at law c a later in (found.0, there s (assume a found.0) c found.1)
    ]

any_in : {X R : Type 0} (P : X → Type 0) → ((x : X) → P x → R) → (xs : List X) → AnyByRecursion P xs → R
any_in P f [] h = absurd h
any_in P f (x ∷ xs) (inl h) = f x h
any_in P f (x ∷ xs) (inr h) = any_in P f xs h

module _ (law : SameLaw) (assumed : AssumedLaw) (undecided : UndecidedLaw) (table : Table) (problem : Problem) (fits : problem_fits table problem ≡ true) where
  in_path : (c : Context) (a : Atom) (path : List Literal) → StandsInOpen table c problem.atoms a path → Contains problem.atoms a
  in_path c a path h = any_in (λ (l : Literal). slice_get problem.atoms l.atom ≡ Some a) (λ l is. gotten problem.atoms l.atom a is) path h.0

  in_paths : (c : Context) (a : Atom) (paths : List (List Literal)) → AnyByRecursion (StandsInOpen table c problem.atoms a) paths → Contains problem.atoms a
  in_paths c a paths h = any_in (StandsInOpen table c problem.atoms a) (in_path c a) paths h

  in_problem : (c : Context) (a : Atom) → Matters table problem c a → Contains problem.atoms a
  in_problem c a (for_want h) = any_in _ (λ paths w. in_paths c a paths w.1) problem.wants h
  in_problem c a (for_bar h) = in_paths c a problem.bars h
  in_problem c a (for_goal g in_it) = in_graph law problem (fits_parts table problem fits) a in_it

  not_forced : (c : Context) (a : Atom) (truth : Bool) → IsLive table problem c a → Forces table c a truth → ⊥
  not_forced c a true live h = live.undecided.0 h
  not_forced c a false live h = live.undecided.1 h

  is_new : (c : Context) (a : Atom) → IsLive table problem c a → has c a ≡ false
  is_new c a live =
      elim (cases_Bool (has c a)) [
        | inl t ↦ let at = assumed_at law c a t in absurd (not_forced c a at.0 live (assumed table c a at.0 at.1))
        | inr f ↦ f
      ]

  -- A split on a live atom leaves fewer.
  less : (c : Context) (a : Atom) (truth : Bool) → IsLive table problem c a → free problem.atoms (c ++ assume a truth ∷ []) < free problem.atoms c
  less c a truth live = free_less problem.atoms c a truth (in_problem c a live.matters) (is_new c a live)

  -- At an open context some atom is left.
  some_left : (c : Context) → IsOpen table problem c → 0 < free problem.atoms c
  some_left c is_open =
      elim (cases_lt 0 (free problem.atoms c)) [
        | inl left ↦ left
        | inr none ↦ absurd (some law undecided table problem c fits is_open (λ a live. let h = less c a true live in omega (arith, h, none)))
      ]

  -- Where at most n atoms are left there are fewer than 2 ^ n proper splits.
  few_splits : (n : ℕ) (c : Context) (tree : Tree) → free problem.atoms c ≤ n → AreProper table problem c tree → split_count tree + 1 ≤ 2 ^ n
  few_splits n c missing left proper = let h = pow_pos n in omega arith
  few_splits n c (closed reason) left proper = let h = pow_pos n in omega arith
  few_splits zero c (split a l r) left proper = let h = less c a true proper.1 in absurd (omega (arith, h, left))
  few_splits (suc n) c (split a l r) left proper =
      let yes' = less c a true proper.1 in
      let no' = less c a false proper.1 in
      let one = few_splits n (c ++ assume a true ∷ []) l (omega (arith, yes', left)) proper.2 in
      let two = few_splits n (c ++ assume a false ∷ []) r (omega (arith, no', left)) proper.3 in
      let double = two-pow-succ n in
      omega (arith, one, two, double)

  -- And one fewer where a part is missing at an open context.
  fewer_splits : (n : ℕ) (c : Context) (tree : Tree) → free problem.atoms c ≤ n → AreProper table problem c tree → IsCut table problem c tree → split_count tree + 2 ≤ 2 ^ n
  fewer_splits zero c missing left proper cut = let h = some_left c cut in absurd (omega (arith, h, left))
  fewer_splits (suc n) c missing left proper cut = let h = pow_pos n in let double = two-pow-succ n in omega arith
  fewer_splits n c (closed reason) left proper cut = absurd cut
  fewer_splits zero c (split a l r) left proper cut = let h = less c a true proper.1 in absurd (omega (arith, h, left))
  fewer_splits (suc n) c (split a l r) left proper (inl cut) =
      let yes' = less c a true proper.1 in
      let one = fewer_splits n (c ++ assume a true ∷ []) l (omega (arith, yes', left)) proper.2 cut.0 in
      let none = ap split_count cut.1 in
      let h = pow_pos n in
      let double = two-pow-succ n in
      omega (arith, one, none, h, double)
  fewer_splits (suc n) c (split a l r) left proper (inr cut) =
      let yes' = less c a true proper.1 in
      let no' = less c a false proper.1 in
      let one = few_splits n (c ++ assume a true ∷ []) l (omega (arith, yes', left)) proper.2 in
      let two = fewer_splits n (c ++ assume a false ∷ []) r (omega (arith, no', left)) proper.3 cut.1 in
      let double = two-pow-succ n in
      omega (arith, one, two, double)

pub most_splits : SameLaw → AssumedLaw → UndecidedLaw → SplitsLaw
most_splits law assumed undecided table problem tree fits proper =
    let h = few_splits law assumed undecided table problem fits (length problem.atoms) [] tree (count_le_length (λ a. not (has [] a)) problem.atoms) proper in
    omega (arith, h)

pub no_trace : SameLaw → AssumedLaw → UndecidedLaw → TraceLaw
no_trace law assumed undecided table problem budget trace fits is =
    let h = fewer_splits law assumed undecided table problem fits (length problem.atoms) [] is.tree (count_le_length (λ a. not (has [] a)) problem.atoms) is.proper is.cut in
    let e = is.exact in
    omega (arith, h, e)
