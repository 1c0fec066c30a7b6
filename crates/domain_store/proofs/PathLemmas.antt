-- Verdicts of literals and paths.
use Rattle.std.proofs.Common.{◌≡◌, ℕ, ◌+◌, ◌<◌, List, [], ◌∷◌, ◌++◌, length, get_or, take, drop, Bool, true, false, not, Option, Some, None, slice_get, ◌⊎◌, inl, inr, refl, ap, sym, ◌∙◌, subst}
use Rattle.std.specs.List.{AllByRecursion}
use Rattle.std.specs.Option.{IsSomeAnd}
use Rattle.key_table.specs.declared.atom.Atom.{Atom}
use Rattle.key_table.specs.declared.atom.Verdict3.{Verdict3}
use Rattle.key_table.specs.declared.atom.Verdict3.TheVariants.{Entailed, Refuted, Undecided}
use Rattle.key_table.specs.contracts.atom.Verdict3PartialEq.TheImpl as by_verdict
use Rattle.key_table.specs.Contexts.{Context, Forces, HasVerdict, LeftLaw, left, wanted}
use Rattle.key_table.specs.OptionSets.{HasOption}
use Rattle.key_table.specs.Tables.{Table}
use Rattle.constraint_graph.specs.Logics.{lesser}
use Rattle.rule_problem.specs.declared.problem.Literal.{Literal}
use Rattle.rule_problem.specs.Literals.{IsEntailed, IsRefuted}
use Rattle.rule_problem.specs.Quantifiers.{AnyByRecursion}
use Rattle.std.proofs.lemmas.Bool.{true≢false, false≢true}
use Rattle.std.proofs.lemmas.List.{take_more, take-append-drop}
use Rattle.domain_store.specs.Stores.{Seen, context_of, HasNoVoid}
use Rattle.domain_store.specs.Verdicts.{AtomHasVerdict, LiteralHasVerdict, PathHasVerdict}

-- ---- lists with one more

all-more : {X : Type 0} (P : X → Type 0) (xs : List X) (x : X) → AllByRecursion P xs → P x → AllByRecursion P (xs ++ x ∷ [])
all-more P [] x all here = (here, tt)
all-more P (y ∷ xs) x all here = (all.0, all-more P xs x all.1 here)

all-less : {X : Type 0} (P : X → Type 0) (xs : List X) (x : X) → AllByRecursion P (xs ++ x ∷ []) → AllByRecursion P xs × P x
all-less P [] x all = (tt, all.0)
all-less P (y ∷ xs) x all = let rest = all-less P xs x all.1 in ((all.0, rest.0), rest.1)

any-more : {X : Type 0} (P : X → Type 0) (xs ys : List X) → AnyByRecursion P xs → AnyByRecursion P (xs ++ ys)
any-more P [] ys any = absurd any
any-more P (y ∷ xs) ys (inl here) = inl here
any-more P (y ∷ xs) ys (inr rest) = inr (any-more P xs ys rest)

any-last : {X : Type 0} (P : X → Type 0) (xs : List X) (x : X) → P x → AnyByRecursion P (xs ++ x ∷ [])
any-last P [] x here = inl here
any-last P (y ∷ xs) x here = inr (any-last P xs x here)

any-less : {X : Type 0} (P : X → Type 0) (xs : List X) (x : X) → AnyByRecursion P (xs ++ x ∷ []) → AnyByRecursion P xs ⊎ P x
any-less P [] x (inl here) = inr here
any-less P [] x (inr rest) = absurd rest
any-less P (y ∷ xs) x (inl here) = inl (inl here)
any-less P (y ∷ xs) x (inr rest) = elim (any-less P xs x rest) [ inl r ↦ inl (inr r) | inr here ↦ inr here ]

-- ---- literals

-- where a slot is not void, not both truths are forced on its atom
pub not_both : LeftLaw → (table : Table) (context : Context) (atom : Atom) → HasOption (left table context atom.slot) → Forces table context atom true → Forces table context atom false → ⊥
not_both law table context atom some holds fails =
    let o = some.0 in
    let is = (law table context atom.slot o).0 some.1 in
    true≢false (sym (holds o is) ∙ fails o is)

module _ (table : Table) (context : Context) (atom : Atom) where
  -- the verdict of what is wanted of an atom
  abbrev WantedIs : Bool → Verdict3 → Type 0
  WantedIs want Refuted = Forces table context atom (not want)
  WantedIs want Entailed = Forces table context atom want × (¬ (Forces table context atom (not want)))
  WantedIs want Undecided = (¬ (Forces table context atom want)) × (¬ (Forces table context atom (not want)))

module _ (law : LeftLaw) (table : Table) (context : Context) (atom : Atom) (some : HasOption (left table context atom.slot)) where
  pub wanted_is : (want : Bool) (v : Verdict3) → HasVerdict table context atom v → WantedIs table context atom want (wanted want v)
  wanted_is true Refuted h = h
  wanted_is true Entailed h = h
  wanted_is true Undecided h = h
  wanted_is false Refuted h = (h, λ holds. not_both law table context atom some holds h)
  wanted_is false Entailed h = h.0
  wanted_is false Undecided h = (h.1, h.0)

module _ (seen : Seen) (literal : Literal) where
  abbrev At : Option Atom → Verdict3 → Type 0
  At o Refuted = IsSomeAnd o (λ atom. Forces seen.table (context_of seen) atom (not literal.want))
  At o Entailed = IsSomeAnd o (λ atom. Forces seen.table (context_of seen) atom literal.want) × (¬ (IsSomeAnd o (λ atom. Forces seen.table (context_of seen) atom (not literal.want))))
  At o Undecided = (¬ (IsSomeAnd o (λ atom. Forces seen.table (context_of seen) atom literal.want))) × (¬ (IsSomeAnd o (λ atom. Forces seen.table (context_of seen) atom (not literal.want))))

  at_some : (atom : Atom) (v : Verdict3) → WantedIs seen.table (context_of seen) atom literal.want v → At (Some atom) v
  at_some atom Refuted h = h
  at_some atom Entailed h = h
  at_some atom Undecided h = h

  at_is : (v : Verdict3) → At (slice_get seen.problem.atoms literal.atom) v → LiteralHasVerdict seen literal v
  at_is Refuted h = h
  at_is Entailed h = h
  at_is Undecided h = h

  from_atom : LeftLaw → HasNoVoid seen → (o : Option Atom) (v : Verdict3) → IsSomeAnd o (λ atom. HasVerdict seen.table (context_of seen) atom v) → At o (wanted literal.want v)
  from_atom law unvoid None v h = absurd h
  from_atom law unvoid (Some atom) v h = at_some atom (wanted literal.want v) (wanted_is law seen.table (context_of seen) atom (unvoid atom.slot) literal.want v h)

  pub literal_is : LeftLaw → HasNoVoid seen → (v : Verdict3) → AtomHasVerdict seen literal.atom v → LiteralHasVerdict seen literal (wanted literal.want v)
  literal_is law unvoid v h = at_is (wanted literal.want v) (from_atom law unvoid (slice_get seen.problem.atoms literal.atom) v h)

-- ---- paths

module _ (seen : Seen) (front : List Literal) (l : Literal) where
  abbrev E : Literal → Type 0
  E m = IsEntailed seen.table (context_of seen) seen.problem.atoms m

  abbrev R : Literal → Type 0
  R m = IsRefuted seen.table (context_of seen) seen.problem.atoms m

  none_more : (¬ (AnyByRecursion R front)) → (¬ (R l)) → ¬ (AnyByRecursion R (front ++ l ∷ []))
  none_more none not_l any = elim (any-less R front l any) [ inl r ↦ none r | inr here ↦ not_l here ]

  -- the verdict of a path with one more literal
  pub path_more : (v w : Verdict3) → PathHasVerdict seen front v → LiteralHasVerdict seen l w → PathHasVerdict seen (front ++ l ∷ []) (lesser v w)
  path_more Refuted w h i = any-more R front (l ∷ []) h
  path_more Entailed Refuted h i = any-last R front l i
  path_more Entailed Entailed h i = (all-more E front l h.0 i.0, none_more h.1 i.1)
  path_more Entailed Undecided h i = (λ all. i.0 (all-less E front l all).1, none_more h.1 i.1)
  path_more Undecided Refuted h i = any-last R front l i
  path_more Undecided Entailed h i = (λ all. h.0 (all-less E front l all).0, none_more h.1 i.1)
  path_more Undecided Undecided h i = (λ all. h.0 (all-less E front l all).0, none_more h.1 i.1)

-- a path of which a front is refuted is refuted
pub path_refuted : (seen : Seen) (front rest : List Literal) → PathHasVerdict seen front Refuted → PathHasVerdict seen (front ++ rest) Refuted
path_refuted seen front rest h = any-more (IsRefuted seen.table (context_of seen) seen.problem.atoms) front rest h

-- one step along a path
pub path_next : (seen : Seen) (path : List Literal) (i : ℕ) (l : Literal) (v w : Verdict3) → i < length path → l ≡ get_or path i l → PathHasVerdict seen (take i path) v → LiteralHasVerdict seen l w → PathHasVerdict seen (take (i + 1) path) (lesser v w)
path_next seen path i l v w within is h j =
    let P : List Literal → Type 0 = λ ls. PathHasVerdict seen ls (lesser v w) in
    subst P (ap (λ (m : Literal). take i path ++ m ∷ []) is ∙ sym (take_more path i l within)) (path_more seen (take i path) l v w h j)

pub path_stops : (seen : Seen) (path : List Literal) (i : ℕ) → PathHasVerdict seen (take i path) Refuted → PathHasVerdict seen path Refuted
path_stops seen path i h =
    let P : List Literal → Type 0 = λ ls. PathHasVerdict seen ls Refuted in
    subst P (take-append-drop i path) (path_refuted seen (take i path) (drop i path) h)

pub refuted_is : (v : Verdict3) → by_verdict.eq-value.it v Refuted ≡ true → v ≡ Refuted
refuted_is Refuted h = refl
refuted_is Entailed h = absurd (false≢true h)
refuted_is Undecided h = absurd (false≢true h)
