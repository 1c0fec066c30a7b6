-- Atoms that come one by one, of which each stands once.
use Rattle.std.proofs.Common.{◌≡◌, ℕ, zero, suc, List, [], ◌∷◌, ◌++◌, Bool, true, false, not, ◌&&◌, ◌||◌, cond, Some, slice_get, fold, refl, ap, sym, subst, ◌∙◌}
use Rattle.std.specs.List.{list_any, list_all}
use Rattle.std.proofs.lemmas.Bool.{and_parts, and_from, or_parts, or_left, or_right, false≢true}
use Rattle.std.proofs.lemmas.List.{append_assoc, append-nil}
use Rattle.std.proofs.lemmas.List.Folds.{list_any-append, list_all-append}
use Rattle.key_table.specs.contracts.atom.AtomEq.TheImpl.Laws as equal_atoms
use Rattle.key_table.specs.declared.atom.Atom.{Atom}
use Rattle.rule_problem.specs.Distinct.{is_same, is_among, are_distinct, with_atom}

-- Atoms that are found the same are equal.
abbrev pub SameLaw : Type 0
SameLaw = (a b : Atom) → is_same a b ≡ true → a ≡ b

pub same_self : (a : Atom) → is_same a a ≡ true
same_self a = equal_atoms.laws-law.refl a

pub unsame : SameLaw → (a b : Atom) → is_same a b ≡ false → is_same b a ≡ false
unsame law a b h = elim (is_same b a) as (λ (t : Bool). is_same b a ≡ t → t ≡ false) [
  | true ↦ (λ is. absurd (false≢true (sym h ∙ ap (is_same a) (law b a is) ∙ same_self a)))
  | false ↦ (λ is. refl)
] refl

not_true : (b : Bool) → not b ≡ true → b ≡ false
not_true true h = absurd (false≢true h)
not_true false h = refl

-- an atom that is not there is not there either where another one comes
pub absent_push : (atoms : List Atom) (a x : Atom) → is_among atoms a ≡ false → is_same a x ≡ false → is_among (atoms ++ x ∷ []) a ≡ false
absent_push atoms a x h k =
    list_any-append (λ other. is_same a other) atoms (x ∷ []) ∙ ap (λ t. t || (is_same a x || false)) h ∙ ap (λ t. t || false) k

distinct_push : SameLaw → (atoms : List Atom) (x : Atom) → are_distinct atoms ≡ true → is_among atoms x ≡ false → are_distinct (atoms ++ x ∷ []) ≡ true
distinct_push law [] x d h = refl
distinct_push law (a ∷ atoms) x d h =
    let parts = and_parts (not (is_among atoms a)) (are_distinct atoms) d in
    let apart = or_parts (is_same x a) (is_among atoms x) h in
    and_from (not (is_among (atoms ++ x ∷ []) a)) (are_distinct (atoms ++ x ∷ []))
    (ap not (absent_push atoms a x (not_true (is_among atoms a) parts.0) (unsame law x a apart.0)))
    (distinct_push law atoms x parts.1 apart.1)

distinct_one : SameLaw → (atoms : List Atom) (x : Atom) → are_distinct atoms ≡ true → are_distinct (with_atom atoms x) ≡ true
distinct_one law atoms x d = elim (is_among atoms x) as (λ (t : Bool). is_among atoms x ≡ t → are_distinct (cond t atoms (atoms ++ x ∷ [])) ≡ true) [
  | true ↦ (λ is. d)
  | false ↦ (λ is. distinct_push law atoms x d is)
] refl

-- no atom stands twice
pub distinct_grown : SameLaw → (old came : List Atom) → are_distinct old ≡ true → are_distinct (fold with_atom old came) ≡ true
distinct_grown law old [] d = d
distinct_grown law old (x ∷ came) d = distinct_grown law (with_atom old x) came (distinct_one law old x d)

kept_one : (old : List Atom) (x : Atom) → (more : List Atom) × (with_atom old x ≡ old ++ more)
kept_one old x = elim (is_among old x) as (λ (t : Bool). (more : List Atom) × (cond t old (old ++ x ∷ []) ≡ old ++ more)) [
  | true ↦ ([], sym (append-nil old))
  | false ↦ (x ∷ [], refl)
]

-- those that were there stand first, as they were
pub kept : (old came : List Atom) → (more : List Atom) × (fold with_atom old came ≡ old ++ more)
kept old [] = ([], sym (append-nil old))
kept old (x ∷ came) =
    let one = kept_one old x in
    let rest = kept (with_atom old x) came in
    (one.0 ++ rest.0, rest.1 ∙ ap (λ z. z ++ rest.0) one.1 ∙ append_assoc old one.0 rest.0)

among_more : (atoms : List Atom) (a b : Atom) → is_among atoms a ≡ true → is_among (with_atom atoms b) a ≡ true
among_more atoms a b among =
    elim (is_among atoms b) as (λ (t : Bool). is_among (cond t atoms (atoms ++ b ∷ [])) a ≡ true) [
      | true ↦ among
      | false ↦ list_any-append (λ other. is_same a other) atoms (b ∷ []) ∙ or_left (is_among atoms a) (is_among (b ∷ []) a) among
    ]

among_itself : (atoms : List Atom) (a : Atom) → is_among (with_atom atoms a) a ≡ true
among_itself atoms a =
    elim (is_among atoms a) as (λ (t : Bool). is_among atoms a ≡ t → is_among (cond t atoms (atoms ++ a ∷ [])) a ≡ true) [
      | true ↦ (λ is. is)
      | false ↦ (λ is. list_any-append (λ other. is_same a other) atoms (a ∷ []) ∙ or_right (is_among atoms a) (is_among (a ∷ []) a) (ap (λ (t : Bool). t || false) (same_self a)))
    ] refl

among_grown : (came atoms : List Atom) (a : Atom) → is_among atoms a ≡ true → is_among (fold with_atom atoms came) a ≡ true
among_grown [] atoms a among = among
among_grown (x ∷ came) atoms a among = among_grown came (with_atom atoms x) a (among_more atoms a x among)

-- all that came are there
pub came_grown : (came atoms : List Atom) → list_all (is_among (fold with_atom atoms came)) came ≡ true
came_grown [] atoms = refl
came_grown (x ∷ came) atoms =
    and_from (is_among (fold with_atom (with_atom atoms x) came) x) (list_all (is_among (fold with_atom (with_atom atoms x) came)) came)
    (among_grown came (with_atom atoms x) x (among_itself atoms x)) (came_grown came (with_atom atoms x))

pass_one : (p : Atom → Bool) (old : List Atom) (x : Atom) → list_all p old ≡ true → p x ≡ true → list_all p (with_atom old x) ≡ true
pass_one p old x h k = elim (is_among old x) as (λ (t : Bool). list_all p (cond t old (old ++ x ∷ [])) ≡ true) [
  | true ↦ h
  | false ↦ list_all-append p old (x ∷ []) ∙ and_from (list_all p old) (p x && true) h (ap (λ b. b && true) k)
]

-- what holds of each that came holds of each that is there
pub pass_grown : (p : Atom → Bool) (old came : List Atom) → list_all p old ≡ true → list_all p came ≡ true → list_all p (fold with_atom old came) ≡ true
pass_grown p old [] h k = h
pass_grown p old (x ∷ came) h k =
    let parts = and_parts (p x) (list_all p came) k in
    pass_grown p (with_atom old x) came (pass_one p old x h parts.0) parts.1

-- an atom that stands at a place is there
pub at_among : (atoms : List Atom) (i : ℕ) (a : Atom) → slice_get atoms i ≡ Some a → is_among atoms a ≡ true
at_among [] i a h = cc
at_among (b ∷ atoms) zero a h = let same : b ≡ a = cc in or_left (is_same a b) (is_among atoms a) (ap (is_same a) same ∙ same_self a)
at_among (b ∷ atoms) (suc i) a h = or_right (is_same a b) (is_among atoms a) (at_among atoms i a h)

none_at : (p : Atom → Bool) (atoms : List Atom) (i : ℕ) (a : Atom) → list_any p atoms ≡ false → slice_get atoms i ≡ Some a → p a ≡ false
none_at p [] i a h is = cc
none_at p (b ∷ atoms) zero a h is = let same : b ≡ a = cc in ap p (sym same) ∙ (or_parts (p b) (list_any p atoms) h).0
none_at p (b ∷ atoms) (suc i) a h is = none_at p atoms i a (or_parts (p b) (list_any p atoms) h).1 is

-- atoms at two places differ
pub apart : SameLaw → (atoms : List Atom) (i j : ℕ) (a b : Atom) → are_distinct atoms ≡ true → slice_get atoms i ≡ Some a → slice_get atoms j ≡ Some b → (i ≡ j → ⊥) → is_same a b ≡ false
apart law [] i j a b d h k other = cc
apart law (x ∷ atoms) zero zero a b d h k other = absurd (other refl)
apart law (x ∷ atoms) zero (suc j) a b d h k other =
    let same : x ≡ a = cc in
    let parts = and_parts (not (is_among atoms x)) (are_distinct atoms) d in
    subst (λ z. is_same z b ≡ false) same (none_at (is_same x) atoms j b (not_true (is_among atoms x) parts.0) k)
apart law (x ∷ atoms) (suc i) zero a b d h k other =
    let same : x ≡ b = cc in
    let parts = and_parts (not (is_among atoms x)) (are_distinct atoms) d in
    unsame law b a (subst (λ z. is_same z a ≡ false) same (none_at (is_same x) atoms i a (not_true (is_among atoms x) parts.0) h))
apart law (x ∷ atoms) (suc i) (suc j) a b d h k other =
    apart law atoms i j a b (and_parts (not (is_among atoms x)) (are_distinct atoms) d).1 h k (λ e. other (ap {A = ℕ} (λ n. suc n) e))
