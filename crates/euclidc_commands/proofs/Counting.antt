-- How many different atoms there are among some that stand among others.
use Rattle.std.proofs.Common.{◌≡◌, ℕ, zero, suc, ◌+◌, ◌-◌, ◌^◌, ◌≤◌, List, [], ◌∷◌, ◌++◌, length, fold, Bool, true, false, not, ◌&&◌, ◌||◌, cond, refl, ap, sym, subst, ◌∙◌, arith}
use Rattle.std.specs.List.{list_all}
use Rattle.std.proofs.lemmas.Bool.{and_parts, and_from, or_parts, or_left, or_right, false≢true}
use Rattle.std.proofs.lemmas.List.Folds.{list_any-append, list_all-append}
use Rattle.std.proofs.Math.Nat.{two-pow-succ}
use Rattle.key_table.specs.contracts.atom.AtomEq.TheImpl.Laws as equal_atoms
use Rattle.key_table.specs.declared.atom.Atom.{Atom}
use Rattle.rule_problem.specs.Distinct.{is_same, is_among, are_distinct, with_atom, firsts}

-- Atoms that are found the same are equal.
abbrev pub SameLaw : Type 0
SameLaw = (a b : Atom) → is_same a b ≡ true → a ≡ b

same_self : (a : Atom) → is_same a a ≡ true
same_self a = equal_atoms.laws-law.refl a

unsame : SameLaw → (a b : Atom) → is_same a b ≡ false → is_same b a ≡ false
unsame law a b h = elim (is_same b a) as (λ (t : Bool). is_same b a ≡ t → t ≡ false) [
  | true ↦ (λ is. absurd (false≢true (sym h ∙ ap (is_same a) (law b a is) ∙ same_self a)))
  | false ↦ (λ is. refl)
] refl

not_true : (b : Bool) → not b ≡ true → b ≡ false
not_true true h = absurd (false≢true h)
not_true false h = refl

-- ---- atoms that come one by one

absent_push : (atoms : List Atom) (a x : Atom) → is_among atoms a ≡ false → is_same a x ≡ false → is_among (atoms ++ x ∷ []) a ≡ false
absent_push atoms a x h k = list_any-append (λ other. is_same a other) atoms (x ∷ []) ∙ ap (λ t. t || (is_same a x || false)) h ∙ ap (λ t. t || false) k

distinct_push : SameLaw → (atoms : List Atom) (x : Atom) → are_distinct atoms ≡ true → is_among atoms x ≡ false → are_distinct (atoms ++ x ∷ []) ≡ true
distinct_push law [] x d h = refl
distinct_push law (a ∷ atoms) x d h =
    let parts = and_parts (not (is_among atoms a)) (are_distinct atoms) d in
    let apart = or_parts (is_same x a) (is_among atoms x) h in
    and_from (not (is_among (atoms ++ x ∷ []) a)) (are_distinct (atoms ++ x ∷ []))
    (ap not (absent_push atoms a x (not_true (is_among atoms a) parts.0) (unsame law x a apart.0)))
    (distinct_push law atoms x parts.1 apart.1)

distinct_one : SameLaw → (atoms : List Atom) (x : Atom) → are_distinct atoms ≡ true → are_distinct (with_atom atoms x) ≡ true
distinct_one law atoms x d = elim (is_among atoms x) as (λ (t : Bool). is_among atoms x ≡ t → are_distinct (cond t atoms (atoms ++ x ∷ [])) ≡ true) [
  | true ↦ (λ is. d)
  | false ↦ (λ is. distinct_push law atoms x d is)
] refl

distinct_grown : SameLaw → (old came : List Atom) → are_distinct old ≡ true → are_distinct (fold with_atom old came) ≡ true
distinct_grown law old [] d = d
distinct_grown law old (x ∷ came) d = distinct_grown law (with_atom old x) came (distinct_one law old x d)

among_more : (atoms : List Atom) (a b : Atom) → is_among atoms a ≡ true → is_among (with_atom atoms b) a ≡ true
among_more atoms a b among =
    elim (is_among atoms b) as (λ (t : Bool). is_among (cond t atoms (atoms ++ b ∷ [])) a ≡ true) [
      | true ↦ among
      | false ↦ list_any-append (λ other. is_same a other) atoms (b ∷ []) ∙ or_left (is_among atoms a) (is_among (b ∷ []) a) among
    ]

among_itself : (atoms : List Atom) (a : Atom) → is_among (with_atom atoms a) a ≡ true
among_itself atoms a =
    elim (is_among atoms a) as (λ (t : Bool). is_among atoms a ≡ t → is_among (cond t atoms (atoms ++ a ∷ [])) a ≡ true) [
      | true ↦ (λ is. is)
      | false ↦ (λ is. list_any-append (λ other. is_same a other) atoms (a ∷ []) ∙ or_right (is_among atoms a) (is_among (a ∷ []) a) (ap (λ (t : Bool). t || false) (same_self a)))
    ] refl

among_grown : (came atoms : List Atom) (a : Atom) → is_among atoms a ≡ true → is_among (fold with_atom atoms came) a ≡ true
among_grown [] atoms a among = among
among_grown (x ∷ came) atoms a among = among_grown came (with_atom atoms x) a (among_more atoms a x among)

came_grown : (came atoms : List Atom) → list_all (is_among (fold with_atom atoms came)) came ≡ true
came_grown [] atoms = refl
came_grown (x ∷ came) atoms =
    and_from (is_among (fold with_atom (with_atom atoms x) came) x) (list_all (is_among (fold with_atom (with_atom atoms x) came)) came)
    (among_grown came (with_atom atoms x) x (among_itself atoms x)) (came_grown came (with_atom atoms x))

-- each atom stands once among the firsts
pub among_firsts : (atoms : List Atom) → list_all (is_among (firsts atoms)) atoms ≡ true
among_firsts atoms = came_grown atoms []

pass_one : (p : Atom → Bool) (old : List Atom) (x : Atom) → list_all p old ≡ true → p x ≡ true → list_all p (with_atom old x) ≡ true
pass_one p old x h k = elim (is_among old x) as (λ (t : Bool). list_all p (cond t old (old ++ x ∷ [])) ≡ true) [
  | true ↦ h
  | false ↦ list_all-append p old (x ∷ []) ∙ and_from (list_all p old) (p x && true) h (ap (λ b. b && true) k)
]

pass_grown : (p : Atom → Bool) (old came : List Atom) → list_all p old ≡ true → list_all p came ≡ true → list_all p (fold with_atom old came) ≡ true
pass_grown p old [] h k = h
pass_grown p old (x ∷ came) h k =
    let parts = and_parts (p x) (list_all p came) k in
    pass_grown p (with_atom old x) came (pass_one p old x h parts.0) parts.1

-- ---- a list of different atoms is no longer than one that has them all

-- without the first atom that is the same
without : Atom → List Atom → List Atom
without a [] = []
without a (b ∷ bs) = cond (is_same a b) bs (b ∷ without a bs)

without-length : (a : Atom) (bs : List Atom) → is_among bs a ≡ true → length bs ≡ 1 + length (without a bs)
unfolding without
without-length a [] among = absurd (false≢true among)
without-length a (b ∷ bs) among =
    elim (is_same a b) as (λ (t : Bool). (t || is_among bs a) ≡ true → length (b ∷ bs) ≡ 1 + length (cond t bs (b ∷ without a bs))) [
      | true ↦ (λ h. omega arith)
      | false ↦ (λ h. let rest = without-length a bs h in omega (arith, rest))
    ] among

without-among : SameLaw → (a x : Atom) (bs : List Atom) → is_among bs x ≡ true → is_same x a ≡ false → is_among (without a bs) x ≡ true
unfolding without
without-among law a x [] among other = absurd (false≢true among)
without-among law a x (b ∷ bs) among other =
    elim (is_same a b) as (λ (t : Bool). is_same a b ≡ t → is_among (cond t bs (b ∷ without a bs)) x ≡ true) [
      | true ↦ (λ is. let apart : is_same x b ≡ false = subst (λ y. is_same x y ≡ false) (law a b is) other in sym (ap (λ t. t || is_among bs x) apart) ∙ among)
      | false ↦ (λ is. elim (is_same x b) as (λ (t : Bool). (t || is_among bs x) ≡ true → (t || is_among (without a bs) x) ≡ true) [
        | true ↦ (λ h. refl)
        | false ↦ (λ h. without-among law a x bs h other)
      ] among)
    ] refl

without-all : SameLaw → (a : Atom) (xs bs : List Atom) → is_among xs a ≡ false → list_all (is_among bs) xs ≡ true → list_all (is_among (without a bs)) xs ≡ true
without-all law a [] bs absent all = refl
without-all law a (x ∷ xs) bs absent all =
    let parts = and_parts (is_among bs x) (list_all (is_among bs) xs) all in
    let apart = or_parts (is_same a x) (is_among xs a) absent in
    and_from (is_among (without a bs) x) (list_all (is_among (without a bs)) xs) (without-among law a x bs parts.0 (unsame law a x apart.0)) (without-all law a xs bs apart.1 parts.1)

no_longer : SameLaw → (xs bs : List Atom) → are_distinct xs ≡ true → list_all (is_among bs) xs ≡ true → length xs ≤ length bs
no_longer law [] bs distinct all = omega arith
no_longer law (x ∷ xs) bs distinct all =
    let parts = and_parts (not (is_among xs x)) (are_distinct xs) distinct in
    let here = and_parts (is_among bs x) (list_all (is_among bs) xs) all in
    let rest = no_longer law xs (without x bs) parts.1 (without-all law x xs bs (not_true (is_among xs x) parts.0) here.1) in
    let one = without-length x bs here.0 in
    omega (arith, rest, one)

-- Where all of some atoms are among the firsts of others, there are no more different ones.
pub no_more : SameLaw → (atoms others : List Atom) → list_all (is_among (firsts others)) atoms ≡ true → length (firsts atoms) ≤ length (firsts others)
no_more law atoms others all =
    no_longer law (firsts atoms) (firsts others) (distinct_grown law [] atoms refl) (pass_grown (is_among (firsts others)) [] atoms refl all)

-- ---- powers

same_le : (n : ℕ) → n ≤ n
same_le n = omega arith

power_grows : (m k : ℕ) → 2 ^ m ≤ 2 ^ (k + m)
power_grows m zero = let is : m ≡ zero + m = omega arith in subst (λ z. 2 ^ m ≤ 2 ^ z) is (same_le (2 ^ m))
power_grows m (suc k) =
    let rest = power_grows m k in
    let double = two-pow-succ (k + m) in
    let is : suc (k + m) ≡ suc k + m = omega arith in
    let next : 2 ^ m ≤ 2 ^ suc (k + m) = omega (arith, rest, double) in
    subst (λ z. 2 ^ m ≤ 2 ^ z) is next

pub power_le : (m n : ℕ) → m ≤ n → 2 ^ m ≤ 2 ^ n
power_le m n le = let is : (n - m) + m ≡ n = omega arith in subst (λ z. 2 ^ m ≤ 2 ^ z) is (power_grows m (n - m))
