-- Atoms that are among a few, each once, are no more than these.
use Rattle.std.proofs.Common.{◌≡◌, ℕ, ◌+◌, ◌≤◌, ⊎_elim, List, [], ◌∷◌, ◌++◌, length, length-append, Bool, true, false, not, ◌||◌, cond, fold, refl, sym, subst, ap, ◌∙◌, arith}
use Rattle.std.specs.List.{count_by, AllByRecursion}
use Rattle.std.proofs.lemmas.List.Folds.{list_any-append}
use Rattle.std.proofs.lemmas.List.Sums.{sum_by-cons, count_by-le-length}
use Rattle.key_table.specs.contracts.atom.AtomEq.TheImpl.Laws as equal_atoms
use Rattle.key_table.specs.declared.atom.Atom.{Atom}
use Rattle.rule_problem.specs.Distinct.{is_same, is_among, with_atom, firsts}
use Rattle.sample_program.proofs.Alls.{Among}

-- 1 for each of the few that is not there
abbrev weight : List Atom → Atom → ℕ
weight there f = cond (not (is_among there f)) 1 0

-- how many of the few are not there
abbrev missing : List Atom → List Atom → ℕ
missing few there = count_by (λ f. not (is_among there f)) few

lighter : (b c : Bool) → cond (not (b || c)) 1 0 ≤ cond (not b) 1 0
lighter true c = omega arith
lighter false true = omega arith
lighter false false = omega arith

pushed : (there : List Atom) (a f : Atom) → is_among (there ++ a ∷ []) f ≡ (is_among there f || (is_same f a || false))
pushed there a f = list_any-append (λ other. is_same f other) there (a ∷ [])

one_lighter : (there : List Atom) (a f : Atom) → weight (there ++ a ∷ []) f ≤ weight there f
one_lighter there a f =
    subst (λ b. cond (not b) 1 0 ≤ weight there f) (sym (pushed there a f)) (lighter (is_among there f) (is_same f a || false))

all_lighter : (there : List Atom) (a : Atom) (few : List Atom) → missing few (there ++ a ∷ []) ≤ missing few there
all_lighter there a [] = omega arith
all_lighter there a (f ∷ few) =
    let first = sum_by-cons (weight (there ++ a ∷ [])) f few in
    let second = sum_by-cons (weight there) f few in
    let head = one_lighter there a f in
    let rest = all_lighter there a few in
    omega arith

-- the atom itself weighs 1 before it comes, and nothing then
weight_before : (there : List Atom) (a : Atom) → is_among there a ≡ false → weight there a ≡ 1
weight_before there a new = ap (λ b. cond (not b) 1 0) new

weight_after : (there : List Atom) (a : Atom) → is_among there a ≡ false → weight (there ++ a ∷ []) a ≡ 0
weight_after there a new =
    ap (λ b. cond (not b) 1 0) (pushed there a a ∙ ap (λ b. b || (is_same a a || false)) new ∙ ap (λ b. b || false) (equal_atoms.laws-law.refl a))

fewer : (there : List Atom) (a : Atom) (few : List Atom) → is_among there a ≡ false → Among few a → missing few (there ++ a ∷ []) + 1 ≤ missing few there
fewer there a [] new among = absurd among
fewer there a (f ∷ few) new among =
    let first = sum_by-cons (weight (there ++ a ∷ [])) f few in
    let second = sum_by-cons (weight there) f few in
    ⊎_elim
    (λ (same : a ≡ f).
    let P : Atom → Type 0 = λ x. (weight there x ≡ 1) × (weight (there ++ a ∷ []) x ≡ 0) in
    let here : (weight there f ≡ 1) × (weight (there ++ a ∷ []) f ≡ 0) = subst P same (weight_before there a new, weight_after there a new) in
    let rest = all_lighter there a few in
    omega arith)
    (λ (later : Among few a).
    let head = one_lighter there a f in
    let rest = fewer there a few new later in
    omega arith)
    among

one_comes : (few there : List Atom) (a : Atom) → Among few a → length (with_atom there a) + missing few (with_atom there a) ≤ length there + missing few there
one_comes few there a among =
    elim (is_among there a) as (λ (t : Bool). is_among there a ≡ t → length (cond t there (there ++ a ∷ [])) + missing few (cond t there (there ++ a ∷ [])) ≤ length there + missing few there) [
      | true ↦ (λ is. omega arith)
      | false ↦ (λ is.
          let long = length-append there (a ∷ []) in
          let light = fewer there a few is among in
          omega arith)
    ] refl

all_come : (few there came : List Atom) → AllByRecursion (Among few) came → length (fold with_atom there came) + missing few (fold with_atom there came) ≤ length there + missing few there
all_come few there [] all = omega arith
all_come few there (a ∷ came) all =
    let rest = all_come few (with_atom there a) came all.1 in
    let head = one_comes few there a all.0 in
    omega arith

pub firsts_few : (few came : List Atom) → AllByRecursion (Among few) came → length (firsts came) ≤ length few
firsts_few few came all =
    let whole = all_come few [] came all in
    let most = count_by-le-length (λ f. not (is_among [] f)) few in
    omega arith
