-- Each atom of a list is found among those that stand there once, in order of first standing.
use Rattle.std.proofs.Common.{◌≡◌, List, [], ◌∷◌, ◌++◌, Bool, true, false, ◌||◌, cond, Some, slice_get, fold, refl, ap, sym, ◌∙◌}
use Rattle.std.specs.List.{find, AllByRecursion}
use Rattle.std.proofs.lemmas.Bool.{or_left, or_right, false≢true}
use Rattle.std.proofs.lemmas.List.Folds.{list_any-append, find_at}
use Rattle.key_table.specs.contracts.atom.AtomEq.TheImpl.Laws as equal_atoms
use Rattle.key_table.specs.declared.atom.Atom.{Atom}
use Rattle.rule_problem.specs.Distinct.{is_same, is_among, with_atom, firsts, place_in}

-- Atoms that are found the same are equal.
abbrev pub SameLaw : Type 0
SameLaw = (a b : Atom) → is_same a b ≡ true → a ≡ b

pub same_self : (a : Atom) → is_same a a ≡ true
same_self a = equal_atoms.laws-law.refl a

found : SameLaw → (atoms : List Atom) (a : Atom) → is_among atoms a ≡ true → find (λ other. is_same a other) atoms ≡ Some a
found law [] a among = absurd (false≢true among)
found law (b ∷ atoms) a among =
    elim (is_same a b) as (λ (t : Bool). is_same a b ≡ t → (t || is_among atoms a) ≡ true → cond t (Some b) (find (λ other. is_same a other) atoms) ≡ Some a) [
      | true ↦ (λ is h. ap (λ (x : Atom). Some x) (sym (law a b is)))
      | false ↦ (λ is h. found law atoms a h)
    ] refl among

pub at_place : SameLaw → (atoms : List Atom) (a : Atom) → is_among atoms a ≡ true → slice_get atoms (place_in atoms a) ≡ Some a
at_place law atoms a among = sym (find_at (λ other. is_same a other) atoms) ∙ found law atoms a among

among_more : (atoms : List Atom) (a b : Atom) → is_among atoms a ≡ true → is_among (with_atom atoms b) a ≡ true
among_more atoms a b among =
    elim (is_among atoms b) as (λ (t : Bool). is_among (cond t atoms (atoms ++ b ∷ [])) a ≡ true) [
      | true ↦ among
      | false ↦ list_any-append (λ other. is_same a other) atoms (b ∷ []) ∙ or_left (is_among atoms a) (is_among (b ∷ []) a) among
    ]

among_itself : (atoms : List Atom) (a : Atom) → is_among (with_atom atoms a) a ≡ true
among_itself atoms a =
    elim (is_among atoms a) as (λ (t : Bool). is_among atoms a ≡ t → is_among (cond t atoms (atoms ++ a ∷ [])) a ≡ true) [
      | true ↦ (λ is. is)
      | false ↦ (λ is. list_any-append (λ other. is_same a other) atoms (a ∷ []) ∙ or_right (is_among atoms a) (is_among (a ∷ []) a) (ap (λ (t : Bool). t || false) (same_self a)))
    ] refl

among_grown : (xs atoms : List Atom) (a : Atom) → is_among atoms a ≡ true → is_among (fold with_atom atoms xs) a ≡ true
among_grown [] atoms a among = among
among_grown (x ∷ xs) atoms a among = among_grown xs (with_atom atoms x) a (among_more atoms a x among)

each_grown : (xs atoms : List Atom) → AllByRecursion (λ a. is_among (fold with_atom atoms xs) a ≡ true) xs
each_grown [] atoms = tt
each_grown (x ∷ xs) atoms = (among_grown xs (with_atom atoms x) x (among_itself atoms x), each_grown xs (with_atom atoms x))

numbered : SameLaw → (atoms xs : List Atom) → AllByRecursion (λ a. is_among atoms a ≡ true) xs → AllByRecursion (λ a. slice_get atoms (place_in atoms a) ≡ Some a) xs
numbered law atoms [] among = tt
numbered law atoms (x ∷ xs) among = (at_place law atoms x among.0, numbered law atoms xs among.1)

pub each_numbered : SameLaw → (xs : List Atom) → AllByRecursion (λ a. slice_get (firsts xs) (place_in (firsts xs) a) ≡ Some a) xs
each_numbered law xs = numbered law (firsts xs) xs (each_grown xs [])
