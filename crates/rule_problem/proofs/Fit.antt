-- What fits says of the graph's atoms and the literals.
use Rattle.std.proofs.Common.{◌≡◌, ℕ, zero, suc, ◌<◌, List, [], ◌∷◌, length, Bool, true, false, ◌&&◌, ◌||◌, Some, slice_get, refl, subst, arith}
use Rattle.std.specs.List.{list_all, Contains}
use Rattle.std.proofs.lemmas.Bool.{and_parts, false≢true}
use Rattle.key_table.specs.declared.atom.Atom.{Atom}
use Rattle.key_table.specs.Atoms.{atom_fits}
use Rattle.key_table.specs.Tables.{Table}
use Rattle.constraint_graph.specs.Graphs.{atoms_of}
use Rattle.rule_problem.specs.ContextLaws.{AtomsFitLaw}
use Rattle.rule_problem.specs.declared.problem.Problem.{Problem}
use Rattle.rule_problem.specs.Distinct.{is_same, is_among, are_distinct}
use Rattle.rule_problem.specs.Problems.{path_fits, atoms_fit, atoms_stand, literals_fit, numbers_fit, problem_fits}
use Rattle.rule_problem.proofs.Names.{SameLaw}

pub there : {X : Type 0} (x y : X) (xs : List X) → Contains xs y → Contains (x ∷ xs) y
there x y xs h = (suc h.0, omega (arith, h.1), h.2)

pub first : {X : Type 0} (x : X) (xs : List X) → Contains (x ∷ xs) x
first x xs = (zero, omega arith, refl)

-- an atom that is found in a list stands in it
pub stands : SameLaw → (atoms : List Atom) (a : Atom) → is_among atoms a ≡ true → Contains atoms a
stands law [] a among = absurd (false≢true among)
stands law (b ∷ atoms) a among =
    elim (is_same a b) as (λ (t : Bool). is_same a b ≡ t → (t || is_among atoms a) ≡ true → Contains (b ∷ atoms) a) [
      | true ↦ (λ is h. subst (λ (x : Atom). Contains (x ∷ atoms) a) (law a b is) (first a atoms))
      | false ↦ (λ is h. there b a atoms (stands law atoms a h))
    ] refl among

pub each_passes : {X : Type 0} (p : X → Bool) (xs : List X) (x : X) → list_all p xs ≡ true → Contains xs x → p x ≡ true
each_passes p [] x h (k, within, is) = absurd (omega arith)
each_passes p (y ∷ ys) x h (zero, within, is) = subst (λ z. p z ≡ true) is (and_parts (p y) (list_all p ys) h).0
each_passes p (y ∷ ys) x h (suc k, within, is) = each_passes p ys x (and_parts (p y) (list_all p ys) h).1 (k, omega arith, is)

-- what stands at a number below the length
pub at_number : {X : Type 0} (xs : List X) (i : ℕ) → i < length xs → (x : X) × (slice_get xs i ≡ Some x) × Contains xs x
at_number [] i within = absurd (omega arith)
at_number (x ∷ xs) zero within = (x, refl, first x xs)
at_number (x ∷ xs) (suc i) within = let found = at_number xs i (omega arith) in (found.0, found.1, there x found.0 xs found.2)

pub gotten : {X : Type 0} (xs : List X) (i : ℕ) (x : X) → slice_get xs i ≡ Some x → Contains xs x
gotten [] i x is = cc
gotten (y ∷ xs) zero x is = let same : y ≡ x = cc in subst (λ z. Contains (y ∷ xs) z) same (first y xs)
gotten (y ∷ xs) (suc i) x is = there y x xs (gotten xs i x is)

pub record Parts (problem : Problem) : Type 0 where
  pub graph : list_all (is_among problem.atoms) (atoms_of problem.graph) ≡ true
  pub wants : list_all (λ paths. list_all (path_fits problem.atoms) paths) problem.wants ≡ true
  pub bars : list_all (path_fits problem.atoms) problem.bars ≡ true

pub fits_parts : (table : Table) (problem : Problem) → problem_fits table problem ≡ true → Parts problem
unfolding problem_fits
fits_parts table problem fits =
    let one = and_parts (atoms_fit table problem) (atoms_stand problem && numbers_fit problem) fits in
    let two = and_parts (atoms_stand problem) (numbers_fit problem) one.1 in
    let three = and_parts (literals_fit problem) _ two.1 in
    let four = and_parts (list_all (λ paths. list_all (path_fits problem.atoms) paths) problem.wants) (list_all (path_fits problem.atoms) problem.bars) three.0 in
    record { graph = (and_parts (are_distinct problem.atoms) _ two.0).1; wants = four.0; bars = four.1 }

pub in_graph : SameLaw → (problem : Problem) → Parts problem → (a : Atom) → Contains (atoms_of problem.graph) a → Contains problem.atoms a
in_graph law problem parts a in_it = stands law problem.atoms a (each_passes (is_among problem.atoms) (atoms_of problem.graph) a parts.graph in_it)

pub atoms_fit_all : AtomsFitLaw
unfolding problem_fits
atoms_fit_all table problem fits a in_it = each_passes (atom_fits table) problem.atoms a (and_parts (atoms_fit table problem) (atoms_stand problem && numbers_fit problem) fits).0 in_it
