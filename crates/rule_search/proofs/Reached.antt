-- What a whole search reports.
use Rattle.std.proofs.Common.{◌≡◌, ℕ, zero, suc, ◌+◌, ◌<◌, ◌≤◌, ◌^◌, List, [], ◌∷◌, length, map, true, false, Bool, not, ◌&&◌, ◌||◌, Some, slice_get, cond, one-add, refl, ap, sym, ◌∙◌, subst, arith}
use Rattle.std.specs.List.{Contains, filter_map}
use Rattle.std.proofs.lemmas.Bool.{and_parts, false≢true}
use Rattle.key_table.specs.declared.atom.Atom.{Atom}
use Rattle.key_table.specs.contracts.atom.AtomEq.TheImpl.Laws as equal_atoms
use Rattle.key_table.specs.Payments.{Entries, is_legal}
use Rattle.key_table.specs.Tables.{Table}
use Rattle.rule_problem.specs.declared.certificate.Item.{Item}
use Rattle.rule_problem.specs.declared.problem.Problem.{Problem}
use Rattle.rule_problem.specs.ContextLaws.{SettledLaw}
use Rattle.rule_problem.specs.Distinct.{is_same, is_among, are_distinct, place_in}
use Rattle.rule_problem.specs.Laws.{ReadingLaw}
use Rattle.rule_problem.specs.Problems.{problem_fits, atoms_fit, atoms_stand, numbers_fit}
use Rattle.rule_problem.specs.Traces.{IsTrace}
use Rattle.domain_store.specs.PickedPayments.{IsPayment}
use Rattle.domain_store.specs.Stores.{Seen, context_of}
use Rattle.domain_store.specs.StoreLaws.{AssumedInLaw}
use Rattle.rule_search.specs.Finding.{Settles, Refutes, CutsShort, Finds}
use Rattle.rule_search.specs.declared.solving.Outcome.{Outcome}
use Rattle.rule_search.specs.declared.solving.Outcome.TheVariants.{Reach, Never, Spent}
use Rattle.rule_search.specs.Naming.{numbers_of, firsts, place_of, renumbered}
use Rattle.rule_search.specs.Reports.{IsReached, IsNever, AreNamed}
use Rattle.rule_search.specs.Standings.{AreNumbered}
use Rattle.rule_search.proofs.Joins.{never_at, spent_at}
use Rattle.rule_search.proofs.Names.{spells, names, few_numbers}
use Rattle.rule_search.proofs.Retraces.{SameLaw}

-- An atom that stands once is found by its number.
among_at : (atoms : List Atom) (a b : Atom) (n : ℕ) → slice_get atoms n ≡ Some b → is_same a b ≡ true → is_among atoms a ≡ true
among_at [] a b n is same = cc
among_at (c ∷ atoms) a b zero is same = let e : c ≡ b = cc in ap (λ t. t || is_among atoms a) (ap (is_same a) e ∙ same)
among_at (c ∷ atoms) a b (suc n) is same =
    elim (is_same a c) as (λ (t : Bool). (t || is_among atoms a) ≡ true) [ true ↦ refl | false ↦ among_at atoms a b n is same ]

not_and : (b : Bool) → not b ≡ true → b ≡ true → ⊥
not_and true h k = false≢true h
not_and false h k = false≢true k

placed : SameLaw → (atoms : List Atom) → are_distinct atoms ≡ true → (n : ℕ) (a : Atom) → slice_get atoms n ≡ Some a → place_in atoms a ≡ n
placed law [] apart n a is = cc
placed law (b ∷ atoms) apart zero a is =
    let e : b ≡ a = cc in
    ap (λ t. cond (not t) (1 + place_in atoms a) 0) (subst (λ x. is_same a x ≡ true) (sym e) (equal_atoms.laws-law.refl a))
placed law (b ∷ atoms) apart (suc n) a is =
    let both = and_parts (not (is_among atoms b)) (are_distinct atoms) apart in
    elim (is_same a b) as (λ (t : Bool). is_same a b ≡ t → cond (not t) (1 + place_in atoms a) 0 ≡ suc n) [
      | true ↦ (λ same. absurd (not_and (is_among atoms b) both.0 (among_at atoms b a n is (subst (λ x. is_same x a ≡ true) (law a b same) (equal_atoms.laws-law.refl a)))))
      | false ↦ (λ _. ap (λ k. 1 + k) (placed law atoms both.1 n a is) ∙ one-add n)
    ] refl

pub numbered : SameLaw → (table : Table) (problem : Problem) → problem_fits table problem ≡ true → length problem.atoms < 2 ^ 32 → length problem.wants < 2 ^ 32 → length problem.bars < 2 ^ 32 → AreNumbered problem
unfolding problem_fits
numbered law table problem fits few_atoms few_wants few_bars =
    let one = and_parts (atoms_fit table problem) (atoms_stand problem && numbers_fit problem) fits in
    let two = and_parts (atoms_stand problem) (numbers_fit problem) one.1 in
    let three = and_parts (are_distinct problem.atoms) _ two.0 in
    record { atoms = few_atoms; wants = few_wants; bars = few_bars; places = placed law problem.atoms three.0 }

-- The payment of a store that settles the problem.
pub reached : SettledLaw → AssumedInLaw → (at now : Seen) (payment : Entries) → Settles at now → IsPayment now payment → IsReached at.table at.problem payment
reached settled assumed at now payment h is = record {
  satisfies = settled at.table at.problem (context_of now) payment h.settled (subst (λ t. is_legal t payment ≡ true) h.table is.legal) (λ a there. assumed now payment a is there);
  others = λ slot apart. is.others slot (λ atom there. apart atom (subst (λ (p : Problem). Contains p.atoms atom) h.problem there));
}

-- A refutation of no assumptions, and a trace, with the atoms of the problem in place of their numbers.
pub refuted : SameLaw → ReadingLaw → (table : Table) (problem : Problem) → AreNumbered problem → (budget splits : ℕ) (items : List Item) (atoms : List Atom) (list : List Item) → Refutes (record { table = table; problem = problem; assumptions = [] }) budget [] items splits
    → atoms ≡ filter_map (slice_get problem.atoms) (firsts (numbers_of items)) → list ≡ map (renumbered (place_of (firsts (numbers_of items)))) items → IsNever table problem budget (record { atoms = atoms; items = list })
refuted law reading table problem numbers budget splits items atoms list f atoms_are list_is =
    let spelled = spells law problem numbers f.tree f.named items f.spelled atoms list atoms_are list_is in
    record {
      proves = reading table problem (record { atoms = atoms; items = list }) f.tree spelled f.proves;
      tree = f.tree;
      spelled = spelled;
      tree_proves = f.proves;
      proper = f.proper;
      few = omega (arith, f.count, f.few);
    }

pub refuted_names : SameLaw → (table : Table) (problem : Problem) → AreNumbered problem → (budget splits : ℕ) (items : List Item) (atoms : List Atom) → Refutes (record { table = table; problem = problem; assumptions = [] }) budget [] items splits
    → atoms ≡ filter_map (slice_get problem.atoms) (firsts (numbers_of items)) → AreNamed problem budget atoms
refuted_names law table problem numbers budget splits items atoms f atoms_are = names law problem numbers f.tree f.named items f.spelled budget (omega (arith, f.count, f.few)) atoms atoms_are

pub refuted_few : (table : Table) (problem : Problem) (budget splits : ℕ) (items : List Item) → Refutes (record { table = table; problem = problem; assumptions = [] }) budget [] items splits → length (numbers_of items) ≤ budget
refuted_few table problem budget splits items f =
    let few = few_numbers problem.atoms f.tree f.named in
    let e = ap (λ (i : List Item). length (numbers_of i)) f.spelled in
    omega (arith, few, e, f.count, f.few)

pub cut_short : SameLaw → (table : Table) (problem : Problem) → AreNumbered problem → (budget : ℕ) (items : List Item) (atoms : List Atom) (list : List Item) → CutsShort (record { table = table; problem = problem; assumptions = [] }) budget [] items
    → atoms ≡ filter_map (slice_get problem.atoms) (firsts (numbers_of items)) → list ≡ map (renumbered (place_of (firsts (numbers_of items)))) items → IsTrace table problem budget (record { atoms = atoms; items = list })
cut_short law table problem numbers budget items atoms list f atoms_are list_is = record {
  tree = f.tree;
  spelled = spells law problem numbers f.tree f.named items f.spelled atoms list atoms_are list_is;
  proper = f.proper;
  cut = f.cut;
  exact = f.exact;
}

pub cut_names : SameLaw → (table : Table) (problem : Problem) → AreNumbered problem → (budget : ℕ) (items : List Item) (atoms : List Atom) → CutsShort (record { table = table; problem = problem; assumptions = [] }) budget [] items
    → atoms ≡ filter_map (slice_get problem.atoms) (firsts (numbers_of items)) → AreNamed problem budget atoms
cut_names law table problem numbers budget items atoms f atoms_are = names law problem numbers f.tree f.named items f.spelled budget (omega (arith, f.exact)) atoms atoms_are

pub cut_few : (table : Table) (problem : Problem) (budget : ℕ) (items : List Item) → CutsShort (record { table = table; problem = problem; assumptions = [] }) budget [] items → length (numbers_of items) ≤ budget
cut_few table problem budget items f =
    let few = few_numbers problem.atoms f.tree f.named in
    let e = ap (λ (i : List Item). length (numbers_of i)) f.spelled in
    omega (arith, few, e, f.exact)

-- the store as it is made
abbrev pub begun : Table → Problem → Seen
begun table problem = record { table = table; problem = problem; assumptions = [] }

-- a store without assumptions is as one that is made
pub begun_is : (s : Seen) → s.assumptions ≡ [] → s ≡ begun s.table s.problem
begun_is s none = ap (λ a. record s { assumptions = a }) none

-- The atoms of a store's problem are those of the store that it was, where nothing has changed.
pub atoms_of_old : (slice : List Atom) (problem : Problem) (now old : Seen) → slice ≡ problem.atoms → problem ≡ now.problem → now ≡ old → slice ≡ old.problem.atoms
atoms_of_old slice problem now old as_slice own same = as_slice ∙ ap (λ (p : Problem). p.atoms) own ∙ ap (λ (s : Seen). s.problem.atoms) same

pub refuted_at : (table : Table) (problem : Problem) (start now : Seen) (budget splits : ℕ) (old new items : List Item) (o : Outcome) → start ≡ begun table problem → old ≡ [] → o ≡ Never splits → Finds start start now budget old new o → items ≡ new → Refutes (begun table problem) budget [] items splits
refuted_at table problem start now budget splits old new items o made empty is found same =
    let f = (never_at start start now budget old new o splits is found).1 in
    subst (λ (i : List Item). Refutes (begun table problem) budget [] i splits) (sym same) (subst (λ (i : List Item). Refutes (begun table problem) budget i new splits) empty (subst (λ (s : Seen). Refutes s budget old new splits) made f))

pub cut_at : (table : Table) (problem : Problem) (start now : Seen) (budget : ℕ) (old new items : List Item) (o : Outcome) → start ≡ begun table problem → old ≡ [] → o ≡ Spent → Finds start start now budget old new o → items ≡ new → CutsShort (begun table problem) budget [] items
cut_at table problem start now budget old new items o made empty is found same =
    let f = (spent_at start start now budget old new o is found).1 in
    subst (λ (i : List Item). CutsShort (begun table problem) budget [] i) (sym same) (subst (λ (i : List Item). CutsShort (begun table problem) budget i new) empty (subst (λ (s : Seen). CutsShort s budget old new) made f))

pub reached_at : SettledLaw → AssumedInLaw → (table : Table) (problem : Problem) (start now : Seen) (budget : ℕ) (old new : List Item) (payment : Entries) (o : Outcome) → start ≡ begun table problem → o ≡ Reach → Finds start start now budget old new o → IsPayment now payment → IsReached table problem payment
reached_at settled assumed table problem start now budget old new payment o made is found paid =
    let f : Settles start now = subst (λ (o : Outcome). Finds start start now budget old new o) is found in
    subst (λ (s : Seen). IsReached s.table s.problem payment) made (reached settled assumed start now payment f paid)
