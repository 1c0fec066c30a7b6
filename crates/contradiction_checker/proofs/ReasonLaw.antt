-- Whether a reason holds, by the few options that are tried, is what the definition over every option says.
use Rattle.std.proofs.Common.{◌≡◌, ◌&&◌, ℕ, ⊎_elim, List, [], ◌∷◌, Bool, true, false, not, cond, Option, Some, None, refl, ap, sym, ◌∙◌, slice_get}
use Rattle.std.specs.List.{list_all, AllByRecursion}
use Rattle.std.proofs.lemmas.Bool.{and_parts, and_cases, both_ways, not-true, not-false, false≢true, true≢false}
use Rattle.key_table.specs.declared.atom.Atom.{Atom}
use Rattle.key_table.specs.declared.atom.Verdict3.{Verdict3}
use Rattle.key_table.specs.declared.atom.Verdict3.TheVariants.{Entailed, Refuted, Undecided}
use Rattle.key_table.specs.Tables.{Table}
use Rattle.key_table.specs.Atoms.{atom_fits}
use Rattle.rule_problem.specs.declared.problem.Literal.{Literal}
use Rattle.rule_problem.specs.declared.problem.Problem.{Problem}
use Rattle.rule_problem.specs.declared.certificate.Item.{Item}
use Rattle.rule_problem.specs.declared.certificate.Item.TheVariants.{Split, Void, Want, Bar, Goal, Todo}
use Rattle.key_table.specs.Contexts.{Context, IsVoid, Forces, Entails, Refutes, HasVerdict}
use Rattle.rule_problem.specs.Literals.{IsEntailed, IsRefuted, HasRefuted, AreRefuted}
use Rattle.rule_problem.specs.Problems.{problem_fits, atoms_fit, atoms_stand, numbers_fit}
use Rattle.constraint_graph.specs.Graphs.{atoms_of}
use Rattle.constraint_graph.specs.Laws.{OfEach, AgreeLaw}
use Rattle.constraint_graph.specs.Values.{verdict}
use Rattle.constraint_graph.specs.declared.node.Node.{Node}
use Rattle.rule_problem.specs.Distinct.{is_same, is_among, are_distinct}
use Rattle.rule_problem.specs.Goals.{GoalHasVerdict}
use Rattle.rule_problem.specs.Reasons.{Holds}
use Rattle.contradiction_checker.specs.declared.options.Assumed.{Assumed}
use Rattle.contradiction_checker.specs.Assumed.{with_assumed, context_of}
use Rattle.contradiction_checker.specs.Tries.{leaves}
use Rattle.contradiction_checker.specs.Decisions.{excludes, is_void, literal_entailed, literal_refuted, path_refuted, want_refuted, bar_entailed, atom_verdict, is_refuted, reason_holds}
use Rattle.contradiction_checker.proofs.Exact.{leaves-none, leaves-some}
use Rattle.contradiction_checker.specs.Laws.{Fit}
use Rattle.contradiction_checker.proofs.OptionLaw.{one_with}
use Rattle.contradiction_checker.proofs.Deciding.{list_all-contains, Exact, any_exact, all_exact, some_exact, some_exact_of, OfSome, all_at}

not_self : (b : Bool) → b ≡ not b → ⊥
not_self true h = true≢false h
not_self false h = false≢true h

-- a context of atoms that fit fits
fit_with : (table : Table) (o : Option Atom) (truth : Bool) (c : Context) → OfSome (atom_fits table) o → Fit table c → Fit table (with_assumed o truth c)
fit_with table None truth c of fit = fit
fit_with table (Some atom) truth c of fit = (of, fit)

pub fit_context : (table : Table) (atoms : List Atom) (assumed : List Assumed) → list_all (atom_fits table) atoms ≡ true → Fit table (context_of atoms assumed)
fit_context table atoms [] fits = tt
fit_context table atoms (a ∷ assumed) fits = fit_with table (slice_get atoms a.atom) a.truth (context_of atoms assumed) (all_at (atom_fits table) atoms a.atom fits) (fit_context table atoms assumed fits)

-- no option is left with a truth exactly where the other truth is forced
excludes_exact : (table : Table) (context : Context) → Fit table context → (truth : Bool) (atom : Atom) → atom_fits table atom ≡ true → Exact (excludes table context atom truth) (Forces table context atom (not truth))
excludes_exact table context fit truth atom fits = (
  λ h. leaves-none table context atom truth fits (not-true (leaves table context atom truth) h),
  λ h forced.
      let l = leaves-some table context atom truth fits fit (not-false (leaves table context atom truth) h) in
      not_self truth (sym l.has ∙ forced l.option l.left),
)

void_exact : (table : Table) (context : Context) → Fit table context → (atom : Atom) → atom_fits table atom ≡ true → Exact (is_void table context atom) (IsVoid table context atom.slot)
void_exact table context fit atom fits =
    let no_true = excludes_exact table context fit true atom fits in
    let no_false = excludes_exact table context fit false atom fits in
    let e = excludes table context atom true in
    let f = excludes table context atom false in (
      λ h option left.
          let parts = and_parts e f h in
          false≢true (sym (no_true.0 parts.0 option left) ∙ no_false.0 parts.1 option left),
      λ h void. ⊎_elim
          (λ (some : e ≡ false). no_true.1 some (λ option left. absurd (void option left)))
          (λ (some : f ≡ false). no_false.1 some (λ option left. absurd (void option left)))
          (and_cases e f h),
    )

forces_twice : (table : Table) (context : Context) (atom : Atom) (truth : Bool) → Exact (excludes table context atom (not truth)) (Forces table context atom (not (not truth))) → Exact (excludes table context atom (not truth)) (Forces table context atom truth)
forces_twice table context atom true exact = exact
forces_twice table context atom false exact = exact

entailed_exact : (table : Table) (context : Context) → Fit table context → (atoms : List Atom) → list_all (atom_fits table) atoms ≡ true → (literal : Literal) → Exact (literal_entailed table context atoms literal) (IsEntailed table context atoms literal)
entailed_exact table context fit atoms fits literal =
    some_exact_of (λ (atom : Atom). excludes table context atom (not literal.want)) (atom_fits table) (λ (atom : Atom). Forces table context atom literal.want)
    (λ atom of. forces_twice table context atom literal.want (excludes_exact table context fit (not literal.want) atom of))
    (slice_get atoms literal.atom) (all_at (atom_fits table) atoms literal.atom fits)

refuted_exact : (table : Table) (context : Context) → Fit table context → (atoms : List Atom) → list_all (atom_fits table) atoms ≡ true → (literal : Literal) → Exact (literal_refuted table context atoms literal) (IsRefuted table context atoms literal)
refuted_exact table context fit atoms fits literal =
    some_exact_of (λ (atom : Atom). excludes table context atom literal.want) (atom_fits table) (λ (atom : Atom). Forces table context atom (not literal.want))
    (λ atom of. excludes_exact table context fit literal.want atom of)
    (slice_get atoms literal.atom) (all_at (atom_fits table) atoms literal.atom fits)

-- The verdict that the tries give is the atom's.
verdict_of : (table : Table) (context : Context) (atom : Atom) (e f : Bool) → Exact e (Refutes table context atom) → Exact f (Entails table context atom) → HasVerdict table context atom (cond e Refuted (cond f Entailed Undecided))
verdict_of table context atom true f refutes entails = refutes.0 refl
verdict_of table context atom false true refutes entails = (entails.0 refl, refutes.1 refl)
verdict_of table context atom false false refutes entails = (entails.1 refl, refutes.1 refl)

has_verdict : (table : Table) (context : Context) → Fit table context → (atom : Atom) → atom_fits table atom ≡ true → HasVerdict table context atom (atom_verdict table context atom)
has_verdict table context fit = λ atom fits. verdict_of table context atom (excludes table context atom true) (excludes table context atom false) (excludes_exact table context fit true atom fits) (excludes_exact table context fit false atom fits)

-- An atom has one verdict.
one_verdict : (table : Table) (context : Context) (atom : Atom) (v w : Verdict3) → HasVerdict table context atom v → HasVerdict table context atom w → v ≡ w
one_verdict table context atom Refuted Refuted h k = refl
one_verdict table context atom Refuted Entailed h k = absurd (k.1 h)
one_verdict table context atom Refuted Undecided h k = absurd (k.1 h)
one_verdict table context atom Entailed Refuted h k = absurd (h.1 k)
one_verdict table context atom Entailed Entailed h k = refl
one_verdict table context atom Entailed Undecided h k = absurd (k.0 h.0)
one_verdict table context atom Undecided Refuted h k = absurd (h.1 k)
one_verdict table context atom Undecided Entailed h k = absurd (h.0 k.0)
one_verdict table context atom Undecided Undecided h k = refl

-- Atoms that are found equal are equal.
abbrev pub SameAtomLaw : Type 0
SameAtomLaw = (a b : Atom) → is_same a b ≡ true → a ≡ b

-- Each atom of a graph fits.
abbrev pub GraphFits : Table → List Node → Type 0
GraphFits table graph = OfEach (λ atom. atom_fits table atom ≡ true) graph

one_fits : SameAtomLaw → (table : Table) (atoms : List Atom) → list_all (atom_fits table) atoms ≡ true → (atom : Atom) → is_among atoms atom ≡ true → atom_fits table atom ≡ true
one_fits law table atoms fits atom among =
    let found = one_with (λ (other : Atom). is_same atom other) (atom_fits table) atoms among fits in
    ap (atom_fits table) (law atom found.0 found.1) ∙ found.2

-- the atoms of a problem that fits fit
pub problem_atoms : (table : Table) (problem : Problem) → problem_fits table problem ≡ true → list_all (atom_fits table) problem.atoms ≡ true
unfolding problem_fits
problem_atoms table problem fits = (and_parts (atoms_fit table problem) (atoms_stand problem && numbers_fit problem) fits).0

-- and so do those of its graph, which stand among them
pub graph_atoms : SameAtomLaw → (table : Table) (problem : Problem) → problem_fits table problem ≡ true → GraphFits table problem.graph
unfolding problem_fits
graph_atoms law table problem fits = λ atom there.
    let parts = and_parts (atoms_fit table problem) (atoms_stand problem && numbers_fit problem) fits in
    let stand = (and_parts (atoms_stand problem) (numbers_fit problem) parts.1).0 in
    let among = (and_parts (are_distinct problem.atoms) (list_all (is_among problem.atoms) (atoms_of problem.graph)) stand).1 in
    one_fits law table problem.atoms parts.0 atom (list_all-contains (is_among problem.atoms) (atoms_of problem.graph) atom among there)

refuted_is : (v : Verdict3) → is_refuted v ≡ true → v ≡ Refuted
refuted_is Refuted h = refl
refuted_is Entailed h = cc
refuted_is Undecided h = cc

goal_exact : AgreeLaw → (table : Table) (context : Context) → Fit table context → (graph : List Node) (goal : ℕ) → GraphFits table graph → Exact (is_refuted (verdict (atom_verdict table context) graph goal)) (GoalHasVerdict table context graph goal Refuted)
goal_exact law table context fit graph goal fits = (
  λ h. record { says = atom_verdict table context; are = λ atom there. has_verdict table context fit atom (fits atom there); is = refuted_is (verdict (atom_verdict table context) graph goal) h },
  λ h has.
      let same : OfEach (λ atom. atom_verdict table context atom ≡ has.says atom) graph = λ atom there. one_verdict table context atom (atom_verdict table context atom) (has.says atom) (has_verdict table context fit atom (fits atom there)) (has.are atom there) in
      both_ways (is_refuted (verdict (atom_verdict table context) graph goal)) h (ap is_refuted (law (atom_verdict table context) has.says graph goal same ∙ has.is)),
)

-- Whether a reason holds is decided by the tries.
pub reason_exact : AgreeLaw → (table : Table) (problem : Problem) (atoms : List Atom) (context : Context) → list_all (atom_fits table) problem.atoms ≡ true → GraphFits table problem.graph → list_all (atom_fits table) atoms ≡ true → Fit table context → (item : Item) → Exact (reason_holds table problem atoms context item) (Holds table problem atoms context item)
reason_exact law table problem atoms context own graph fits fit (Void x) = some_exact_of (is_void table context) (atom_fits table) (λ (atom : Atom). IsVoid table context atom.slot) (void_exact table context fit) (slice_get atoms x) (all_at (atom_fits table) atoms x fits)
reason_exact law table problem atoms context own graph fits fit (Want w) =
    let refuted = any_exact (literal_refuted table context problem.atoms) (IsRefuted table context problem.atoms) (refuted_exact table context fit problem.atoms own) in
    some_exact (want_refuted table context problem.atoms) (AreRefuted table context problem.atoms) (all_exact (path_refuted table context problem.atoms) (HasRefuted table context problem.atoms) refuted) (slice_get problem.wants w)
reason_exact law table problem atoms context own graph fits fit (Bar b) =
    let entailed = all_exact (literal_entailed table context problem.atoms) (IsEntailed table context problem.atoms) (entailed_exact table context fit problem.atoms own) in
    some_exact (bar_entailed table context problem.atoms) (AllByRecursion (IsEntailed table context problem.atoms)) entailed (slice_get problem.bars b)
reason_exact law table problem atoms context own graph fits fit Goal = goal_exact law table context fit problem.graph problem.goal graph
reason_exact law table problem atoms context own graph fits fit (Split x) = (λ h. cc, λ h none. none)
reason_exact law table problem atoms context own graph fits fit Todo = (λ h. cc, λ h none. none)
