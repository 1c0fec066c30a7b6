-- The steps of the walk, with the verdicts that they end in.
use Rattle.std.proofs.Common.{◌≡◌, ℕ, ◌+◌, ◌<◌, ◌≤◌, inl, inr, ⊎_elim, List, [], ◌∷◌, ◌++◌, true, false, Some, None, Ok, ap, sym, ◌∙◌, subst, slice_get, length, get_or, arith}
use Rattle.std.specs.List.{list_all}
use Rattle.std.proofs.lemmas.Option.{slice_get-get_or, slice_get_past, slice_get_cases}
use Rattle.key_table.specs.declared.atom.Atom.{Atom}
use Rattle.key_table.specs.Tables.{Table}
use Rattle.key_table.specs.Atoms.{atom_fits}
use Rattle.rule_problem.specs.declared.problem.Problem.{Problem}
use Rattle.rule_problem.specs.declared.certificate.Item.{Item}
use Rattle.rule_problem.specs.declared.certificate.Item.TheVariants.{Split}
use Rattle.rule_problem.specs.Problems.{problem_fits}
use Rattle.constraint_graph.specs.Laws.{AgreeLaw}
use Rattle.rule_problem.specs.Reasons.{Holds}
use Rattle.rule_problem.specs.Proving.{After, split_of, FailsAt}
use Rattle.rule_problem.specs.Proving.After.{over, holds, fails}
use Rattle.contradiction_checker.specs.declared.options.Assumed.{Assumed}
use Rattle.contradiction_checker.specs.declared.walk.Verdict.{Verdict}
use Rattle.contradiction_checker.specs.declared.walk.Verdict.TheVariants.{Accepted, Rejected}
use Rattle.contradiction_checker.specs.Assumed.{context_of}
use Rattle.contradiction_checker.specs.Decisions.{reason_holds}
use Rattle.contradiction_checker.specs.Turning.{with_truth, AreFalse, AreTurned}
use Rattle.contradiction_checker.specs.Judging.{Judges, SplitsOn, EndsAt}
use Rattle.contradiction_checker.proofs.Deciding.{Exact}
use Rattle.contradiction_checker.proofs.ReasonLaw.{SameAtomLaw, problem_atoms, graph_atoms, reason_exact, fit_context}
use Rattle.contradiction_checker.proofs.Sides.{Leads, leads_split, leads_failed, leads_ended, leads_turned}

-- What the walk has shown at an item.
abbrev pub Walks : Table → Problem → List Atom → List Item → List Assumed → ℕ → Type 0
Walks table problem atoms items s i = Leads atoms items (Holds table problem atoms) s i

-- the item at a place
abbrev pub item_at : List Item → ℕ → Item
item_at items i = get_or items i (Split 0)

there : (items : List Item) (i : ℕ) → i < length items → slice_get items i ≡ Some (item_at items i)
there items i within = slice_get-get_or items i (Split 0) within

pub walks_split : (table : Table) (problem : Problem) (atoms : List Atom) (items : List Item) (s : List Assumed) (i x : ℕ) → i < length items → SplitsOn atoms (item_at items i) x → Walks table problem atoms items s i → Walks table problem atoms items (s ++ with_truth x true ∷ []) (i + 1)
walks_split table problem atoms items s i x within on walks =
    let at = there items i within ∙ ap (λ (t : Item). Some t) on.0 in
    ⊎_elim
    (λ (found : (a : Atom) × (x < length atoms) × (slice_get atoms x ≡ Some a) × (get_or atoms x a ≡ a)). leads_split atoms items (Holds table problem atoms) s i x (Split x) found.0 at found.2 found.2 walks)
    (λ (past : (length atoms ≤ x) × (slice_get atoms x ≡ None)). absurd (omega (arith, past.0, on.1)))
    (slice_get_cases atoms x).1

-- An item that isn't a split is a reason that holds, or fails.
leaf : SameAtomLaw → AgreeLaw → (table : Table) (problem : Problem) (atoms : List Atom) (s : List Assumed) (item : Item) → problem_fits table problem ≡ true → list_all (atom_fits table) atoms ≡ true → Exact (reason_holds table problem atoms (context_of atoms s) item) (Holds table problem atoms (context_of atoms s) item)
leaf same agree table problem atoms s item fits fit = reason_exact agree table problem atoms (context_of atoms s) (problem_atoms table problem fits) (graph_atoms same table problem fits) fit (fit_context table atoms s fit) item

pub rejected : SameAtomLaw → AgreeLaw → (table : Table) (problem : Problem) (atoms : List Atom) (items : List Item) (s : List Assumed) (i : ℕ) → problem_fits table problem ≡ true → list_all (atom_fits table) atoms ≡ true → i < length items → split_of atoms (item_at items i) ≡ None → reason_holds table problem atoms (context_of atoms s) (item_at items i) ≡ false → Walks table problem atoms items s i → FailsAt table problem (record { atoms = atoms; items = items }) i
rejected same agree table problem atoms items s i fits fit within none fails_here walks =
    inl (leads_failed atoms items (Holds table problem atoms) s i i walks (fails (item_at items i) (there items i within) none ((leaf same agree table problem atoms s (item_at items i) fits fit).1 fails_here)))

held : SameAtomLaw → AgreeLaw → (table : Table) (problem : Problem) (atoms : List Atom) (items : List Item) (s : List Assumed) (i : ℕ) → problem_fits table problem ≡ true → list_all (atom_fits table) atoms ≡ true → i < length items → split_of atoms (item_at items i) ≡ None → reason_holds table problem atoms (context_of atoms s) (item_at items i) ≡ true → After atoms items (Holds table problem atoms) (context_of atoms s) i (Ok (i + 1))
held same agree table problem atoms items s i fits fit within none holds_here = holds (item_at items i) (there items i within) none ((leaf same agree table problem atoms s (item_at items i) fits fit).0 holds_here)

ends_as : (table : Table) (problem : Problem) (atoms : List Atom) (items : List Item) (next : ℕ) (v : Verdict) → After atoms items (Holds table problem atoms) [] 0 (Ok next) → EndsAt next (length items) v → Judges table problem (record { atoms = atoms; items = items }) v
ends_as table problem atoms items next Accepted all ends = let P : ℕ → Type 0 = λ n. After atoms items (Holds table problem atoms) [] 0 (Ok n) in subst P ends all
ends_as table problem atoms items next (Rejected i) all ends = let P : ℕ → Type 0 = λ n. After atoms items (Holds table problem atoms) [] 0 (Ok n) in inr (subst P (sym ends.0) all, omega (arith, ends.0, ends.1))

pub ended : SameAtomLaw → AgreeLaw → (table : Table) (problem : Problem) (atoms : List Atom) (items : List Item) (s : List Assumed) (i : ℕ) (v : Verdict) → problem_fits table problem ≡ true → list_all (atom_fits table) atoms ≡ true → i < length items → split_of atoms (item_at items i) ≡ None → reason_holds table problem atoms (context_of atoms s) (item_at items i) ≡ true → Walks table problem atoms items s i → AreFalse s → EndsAt (i + 1) (length items) v → Judges table problem (record { atoms = atoms; items = items }) v
ended same agree table problem atoms items s i v fits fit within none holds_here walks done ends =
    ends_as table problem atoms items (i + 1) v (leads_ended atoms items (Holds table problem atoms) s i (i + 1) walks (held same agree table problem atoms items s i fits fit within none holds_here) done) ends

pub walks_turned : SameAtomLaw → AgreeLaw → (table : Table) (problem : Problem) (atoms : List Atom) (items : List Item) (s t : List Assumed) (i : ℕ) → problem_fits table problem ≡ true → list_all (atom_fits table) atoms ≡ true → i < length items → split_of atoms (item_at items i) ≡ None → reason_holds table problem atoms (context_of atoms s) (item_at items i) ≡ true → Walks table problem atoms items s i → AreTurned s t → Walks table problem atoms items t (i + 1)
walks_turned same agree table problem atoms items s t i fits fit within none holds_here walks turned =
    leads_turned atoms items (Holds table problem atoms) s t i (i + 1) walks (held same agree table problem atoms items s i fits fit within none holds_here) turned

-- Where the items end too early, they fail at their number.
pub ran_out : (table : Table) (problem : Problem) (atoms : List Atom) (items : List Item) (s : List Assumed) (i : ℕ) → length items ≤ i → i ≤ length items → Walks table problem atoms items s i → FailsAt table problem (record { atoms = atoms; items = items }) (length items)
ran_out table problem atoms items s i past within walks =
    let is : i ≡ length items = omega arith in
    let F : ℕ → Type 0 = λ n. FailsAt table problem (record { atoms = atoms; items = items }) n in
    subst F is (inl (leads_failed atoms items (Holds table problem atoms) s i i walks (over (slice_get_past items i past))))
