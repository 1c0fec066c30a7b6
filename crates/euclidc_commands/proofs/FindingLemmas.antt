-- What is found on a target, and what that means.
use Rattle.std.proofs.Common.{◌≡◌, ◌≤◌, ℕ, List, [], ◌∷◌, ◌++◌, length, Bool, true, false, ◌&&◌, ◌||◌, ◌⊎◌, inl, inr, refl, sym, ap, subst, ◌∙◌, arith, slice_index_or}
use Rattle.std.specs.List.{All, AllZip, Contains, list_all, list_any}
use Rattle.std.proofs.lemmas.Bool.{and_parts, and_from, or_parts, false≢true}
use Rattle.std.proofs.lemmas.List.Elements.{All-nil, All-cons, All-head, All-tail, All-contains, Contains-get_or}
use Rattle.std.proofs.lemmas.List.Folds.{list_all-append}
use Rattle.std.proofs.lemmas.List.Sums.{AllPass-from_list_all, list_all-from_AllPass}
use Rattle.key_table.specs.declared.atom.Atom.{Atom}
use Rattle.key_table.specs.Atoms.{atom_fits}
use Rattle.key_table.specs.Payments.{Entries, is_legal}
use Rattle.key_table.specs.Tables.{Table}
use Rattle.constraint_graph.specs.Graphs.{atoms_of}
use Rattle.constraint_graph.specs.Values.{holds}
use Rattle.connector_settings.specs.Takes.{atoms_of_settings}
use Rattle.connector_settings.specs.declared.layout.ConnectorGraph.{ConnectorGraph}
use Rattle.dir_typing.specs.Typed.{Typed}
use Rattle.euclid_ast.specs.declared.meaning.Choice as decided
use Rattle.rule_problem.specs.declared.certificate.Certificate.{Certificate}
use Rattle.rule_problem.specs.declared.certificate.Report.{Report}
use Rattle.rule_problem.specs.declared.certificate.Report.TheVariants.{Reach, Never, Spent}
use Rattle.rule_problem.specs.declared.problem.Problem.{Problem}
use Rattle.rule_problem.specs.ContextLaws.{AtomsFitLaw}
use Rattle.rule_problem.specs.Distinct.{firsts, is_among}
use Rattle.rule_problem.specs.Laws.{ProofLaw, TraceLaw}
use Rattle.rule_problem.specs.Problems.{problem_fits, rules_hold}
use Rattle.rule_report.specs.Aims.{Aims, aims}
use Rattle.rule_report.specs.Answers.{IsAnswerOn}
use Rattle.rule_report.specs.Paths.{joined, paths_of}
use Rattle.rule_report.specs.Reaching.{Reaches}
use Rattle.rule_report.specs.Targets.{wants_of, bars_of, standing}
use Rattle.euclidc_commands.specs.declared.status.Verdict.TheVariants as verdict
use Rattle.euclidc_commands.specs.Budgets.{atoms_for, atom_count, IsEnough}
use Rattle.euclidc_commands.specs.Findings.{is_open, verdict_where, IsWritable, IsFound}
use Rattle.euclidc_commands.specs.Inquiries.{Inquiry, IsReached, IsNeverReached}
use Rattle.euclidc_commands.specs.Laws.{NeverLaw, EnoughLaw}
use Rattle.euclidc_commands.proofs.Counting.{SameLaw, among_firsts, no_more, power_le}

named-fit : AtomsFitLaw → (table : Table) (problem : Problem) (atoms : List Atom) → problem_fits table problem ≡ true → All (Contains problem.atoms) atoms → list_all (atom_fits table) atoms ≡ true
named-fit law table problem atoms fits named = list_all-from_AllPass (atom_fits table) atoms (λ k d less. law table problem fits (slice_index_or atoms k d) (named k d less))

-- a text can be made of an answer
pub writable : AtomsFitLaw → (a : Aims) (budget : ℕ) (target : decided.Choice) (report : Report) → IsAnswerOn a budget target report → IsWritable a.program.table report
writable law a budget target (Reach payment) is =
    (and_parts (is_legal a.program.table payment) (holds is.problem.graph payment is.problem.goal && rules_hold is.problem payment) is.answered.satisfies).0
writable law a budget target (Never certificate) is = named-fit law a.program.table is.problem certificate.atoms is.fits is.named.of_problem
writable law a budget target (Spent trace) is = named-fit law a.program.table is.problem trace.atoms is.fits is.named.of_problem

-- the same by the table that the program was typed with
pub writable_by : AtomsFitLaw → (table : Table) (lowered p : Typed) (connectors : ConnectorGraph) (a : Aims) (budget : ℕ) (target : decided.Choice) (report : Report)
    → lowered ≡ p → p.table ≡ table → a ≡ aims lowered connectors → IsAnswerOn a budget target report → IsWritable table report
writable_by law table lowered p connectors a budget target report same by of is =
    let T : Table → Type 0 = λ t. IsWritable t report in
    subst T (ap (λ (x : Aims). x.program.table) of ∙ ap (λ (x : Typed). x.table) same ∙ by) (writable law a budget target report is)

-- A payment that is found reaches the target.
pub reached : (i : Inquiry) (budget : ℕ) (target : decided.Choice) (payment : Entries) → IsFound i budget target (Reach payment) → Reaches i.program i.settings target payment
reached i budget target payment f =
    let comes = (f.answer.met payment).0 f.answer.answered.satisfies in
    record { legal = comes.legal; taken = sym (f.graph.goal_holds payment) ∙ comes.goal_holds; decides = comes.chosen }

-- Where a certificate is found, no payment reaches the target.
pub never : ProofLaw → (i : Inquiry) (budget : ℕ) (target : decided.Choice) (certificate : Certificate) → IsFound i budget target (Never certificate) → IsNeverReached i target
never law i budget target certificate f payment r =
    let satisfied = (f.answer.met payment).1 (record { legal = r.legal; goal_holds = f.graph.goal_holds payment ∙ r.taken; chosen = r.decides }) in
    let unsatisfied = law i.program.table f.answer.problem certificate payment f.answer.fits f.answer.answered.proves in
    cc (satisfied, unsatisfied)

-- where no trace is found, some payment reaches the target, or none does
pub settled : NeverLaw → (i : Inquiry) (budget : ℕ) (target : decided.Choice) (report : Report) → IsFound i budget target report → is_open report ≡ false → IsReached i target ⊎ IsNeverReached i target
settled law i budget target (Reach payment) f shut = inl (payment, reached i budget target payment f)
settled law i budget target (Never certificate) f shut = inr (law i budget target certificate f)
settled law i budget target (Spent trace) f shut = absurd (false≢true (sym shut))

abbrev pub IsSettled : Inquiry → decided.Choice → Type 0
IsSettled i target = IsReached i target ⊎ IsNeverReached i target

pub all_settled : NeverLaw → (i : Inquiry) (budget : ℕ) (targets : List decided.Choice) (reports : List Report) → AllZip (IsFound i budget) targets reports → list_any is_open reports ≡ false → All (IsSettled i) targets
all_settled law i budget [] [] found none = All-nil (IsSettled i)
all_settled law i budget [] (r ∷ reports) found none = absurd found
all_settled law i budget (t ∷ targets) [] found none = absurd found
all_settled law i budget (t ∷ targets) (r ∷ reports) found none =
    let parts = or_parts (is_open r) (list_any is_open reports) none in
    All-cons (IsSettled i) t targets (settled law i budget t r found.0 parts.0) (all_settled law i budget targets reports found.1 parts.1)

-- what says Done leaves none open
pub done-closed : (is_left : Bool) → verdict.Done ≡ verdict_where is_left → is_left ≡ false
done-closed true is = absurd (cc is)
done-closed false is = refl

-- ---- budgets that are enough

graph-pass : (i : Inquiry) (connectors : ConnectorGraph) (p : Atom → Bool) → ((a : Atom) → Contains (atoms_of connectors.graph) a → Contains (atoms_of_settings i.program.table i.settings) a)
    → list_all p (atoms_of_settings i.program.table i.settings) ≡ true → list_all p (atoms_of connectors.graph) ≡ true
graph-pass i connectors p of pass =
    let own = atoms_of connectors.graph in
    let theirs = atoms_of_settings i.program.table i.settings in
    let each = AllPass-from_list_all p theirs pass in
    list_all-from_AllPass p own (λ k d less. All-contains (λ x. p x ≡ true) theirs (slice_index_or own k d) each (of (slice_index_or own k d) (Contains-get_or own k d less)))

standing-among : (i : Inquiry) (connectors : ConnectorGraph) (target : decided.Choice) → ((a : Atom) → Contains (atoms_of connectors.graph) a → Contains (atoms_of_settings i.program.table i.settings) a)
    → list_all (is_among (firsts (atoms_for i target))) (standing (paths_of i.program) connectors.graph target) ≡ true
standing-among i connectors target of =
    let p = is_among (firsts (atoms_for i target)) in
    let wants = joined (joined (wants_of (paths_of i.program) target)) in
    let bars = joined (bars_of (paths_of i.program) target) in
    let own = atoms_of connectors.graph in
    let theirs = atoms_of_settings i.program.table i.settings in
    let all = and_parts (list_all p wants) (list_all p (bars ++ theirs)) (sym (list_all-append p wants (bars ++ theirs)) ∙ among_firsts (atoms_for i target)) in
    let later = and_parts (list_all p bars) (list_all p theirs) (sym (list_all-append p bars theirs) ∙ all.1) in
    list_all-append p wants (bars ++ own) ∙ and_from (list_all p wants) (list_all p (bars ++ own)) all.0
    (list_all-append p bars own ∙ and_from (list_all p bars) (list_all p own) later.0 (graph-pass i connectors p of later.1))

-- With a budget that is enough no trace is found.
pub not_open : SameLaw → TraceLaw → EnoughLaw
not_open same law i budget target trace enough f =
    let less = law i.program.table f.answer.problem budget trace f.answer.fits f.answer.answered in
    let few : length f.answer.problem.atoms ≤ atom_count i target =
    subst (λ z. length z ≤ atom_count i target) (sym f.answer.of_target.atoms)
    (no_more same (standing (paths_of i.program) f.connectors.graph target) (atoms_for i target) (standing-among i f.connectors target (λ a h. (f.graph.atoms a).0 h))) in
    let powers = power_le (length f.answer.problem.atoms) (atom_count i target) few in
    absurd (omega (arith, less, powers, enough))

pub closed : EnoughLaw → (i : Inquiry) (budget : ℕ) (target : decided.Choice) (report : Report) → IsFound i budget target report → IsEnough i budget target → is_open report ≡ false
closed law i budget target (Reach payment) f enough = refl
closed law i budget target (Never certificate) f enough = refl
closed law i budget target (Spent trace) f enough = absurd (law i budget target trace enough f)

pub all_closed : EnoughLaw → (i : Inquiry) (budget : ℕ) (targets : List decided.Choice) (reports : List Report) → AllZip (IsFound i budget) targets reports → All (IsEnough i budget) targets → list_any is_open reports ≡ false
all_closed law i budget [] [] found enough = refl
all_closed law i budget [] (r ∷ reports) found enough = absurd found
all_closed law i budget (t ∷ targets) [] found enough = absurd found
all_closed law i budget (t ∷ targets) (r ∷ reports) found enough =
    ap (λ (b : Bool). b || list_any is_open reports) (closed law i budget t r found.0 (All-head (IsEnough i budget) t targets enough))
    ∙ all_closed law i budget targets reports found.1 (All-tail (IsEnough i budget) t targets enough)
