-- What is counted of the targets of a sample.
use Rattle.std.proofs.Common.{◌≡◌, ℕ, ◌+◌, ◌≤◌, List, [], ◌∷◌, ◌++◌, length, Bool, true, false, cond, Result, Ok, Err, IfOk, refl, ap, sym, subst, ◌∙◌, zero-add, arith}
use Rattle.std.proofs.Math.Nat.{pow-le-pow_right}
use Rattle.std.proofs.lemmas.Bool.{false≢true}
use Rattle.std.proofs.lemmas.List.FromFn.{map-range_with_len_more}
use Rattle.key_table.specs.BuiltIn.{built_in}
use Rattle.key_table.specs.Payments.{Entries}
use Rattle.key_table.specs.Tables.{Table}
use Rattle.euclid_ast.specs.declared.meaning.Choice as decided
use Rattle.euclid_ast.specs.declared.meaning.Choice.TheVariants.{Rule, Default}
use Rattle.euclid_ast.specs.declared.program.Program.{Program}
use Rattle.euclid_ast.specs.Limits.{IsWithinLimits}
use Rattle.dir_typing.specs.Typed.{Typed}
use Rattle.json_program.specs.Programs.{program_file}
use Rattle.key_table.specs.declared.stop.NoMemory.{NoMemory}
use Rattle.sample_program.specs.Programs.{program}
use Rattle.connector_settings.specs.declared.settings.Settings.{Settings}
use Rattle.connector_settings.specs.declared.layout.ConnectorGraph.{ConnectorGraph}
use Rattle.connector_settings.specs.GraphOf.{IsGraphOf}
use Rattle.rule_problem.specs.declared.certificate.Certificate.{Certificate}
use Rattle.rule_problem.specs.declared.certificate.Trace.{Trace}
use Rattle.rule_problem.specs.declared.problem.Problem.{Problem}
use Rattle.rule_problem.specs.Laws.{ProofLaw, TraceLaw}
use Rattle.rule_problem.specs.Problems.{problem_fits, sat}
use Rattle.rule_problem.specs.Proving.{Proves}
use Rattle.rule_problem.specs.Traces.{IsTrace}
use Rattle.rule_report.specs.Aims.{Aims, aims}
use Rattle.rule_report.specs.Reaching.{IsMetWhere, Reaches}
use Rattle.sample_program.specs.Laws.{sample, SmallLaw}
use Rattle.sample_program.specs.SettingsTexts.{settings}
use Rattle.euclidc_commands.specs.declared.status.Verdict.{Verdict}
use Rattle.euclidc_commands.specs.declared.status.Verdict.TheVariants as verdict
use Rattle.euclidc_commands.specs.Sample.{Tells, Counts, AreSmall, rules_up_to, targets_of, summary, Summarized}
use Rattle.euclidc_commands.specs.Sample.Counts.{nothing, with_reached, with_never}

-- one more target, counted last
push_reached : (p : Typed) (s : Settings) (targets : List decided.Choice) (r n : ℕ) (last : decided.Choice) (payment : Entries) → Reaches p s last payment → Counts p s targets r n → Counts p s (targets ++ last ∷ []) (r + 1) n
push_reached p s targets r n last payment reaches nothing = with_reached last payment reaches nothing
push_reached p s targets r n last payment reaches (with_reached {targets = ts} {r = r'} {n = n'} target q h rest) = with_reached target q h (push_reached p s ts r' n' last payment reaches rest)
push_reached p s targets r n last payment reaches (with_never {targets = ts} {r = r'} {n = n'} target h rest) = with_never target h (push_reached p s ts r' n' last payment reaches rest)

push_never : (p : Typed) (s : Settings) (targets : List decided.Choice) (r n : ℕ) (last : decided.Choice) → ((payment : Entries) → Reaches p s last payment → ⊥) → Counts p s targets r n → Counts p s (targets ++ last ∷ []) r (n + 1)
push_never p s targets r n last none nothing = with_never last none nothing
push_never p s targets r n last none (with_reached {targets = ts} {r = r'} {n = n'} target q h rest) = with_reached target q h (push_never p s ts r' n' last none rest)
push_never p s targets r n last none (with_never {targets = ts} {r = r'} {n = n'} target h rest) = with_never target h (push_never p s ts r' n' last none rest)

pub push : (p : Typed) (s : Settings) (targets : List decided.Choice) (r n : ℕ) (last : decided.Choice) (b : Bool) → Tells p s last b → Counts p s targets r n → Counts p s (targets ++ last ∷ []) (cond b (r + 1) r) (cond b n (n + 1))
push p s targets r n last true tells counts = push_reached p s targets r n last tells.0 tells.1 counts
push p s targets r n last false tells counts = push_never p s targets r n last tells counts

pub rules_more : (count : ℕ) → rules_up_to (count + 1) ≡ rules_up_to count ++ Rule count ∷ []
rules_more count = map-range_with_len_more (λ rule. Rule rule) 0 count count (zero-add count)

-- a target is counted once
counts_all : (p : Typed) (s : Settings) (targets : List decided.Choice) (r n : ℕ) → Counts p s targets r n → r + n ≡ length targets
counts_all p s targets r n nothing = refl
counts_all p s targets r n (with_reached {targets = ts} {r = r'} {n = n'} target q h rest) = let each = counts_all p s ts r' n' rest in omega arith
counts_all p s targets r n (with_never {targets = ts} {r = r'} {n = n'} target h rest) = let each = counts_all p s ts r' n' rest in omega arith

one_count : (p : Typed) (s : Settings) (targets : List decided.Choice) (r n r' n' : ℕ) → Counts p s targets r n → Counts p s targets r' n' → (r ≡ r') × (n ≡ n')
one_count p s targets r n r' n' nothing nothing = (refl, refl)
one_count p s targets r n r' n' (with_reached {targets = ts} {r = a} {n = b} target q h rest) (with_reached {r = c} {n = d} target' q' h' rest') =
    let same = one_count p s ts a b c d rest rest' in (ap (λ k. k + 1) same.0, same.1)
one_count p s targets r n r' n' (with_reached target q h rest) (with_never target' h' rest') = absurd (h' q h)
one_count p s targets r n r' n' (with_never target h rest) (with_reached target' q' h' rest') = absurd (h q' h')
one_count p s targets r n r' n' (with_never {targets = ts} {r = a} {n = b} target h rest) (with_never {r = c} {n = d} target' h' rest') =
    let same = one_count p s ts a b c d rest rest' in (same.0, ap (λ k. k + 1) same.1)

pub one_answer : (seed : ℕ) (a b : List ℕ) (v w : Verdict) → Summarized seed a v → Summarized seed b w → a ≡ b
one_answer seed a b v w first second =
    let same = one_count _ _ _ _ _ _ _ first.counts second.counts in
    first.same_text ∙ ap (λ r. summary seed r first.never) same.0 ∙ ap (summary seed second.reached) same.1 ∙ sym second.same_text

-- one rule more
pub rule_counted : (p : Typed) (s : Settings) (count r n r' n' : ℕ) (b : Bool) → Tells p s (Rule count) b → Counts p s (rules_up_to count) r n → r' ≡ cond b (r + 1) r → n' ≡ cond b n (n + 1) → Counts p s (rules_up_to (count + 1)) r' n'
rule_counted p s count r n r' n' b tells counts is_r is_n =
    let A : List decided.Choice → Type 0 = λ targets. Counts p s targets (cond b (r + 1) r) (cond b n (n + 1)) in
    let R : ℕ → Type 0 = λ k. Counts p s (rules_up_to (count + 1)) k (cond b n (n + 1)) in
    let N : ℕ → Type 0 = λ k. Counts p s (rules_up_to (count + 1)) r' k in
    subst N (sym is_n) (subst R (sym is_r) (subst A (sym (rules_more count)) (push p s (rules_up_to count) r n (Rule count) b tells counts)))

-- and the default
pub default_counted : (p : Typed) (s : Settings) (count r n r' n' : ℕ) (b : Bool) → Tells p s Default b → Counts p s (rules_up_to count) r n → r' ≡ cond b (r + 1) r → n' ≡ cond b n (n + 1) → Counts p s (targets_of count) r' n'
unfolding targets_of
default_counted p s count r n r' n' b tells counts is_r is_n =
    let R : ℕ → Type 0 = λ k. Counts p s (rules_up_to count ++ Default ∷ []) k (cond b n (n + 1)) in
    let N : ℕ → Type 0 = λ k. Counts p s (rules_up_to count ++ Default ∷ []) r' k in
    subst N (sym is_n) (subst R (sym is_r) (push p s (rules_up_to count) r n Default b tells counts))

pub one_counted : (b : Bool) (r n r' n' : ℕ) → r' ≡ cond b (r + 1) r → n' ≡ cond b n (n + 1) → r' + n' ≡ r + n + 1
one_counted true r n r' n' is_r is_n = omega arith
one_counted false r n r' n' is_r is_n = omega arith

-- A payment that satisfies the problem of a target reaches it.
pub reach_tells : (p : Typed) (s : Settings) (table : Table) (connectors : ConnectorGraph) (target : decided.Choice) (problem : Problem) (payment : Entries) → p.table ≡ table → IsGraphOf table s connectors → IsMetWhere p connectors target problem
    → sat table problem payment ≡ true → Tells p s target true
reach_tells p s table connectors target problem payment same graph met satisfies =
    let P : Table → Type 0 = λ t. IsGraphOf t s connectors → sat t problem payment ≡ true → Tells p s target true in
    subst P same
    (λ graph satisfies.
    let comes = (met payment).0 satisfies in
    (payment, record { legal = comes.legal; taken = sym (graph.goal_holds payment) ∙ comes.goal_holds; decides = comes.chosen })) graph satisfies

-- Where a certificate proves on the problem, no payment does.
pub never_tells : (p : Typed) (s : Settings) (table : Table) (connectors : ConnectorGraph) (target : decided.Choice) (problem : Problem) (certificate : Certificate) → ProofLaw → p.table ≡ table → IsGraphOf table s connectors
    → IsMetWhere p connectors target problem → problem_fits p.table problem ≡ true → Proves table problem certificate → Tells p s target false
never_tells p s table connectors target problem certificate law same graph met fits proves =
    let P : Table → Type 0 = λ t. IsGraphOf t s connectors → Proves t problem certificate → Tells p s target false in
    subst P same
    (λ graph proves payment reaches.
    let satisfies = (met payment).1 (record { legal = reaches.legal; goal_holds = graph.goal_holds payment ∙ reaches.taken; chosen = reaches.decides }) in
    false≢true (sym (law p.table problem certificate payment fits proves) ∙ satisfies)) graph proves

-- The budget is enough for a small problem.
pub none_spent : TraceLaw → (p : Typed) (table : Table) (problem : Problem) (trace : Trace) → p.table ≡ table → problem_fits p.table problem ≡ true → length problem.atoms ≤ 11 → IsTrace table problem 65536 trace → ⊥
none_spent law p table problem trace same fits few spent =
    let P : Table → Type 0 = λ t. problem_fits t problem ≡ true in
    let low = law table problem 65536 trace (subst P same fits) spent in
    let high = pow-le-pow_right {n = 2} (omega arith) few in
    omega arith

-- what targets are of, by what they were made of
pub aims_are : (a : Aims) (p q : Typed) (connectors : ConnectorGraph) → a ≡ aims q connectors → q ≡ p → a ≡ aims p connectors
aims_are a p q connectors made same = made ∙ ap (λ r. aims r connectors) same

-- the problems of a sample's targets are small
pub sample_small : SmallLaw → (seed : ℕ) (table : Table) (p : Typed) (s : Settings) → table ≡ built_in → p ≡ sample seed → s ≡ settings → (connectors : ConnectorGraph) → IsGraphOf table s connectors → AreSmall (aims p connectors)
sample_small law seed table p s is_table is_p is_s connectors graph =
    let P : Typed → Type 0 = λ q. AreSmall (aims q connectors) in
    let G : Table → Type 0 = λ t. IsGraphOf t s connectors in
    let H : Settings → Type 0 = λ x. IsGraphOf built_in x connectors in
    subst P (sym is_p) (λ target problem of. law seed connectors target problem (subst H is_s (subst G is_table graph)) of)

targets_count : length (targets_of 256) ≡ 257
unfolding targets_of
targets_count = refl

-- the answer of a seed
pub summarized : (seed : ℕ) (p : Typed) (s : Settings) (r n : ℕ) (text : List ℕ) (v : Verdict) → p ≡ sample seed → s ≡ settings → Counts p s (targets_of 256) r n → text ≡ summary seed r n → v ≡ verdict.Done → Summarized seed text v
summarized seed p s r n text v is_p is_s counts is_text is_v =
    let P : Typed → Type 0 = λ q. Counts q s (targets_of 256) r n in
    let S : Settings → Type 0 = λ x. Counts (sample seed) x (targets_of 256) r n in
    record { reached = r; never = n; counts = subst S is_s (subst P is_p counts); all = counts_all p s (targets_of 256) r n counts ∙ targets_count; same_text = is_text; done = is_v }

-- what is written of a seed's program reads back
pub reads_back : (r : Result (List ℕ) NoMemory) (seed : ℕ) (p : Program) → IsWithinLimits (program seed) → p ≡ program seed → IfOk r (λ t. IsWithinLimits p → program_file t ≡ Ok p) → IfOk r (λ t. program_file t ≡ Ok (program seed))
reads_back (Ok t) seed p within same reads = let P : Program → Type 0 = λ q. IsWithinLimits q → program_file t ≡ Ok q in subst P same reads within
reads_back (Err e) seed p within same reads = tt
