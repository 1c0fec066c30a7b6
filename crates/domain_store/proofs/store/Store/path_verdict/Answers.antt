use Rattle.std.proofs.Common.{◌≡◌, ◌+◌, false, get_or, take, sym, ◌∙◌, subst}
use Rattle.std.proofs.lemmas.List.{get_or_default}
use Rattle.key_table.specs.declared.atom.Verdict3.{Verdict3}
use Rattle.key_table.specs.declared.atom.Verdict3.TheVariants.{Refuted}
use Rattle.rule_problem.specs.declared.problem.Literal.{Literal}
use Rattle.domain_store.specs.Verdicts.{PathHasVerdict}
use Rattle.domain_store.proofs.PathLemmas.{path_next, path_stops, refuted_is}
use Rattle.domain_store.proofs.store.Store.path_verdict.Goals as goal

abbrev none : Literal
none = record { atom = 0; want = false }

pub loop-literal-preserved : goal.loop-literal-preserved
loop-literal-preserved c =
    let seen = c.args.self.now in
    let path = c.args.path.now in
    let i = c.loop-literal.literal-index in
    let l = get_or path i none in
    let P : Verdict3 → Type 0 = λ v. PathHasVerdict seen (take (i + 1) path) v in
    subst P (sym c.lesser-verdict.ensures)
    (path_next seen path i l c.loop-literal.verdict c.literal_verdict.result c.loop-literal-test.true (get_or_default path i none l c.loop-literal-test.true) c.loop-literal.invariant c.literal_verdict.ensures)

pub returns-then-eq : goal.returns-then-eq
returns-then-eq c =
    let seen = c.args.self.now in
    let path = c.args.path.now in
    let i = c.loop-literal.literal-index in
    let l = get_or path i none in
    let P : Verdict3 → Type 0 = λ v. PathHasVerdict seen (take (i + 1) path) v in
    let Q : Verdict3 → Type 0 = λ v. PathHasVerdict seen path v in
    let refuted : c.lesser-verdict.result ≡ Refuted = refuted_is c.lesser-verdict.result (sym c.eq.ensures ∙ c.if-eq.true) in
    subst Q (sym refuted) (path_stops seen path (i + 1) (subst P (sym c.lesser-verdict.ensures ∙ refuted)
    (path_next seen path i l c.loop-literal.verdict c.literal_verdict.result c.loop-literal-test.true (get_or_default path i none l c.loop-literal-test.true) c.loop-literal.invariant c.literal_verdict.ensures)))
