use Rattle.std.proofs.Common.{ap, ◌∙◌, sym, subst, List}
use Rattle.rule_problem.specs.declared.certificate.Item.{Item}
use Rattle.rule_problem.specs.declared.problem.Literal.{Literal}
use Rattle.rule_problem.specs.declared.problem.Problem.{Problem}
use Rattle.rule_problem.specs.Literals.{AreEntailed, AreRefuted}
use Rattle.domain_store.specs.Stores.{context_of}
use Rattle.rule_search.specs.Retracing.{IsReason}
use Rattle.rule_search.proofs.Quantifiers.{got}
use Rattle.rule_search.proofs.Retraces.{want_reason, bar_reason}
use Rattle.rule_search.proofs.retracing.holds.Goals as goal

pub returns-in-Some : goal.returns-in-Some
returns-in-Some c = λ refuted.
    let at = got c.args.store.now.problem.wants c.as_slice.result.now c.in-Want.number c.in-Some.paths.now c.in-Some.ensures.lookup.0 c.in-Some.ensures.lookup.1 (c.as_slice.ensures ∙ ap (λ (p : Problem). p.wants) c.problem-problem.ensures.value) in
    let h = subst (λ (l : List (List Literal)). AreRefuted c.args.store.now.table (context_of c.args.store.now) c.args.store.now.problem.atoms l) c.as_slice-in-Some.ensures (c.are_refuted.ensures refuted) in
    subst (λ (i : Item). IsReason c.args.store.now i) (sym c.in-Want.is) (want_reason c.args.store.now c.in-Want.number c.in-Some.paths.now at h)

pub returns-in-Some-get : goal.returns-in-Some-get
returns-in-Some-get c = λ entailed.
    let at = got c.args.store.now.problem.bars c.as_slice-in-Bar.result.now c.in-Bar.number c.in-Some-get.bar.now c.in-Some-get.ensures.lookup.0 c.in-Some-get.ensures.lookup.1 (c.as_slice-in-Bar.ensures ∙ ap (λ (p : Problem). p.bars) c.problem-problem.ensures.value) in
    let h = subst (λ (l : List Literal). AreEntailed c.args.store.now.table (context_of c.args.store.now) c.args.store.now.problem.atoms l) c.as_slice-in-Some-get.ensures (c.is_entailed.ensures entailed) in
    subst (λ (i : Item). IsReason c.args.store.now i) (sym c.in-Bar.is) (bar_reason c.args.store.now c.in-Bar.number c.in-Some-get.bar.now at h)
