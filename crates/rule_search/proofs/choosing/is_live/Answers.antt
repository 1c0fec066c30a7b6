use Rattle.std.proofs.Common.{◌∙◌, ap, sym, not, true, false}
use Rattle.std.proofs.lemmas.Bool.{and_parts, and_from}
use Rattle.rule_problem.specs.declared.problem.Problem.{Problem}
use Rattle.domain_store.specs.Stores.{context_of}
use Rattle.rule_problem.specs.Open.{IsLive}
use Rattle.rule_search.specs.Told.{is_forced}
use Rattle.rule_search.proofs.Quantifiers.{got, got_none, some_at}
use Rattle.rule_search.proofs.Choices.{undecided_yes, undecided_back, live_here}
use Rattle.rule_search.proofs.choosing.is_live.Goals as goal

pub returns-then-is_undecided-clause-live : goal.returns-then-is_undecided-clause-live
returns-then-is_undecided-clause-live c = λ told.
    let there = got c.args.store.now.problem.atoms c.as_slice.result.now c.args.number c.in-Some.atom.now c.in-Some.ensures.lookup.0 c.in-Some.ensures.lookup.1 (c.as_slice.ensures ∙ ap (λ (p : Problem). p.atoms) c.problem.ensures.value) in
    let both = and_parts (not (is_forced c.args.verdicts.now c.args.number true)) (not (is_forced c.args.verdicts.now c.args.number false)) (sym c.is_undecided.ensures ∙ c.if-is_undecided.true) in
    live_here c.args.store.now c.args.verdicts.now c.requires.verdicts c.requires.numbered c.args.number c.in-Some.atom.now there (record {
      undecided = undecided_yes c.args.store.now c.args.verdicts.now c.requires.verdicts c.requires.numbered c.args.number c.in-Some.atom.now there both.0 both.1;
      matters = c.matters.ensures.yes told;
    })

pub returns-then-is_undecided-clause-dead : goal.returns-then-is_undecided-clause-dead
returns-then-is_undecided-clause-dead c = λ live.
    let there = got c.args.store.now.problem.atoms c.as_slice.result.now c.args.number c.in-Some.atom.now c.in-Some.ensures.lookup.0 c.in-Some.ensures.lookup.1 (c.as_slice.ensures ∙ ap (λ (p : Problem). p.atoms) c.problem.ensures.value) in
    let l = some_at (IsLive c.args.store.now.table c.args.store.now.problem (context_of c.args.store.now)) _ c.in-Some.atom.now there live in
    c.matters.ensures.no l.matters

pub returns-else-is_undecided-clause-dead : goal.returns-else-is_undecided-clause-dead
returns-else-is_undecided-clause-dead c = λ live.
    let there = got c.args.store.now.problem.atoms c.as_slice.result.now c.args.number c.in-Some.atom.now c.in-Some.ensures.lookup.0 c.in-Some.ensures.lookup.1 (c.as_slice.ensures ∙ ap (λ (p : Problem). p.atoms) c.problem.ensures.value) in
    let l = some_at (IsLive c.args.store.now.table c.args.store.now.problem (context_of c.args.store.now)) _ c.in-Some.atom.now there live in
    let both = undecided_back c.args.store.now c.args.verdicts.now c.requires.verdicts c.requires.numbered c.args.number c.in-Some.atom.now there l.undecided in
    c.is_undecided.ensures ∙ and_from (not (is_forced c.args.verdicts.now c.args.number true)) (not (is_forced c.args.verdicts.now c.args.number false)) both.0 both.1

pub returns-in-None-clause-dead : goal.returns-in-None-clause-dead
returns-in-None-clause-dead c = λ live.
    absurd (got_none (IsLive c.args.store.now.table c.args.store.now.problem (context_of c.args.store.now)) c.args.store.now.problem.atoms c.as_slice.result.now c.args.number c.in-None.ensures.lookup.3 (c.as_slice.ensures ∙ ap (λ (p : Problem). p.atoms) c.problem.ensures.value) live)
