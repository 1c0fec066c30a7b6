use Rattle.std.proofs.Common.{◌≡◌, ◌∙◌, List, [], ◌∷◌, ap, length, length-append, arith}
use Rattle.key_table.specs.declared.atom.Verdict3.{Verdict3}
use Rattle.rule_problem.specs.declared.problem.Problem.{Problem}
use Rattle.rule_search.proofs.Telling.{told_more, told_all}
use Rattle.rule_search.proofs.verdicts.ask.Goals as goal

pub loop-atom-preserved : goal.loop-atom-preserved
loop-atom-preserved c =
    let grown = ap (λ (l : List Verdict3). length l) c.in_ok-push.ensures.items in
    let more = length-append c.loop-atom.verdicts.items (c.atom_verdict.result ∷ []) in
    record {
      count = omega (arith, grown, more, c.loop-atom.invariant.count);
      told = told_more c.left_law.ensures.options c.args.store.now c.assumptions-open.ensures.open c.loop-atom.verdicts.items c.push.new.self.items c.atom_verdict.result c.loop-atom.atom c.loop-atom.invariant.told c.loop-atom.invariant.count c.atom_verdict.ensures c.in_ok-push.ensures.items;
    }

pub returns : goal.returns
returns c =
    let all : length c.as_slice.result.now ≡ length c.args.store.now.problem.atoms = ap (λ l. length l) (c.as_slice.ensures ∙ ap (λ (p : Problem). p.atoms) c.problem.ensures.value) in
    told_all c.args.store.now c.loop-atom.verdicts.items (omega (arith, all, c.loop-atom.invariant.count, c.loop-atom-test.false, c.loop-atom.auto.atom-end)) c.loop-atom.invariant.told
