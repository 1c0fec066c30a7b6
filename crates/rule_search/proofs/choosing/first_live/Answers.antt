use Rattle.std.proofs.Common.{length, subst, ap, ◌∙◌, ◌≤◌, List}
use Rattle.key_table.specs.declared.atom.Atom.{Atom}
use Rattle.rule_problem.specs.declared.problem.Problem.{Problem}
use Rattle.domain_store.specs.Stores.{context_of}
use Rattle.rule_search.proofs.Choices.{none_live}
use Rattle.rule_search.proofs.choosing.first_live.Goals as goal

pub unreachable-requires : goal.unreachable-requires
unreachable-requires c =
    let all : length c.args.store.now.problem.atoms ≤ c.loop-atom.atom = subst (λ (atoms : List Atom). length atoms ≤ c.loop-atom.atom) (c.as_slice.ensures ∙ ap (λ (p : Problem). p.atoms) c.problem.ensures.value) c.loop-atom-test.false in
    c.live_law.ensures.some c.args.store.now.table c.args.store.now.problem (context_of c.args.store.now) c.problem.ensures.fits c.requires.is_open
    (none_live c.args.store.now c.loop-atom.atom (c.fits_law.ensures.graph c.args.store.now.table c.args.store.now.problem c.problem.ensures.fits) all c.loop-atom.invariant)
