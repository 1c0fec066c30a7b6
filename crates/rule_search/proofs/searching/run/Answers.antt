use Rattle.std.proofs.Common.{List, slice_get, ap, ◌∙◌, arith}
use Rattle.std.specs.List.{filter_map}
use Rattle.key_table.specs.declared.atom.Atom.{Atom}
use Rattle.rule_search.specs.Naming.{firsts, numbers_of}
use Rattle.rule_search.proofs.Joins.{never_at, spent_at}
use Rattle.rule_search.proofs.Reached.{begun_is, atoms_of_old, refuted_at, cut_at, reached_at, refuted, refuted_names, refuted_few, cut_short, cut_names, cut_few}
use Rattle.rule_search.proofs.searching.run.Goals as goal

pub returns-in-Reach-clause-report : goal.returns-in-Reach-clause-report
returns-in-Reach-clause-report c =
    reached_at c.settled_law.ensures c.payment_law.ensures.assumed c.args.store.now.table c.args.store.now.problem c.args.store.now c.solve.new.store c.args.budget c.new-items.result.items c.solve.new.work.items.items c.in_ok-payment-in-Reach.field-0 c.in_ok-solve.field-0 (begun_is c.args.store.now c.requires.begun) c.in-Reach.is c.in_ok-solve.ensures c.in_ok-payment-in-Reach.ensures

pub spelled-requires : goal.spelled-requires
spelled-requires c =
    let few = refuted_few c.args.store.now.table c.args.store.now.problem c.args.budget c.in-Never.field-0 c.deref.result.now
    (refuted_at c.args.store.now.table c.args.store.now.problem c.args.store.now c.solve.new.store c.args.budget c.in-Never.field-0 c.new-items.result.items c.solve.new.work.items.items c.deref.result.now c.in_ok-solve.field-0 (begun_is c.args.store.now c.requires.begun) c.new-items.ensures.items c.in-Never.is c.in_ok-solve.ensures c.deref.ensures.value) in
    record { few = omega (arith, few, c.ranges.budget.fits) }

pub returns-in-Never-clause-report : goal.returns-in-Never-clause-report
returns-in-Never-clause-report c =
    let same = (never_at c.args.store.now c.args.store.now c.solve.new.store c.args.budget c.new-items.result.items c.solve.new.work.items.items c.in_ok-solve.field-0 c.in-Never.field-0 c.in-Never.is c.in_ok-solve.ensures).0 in
    refuted c.atom_law.ensures c.reading_law.ensures.certificate c.args.store.now.table c.args.store.now.problem c.requires.numbered c.args.budget c.in-Never.field-0 c.deref.result.now c.in_ok-atoms-in-Never.atoms c.in_ok-atoms-in-Never.items
    (refuted_at c.args.store.now.table c.args.store.now.problem c.args.store.now c.solve.new.store c.args.budget c.in-Never.field-0 c.new-items.result.items c.solve.new.work.items.items c.deref.result.now c.in_ok-solve.field-0 (begun_is c.args.store.now c.requires.begun) c.new-items.ensures.items c.in-Never.is c.in_ok-solve.ensures c.deref.ensures.value)
    (c.in_ok-atoms-in-Never.ensures.atoms ∙ ap (λ (l : List Atom). filter_map (slice_get l) (firsts (numbers_of c.deref.result.now))) (atoms_of_old c.as_slice.result.now c.problem-problem.result.now c.solve.new.store c.args.store.now c.as_slice.ensures c.problem-problem.ensures.value same)) c.in_ok-atoms-in-Never.ensures.items

pub returns-in-Never-clause-named : goal.returns-in-Never-clause-named
returns-in-Never-clause-named c =
    let same = (never_at c.args.store.now c.args.store.now c.solve.new.store c.args.budget c.new-items.result.items c.solve.new.work.items.items c.in_ok-solve.field-0 c.in-Never.field-0 c.in-Never.is c.in_ok-solve.ensures).0 in
    refuted_names c.atom_law.ensures c.args.store.now.table c.args.store.now.problem c.requires.numbered c.args.budget c.in-Never.field-0 c.deref.result.now c.in_ok-atoms-in-Never.atoms
    (refuted_at c.args.store.now.table c.args.store.now.problem c.args.store.now c.solve.new.store c.args.budget c.in-Never.field-0 c.new-items.result.items c.solve.new.work.items.items c.deref.result.now c.in_ok-solve.field-0 (begun_is c.args.store.now c.requires.begun) c.new-items.ensures.items c.in-Never.is c.in_ok-solve.ensures c.deref.ensures.value)
    (c.in_ok-atoms-in-Never.ensures.atoms ∙ ap (λ (l : List Atom). filter_map (slice_get l) (firsts (numbers_of c.deref.result.now))) (atoms_of_old c.as_slice.result.now c.problem-problem.result.now c.solve.new.store c.args.store.now c.as_slice.ensures c.problem-problem.ensures.value same))

pub spelled-requires-in-Spent : goal.spelled-requires-in-Spent
spelled-requires-in-Spent c =
    let few = cut_few c.args.store.now.table c.args.store.now.problem c.args.budget c.deref-in-Spent.result.now
    (cut_at c.args.store.now.table c.args.store.now.problem c.args.store.now c.solve.new.store c.args.budget c.new-items.result.items c.solve.new.work.items.items c.deref-in-Spent.result.now c.in_ok-solve.field-0 (begun_is c.args.store.now c.requires.begun) c.new-items.ensures.items c.in-Spent.is c.in_ok-solve.ensures c.deref-in-Spent.ensures.value) in
    record { few = omega (arith, few, c.ranges.budget.fits) }

pub returns-clause-report : goal.returns-clause-report
returns-clause-report c =
    let same = (spent_at c.args.store.now c.args.store.now c.solve.new.store c.args.budget c.new-items.result.items c.solve.new.work.items.items c.in_ok-solve.field-0 c.in-Spent.is c.in_ok-solve.ensures).0 in
    cut_short c.atom_law.ensures c.args.store.now.table c.args.store.now.problem c.requires.numbered c.args.budget c.deref-in-Spent.result.now c.in_ok-atoms-in-Spent.atoms c.in_ok-atoms-in-Spent.items
    (cut_at c.args.store.now.table c.args.store.now.problem c.args.store.now c.solve.new.store c.args.budget c.new-items.result.items c.solve.new.work.items.items c.deref-in-Spent.result.now c.in_ok-solve.field-0 (begun_is c.args.store.now c.requires.begun) c.new-items.ensures.items c.in-Spent.is c.in_ok-solve.ensures c.deref-in-Spent.ensures.value)
    (c.in_ok-atoms-in-Spent.ensures.atoms ∙ ap (λ (l : List Atom). filter_map (slice_get l) (firsts (numbers_of c.deref-in-Spent.result.now))) (atoms_of_old c.as_slice-in-Spent.result.now c.problem-problem-in-Spent.result.now c.solve.new.store c.args.store.now c.as_slice-in-Spent.ensures c.problem-problem-in-Spent.ensures.value same)) c.in_ok-atoms-in-Spent.ensures.items

pub returns-clause-named : goal.returns-clause-named
returns-clause-named c =
    let same = (spent_at c.args.store.now c.args.store.now c.solve.new.store c.args.budget c.new-items.result.items c.solve.new.work.items.items c.in_ok-solve.field-0 c.in-Spent.is c.in_ok-solve.ensures).0 in
    cut_names c.atom_law.ensures c.args.store.now.table c.args.store.now.problem c.requires.numbered c.args.budget c.deref-in-Spent.result.now c.in_ok-atoms-in-Spent.atoms
    (cut_at c.args.store.now.table c.args.store.now.problem c.args.store.now c.solve.new.store c.args.budget c.new-items.result.items c.solve.new.work.items.items c.deref-in-Spent.result.now c.in_ok-solve.field-0 (begun_is c.args.store.now c.requires.begun) c.new-items.ensures.items c.in-Spent.is c.in_ok-solve.ensures c.deref-in-Spent.ensures.value)
    (c.in_ok-atoms-in-Spent.ensures.atoms ∙ ap (λ (l : List Atom). filter_map (slice_get l) (firsts (numbers_of c.deref-in-Spent.result.now))) (atoms_of_old c.as_slice-in-Spent.result.now c.problem-problem-in-Spent.result.now c.solve.new.store c.args.store.now c.as_slice-in-Spent.ensures c.problem-problem-in-Spent.ensures.value same))
