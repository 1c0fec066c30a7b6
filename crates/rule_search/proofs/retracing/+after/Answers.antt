use Rattle.std.proofs.Common.{◌<◌, length, refl, arith}
use Rattle.key_table.specs.declared.atom.Atom.{Atom}
use Rattle.key_table.specs.declared.atom.Verdict3.TheVariants.{Undecided}
use Rattle.key_table.specs.Contexts.{HasVerdict}
use Rattle.domain_store.specs.Stores.{context_of}
use Rattle.rule_search.proofs.Quantifiers.{some_item}
use Rattle.rule_search.proofs.Retraces.{sides_prove, reason_proves}
use Rattle.rule_search.proofs.retracing.+after.Goals as goal

pub after-returns-in-Some-clause-proves : goal.after-returns-in-Some-clause-proves
after-returns-in-Some-clause-proves t c =
    let within : c.args.at < length c.args.items.now = omega arith in
    let item = some_item (λ (a : Atom). HasVerdict c.args.store.now.table (context_of c.args.store.now) a Undecided) _ (c.is_undecided.ensures.undecided c.if-is_undecided.true) in
    sides_prove c.atom_law.ensures c.context_law.ensures c.args.store.now c.side.new.store c.in_ok-middle-in-Split.ensures.store
    c.args.items.now c.args.at c.in-Some.middle c.in-Split.atom _ item.0 c.in_ok-middle-in-Split.field-0 c.side-in-Some.result within c.in-Split.is item.1 c.in-Some.is c.in_ok-middle-in-Split.ensures.proves c.side-in-Some.ensures.proves

pub after-returns-then-branch-clause-proves : goal.after-returns-then-branch-clause-proves
after-returns-then-branch-clause-proves t c =
    let within : c.args.at < length c.args.items.now = omega arith in
    reason_proves c.args.store.now c.args.items.now c.args.at _ _ within refl (c.in_ok-holds-in_default.ensures c.if-branch.true)
