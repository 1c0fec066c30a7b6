use Rattle.std.proofs.Common.{◌≡◌, ◌==◌, true}
use Rattle.std.specs.List.{list_any}
use Rattle.rule_problem.specs.declared.certificate.Item.TheVariants.{Split}
use Rattle.rule_search.proofs.Names.{named_at}
use Rattle.rule_search.proofs.naming.renumbered.Goals as goal

pub with_number-requires-clause-named : goal.with_number-requires-clause-named
with_number-requires-clause-named c = named_at (λ x. list_any (λ y. x == y) c.args.numbers.now.keys ≡ true) c.args.items.now c.loop-item.item-index (Split 0) c.loop-item-test.true c.requires.named
