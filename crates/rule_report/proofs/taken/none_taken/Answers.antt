use Rattle.std.proofs.Common.{rules}
use Rattle.rule_report.proofs.TakenLemmas.{taking_none}
use Rattle.rule_report.proofs.taken.none_taken.Goals as goal

pub returns-clause-taken : goal.returns-clause-taken
returns-clause-taken c = taking_none c.args.shared.now _ c.requires c.new.ensures (c.in_ok-numbers.ensures.items_if_clones_equal (λ y is. search rules))
