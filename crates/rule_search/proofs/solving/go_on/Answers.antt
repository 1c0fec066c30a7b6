use Rattle.std.proofs.Common.{refl, subst}
use Rattle.rule_search.specs.declared.judging.Standing.{Standing}
use Rattle.rule_search.specs.Standings.{Stands}
use Rattle.rule_search.proofs.Joins.{closed_refutes}
use Rattle.rule_search.proofs.solving.go_on.Goals as goal

pub returns-in_ok-push-in-Closed : goal.returns-in_ok-push-in-Closed
returns-in_ok-push-in-Closed c =
    (refl, closed_refutes c.args.store.now c.args.budget c.in-Closed.item c.args.work.now.items.items c.push.new.self.items (subst (λ (s : Standing). Stands c.args.store.now s) c.in-Closed.is c.in_ok-item.ensures.stands) c.in_ok-push-in-Closed.ensures.items)
