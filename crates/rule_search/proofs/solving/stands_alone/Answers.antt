use Rattle.std.proofs.Common.{List, subst}
use Rattle.rule_problem.specs.declared.certificate.Item.{Item}
use Rattle.rule_search.specs.Retracing.{ProvesFrom}
use Rattle.rule_search.proofs.Retraces.{all_prove}
use Rattle.rule_search.proofs.solving.stands_alone.Goals as goal

pub returns-in-Some-clause-proves : goal.returns-in-Some-clause-proves
returns-in-Some-clause-proves c = λ _.
    subst (λ (items : List Item). ProvesFrom c.args.store.now items c.args.from) c.deref.ensures.value
    (all_prove c.args.store.now c.deref.result.now c.args.from c.in_ok-after.field-0 c.in-Some.field-0 c.in-Some.is c.in_ok-after.ensures.proves)
