use Rattle.std.proofs.Common.{arith}
use Rattle.std.proofs.lemmas.Grind.{common_steps}
use Rattle.connector_settings.proofs.Walks.{accepted_is}
use Rattle.connector_settings.proofs.walk.accepts.Goals as goal

pub returns-then-lacks_excluded : goal.returns-then-lacks_excluded
returns-then-lacks_excluded c =
    let parts = accepted_is c.args.payment.now c.args.keys c.args.method c.args.entry.now in
    grind (arith, common_steps)

pub returns-else-lacks_excluded : goal.returns-else-lacks_excluded
returns-else-lacks_excluded c =
    let parts = accepted_is c.args.payment.now c.args.keys c.args.method c.args.entry.now in
    grind (arith, common_steps)
