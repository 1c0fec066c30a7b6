use Rattle.key_table.proofs.UnderKeys.{starts_after, starts_from}
use Rattle.key_table.proofs.payment.first_place.Goals as goal

-- what goes on from the place stands after the key's slot with no sub name
pub returns-in-Err-clause-from : goal.returns-in-Err-clause-from
returns-in-Err-clause-from c = starts_from c.args.key c.args.entries.now c.in-Err.place (starts_after c.args.key _ c.in-Err.ensures.after)
