use Rattle.interval_domains.proofs.ValueLemmas.{failing_other}
use Rattle.interval_domains.proofs.values.Values.has_failing.Goals as goal

pub returns-in-OtherTexts : goal.returns-in-OtherTexts
returns-in-OtherTexts c = failing_other c.args.self.now c.in-OtherTexts.texts c.args.tests.now _ c.in-OtherTexts.is c.requires c.leaves_long.ensures.long c.leaves_long.ensures.yes
