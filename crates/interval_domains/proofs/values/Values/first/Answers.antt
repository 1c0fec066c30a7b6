use Rattle.interval_domains.proofs.ValueLemmas.{first_other}
use Rattle.interval_domains.proofs.values.Values.first.Goals as goal

pub returns-in_ok-long-in-OtherTexts : goal.returns-in_ok-long-in-OtherTexts
returns-in_ok-long-in-OtherTexts c = first_other c.args.self.now c.in-OtherTexts.texts _ c.in-OtherTexts.is c.long.ensures.other c.in_ok-long-in-OtherTexts.ensures.text
