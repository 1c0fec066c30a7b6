use Rattle.std.proofs.Common.{◌∙◌, refl}
use Rattle.interval_domains.specs.Picks.{long_text}
use Rattle.interval_domains.proofs.texts.TextList.long.Goals as goal

pub returns-clause-text : goal.returns-clause-text
unfolding long_text
returns-clause-text c = c.from.ensures ∙ c.in_ok-repeat.ensures.bytes ∙ refl
