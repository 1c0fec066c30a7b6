use Rattle.std.proofs.Common.{ap, ◌∙◌, refl}
use Rattle.std.specs.Option.{is_some}
use Rattle.interval_domains.proofs.ValueLemmas.{tells_of, some_variant, some_number, some_text, some_other, copied_some}
use Rattle.interval_domains.proofs.values.Values.has_some.Goals as goal

pub returns-in-Variants : goal.returns-in-Variants
returns-in-Variants c = tells_of c.args.self.now _ _ _ c.in-Variants.is c.is_some.ensures (some_variant c.in-Variants.set c.first.result c.first.ensures)

pub returns-in-Numbers : goal.returns-in-Numbers
returns-in-Numbers c = tells_of c.args.self.now _ _ _ c.in-Numbers.is c.is_some-in-Numbers.ensures (some_number c.in-Numbers.set c.first-in-Numbers.result c.first-in-Numbers.ensures)

pub returns-in-Texts : goal.returns-in-Texts
returns-in-Texts c = tells_of c.args.self.now _ _ _ c.in-Texts.is (c.is_some-in-Texts.ensures ∙ copied_some c.first-in-Texts.result ∙ ap is_some c.first-in-Texts.ensures.first) (some_text c.in-Texts.texts)

pub returns-in-OtherTexts : goal.returns-in-OtherTexts
returns-in-OtherTexts c = tells_of c.args.self.now _ _ _ c.in-OtherTexts.is refl (some_other c.in-OtherTexts.texts _ c.leaves_long.ensures.yes c.leaves_long.ensures.long)
