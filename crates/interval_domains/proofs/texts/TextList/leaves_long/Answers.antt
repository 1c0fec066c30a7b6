use Rattle.std.proofs.Common.{◌≡◌, ℕ, List, true, subst}
use Rattle.interval_domains.specs.TextLists.{is_other_text}
use Rattle.interval_domains.specs.Picks.{long_text}
use Rattle.interval_domains.proofs.ValueLemmas.{long_is_other}
use Rattle.interval_domains.proofs.texts.TextList.leaves_long.Goals as goal

pub returns-clause-long : goal.returns-clause-long
returns-clause-long c =
    let P : List (List ℕ) → Type 0 = λ texts. is_other_text texts long_text ≡ true in
    subst P c.self.view_is (long_is_other c.self.inside.texts.items c.self.invariant.short)
