use Rattle.std.proofs.Common.{ℕ, List, not, ◌&&◌, subst}
use Rattle.std.specs.List.{list_any}
use Rattle.key_table.specs.declared.slot.Datum.TheVariants as datum
use Rattle.key_table.specs.Atoms.{test_holds}
use Rattle.interval_domains.specs.TextLists.{has_text}
use Rattle.interval_domains.specs.Finding.{Tells}
use Rattle.interval_domains.proofs.FindingLemmas.{tells_same}
use Rattle.interval_domains.proofs.TextLemmas.{tells_text}
use Rattle.interval_domains.proofs.texts.TextList.has_failing.Goals as goal

pub returns : goal.returns
returns c =
    let test = λ (t : List ℕ). not (list_any (test_holds (datum.Text t)) c.args.tests.now) in
    let P : List (List ℕ) → Type 0 = λ texts. Tells (λ t. has_text texts t && test t) c.any_unnamed.result in
    subst P c.self.view_is (subst P c.deref.ensures.value (tells_same (λ t. has_text c.deref.result.now t && test t) _ _ c.any_unnamed.ensures (tells_text test c.deref.result.now)))
