use Rattle.std.proofs.Common.{ℕ, List, nat_cmp, ap, sym, ◌∙◌, subst}
use Rattle.std.specs.Cmp.Lexicographic.{slice_cmp}
use Rattle.std.specs.List.Sorted.{IsSorted}
use Rattle.interval_domains.specs.TextLists.{has_text}
use Rattle.interval_domains.proofs.TextLemmas.{searched_text, in_order}
use Rattle.interval_domains.proofs.texts.TextList.has.Goals as goal

pub returns : goal.returns
returns c =
    let t : List ℕ = c.args.text.now in
    let facts = c.binary_search.ensures in
    let P : List (List ℕ) → Type 0 = λ texts. IsSorted (slice_cmp nat_cmp) texts in
    c.is_ok.ensures.value
    ∙ searched_text c.deref.result.now t _ (subst P (sym c.deref.ensures.value) (in_order _ c.self.invariant.ascending)) facts.bound facts.position
    ∙ ap (λ (texts : List (List ℕ)). has_text texts t) (c.deref.ensures.value ∙ c.self.view_is)
