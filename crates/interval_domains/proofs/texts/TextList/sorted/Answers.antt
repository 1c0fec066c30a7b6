use Rattle.std.proofs.Common.{ℕ, List, bytes_eq, ap, sym, ◌∙◌, subst}
use Rattle.std.proofs.lemmas.Cmp.{nat_list_cmp_total}
use Rattle.std.proofs.lemmas.Map.Text.{is_eq-slice_cmp}
use Rattle.std.proofs.lemmas.List.Filters.{dedup_is, All-dedup}
use Rattle.std.proofs.lemmas.List.Kept.{IsStrictlySortedBy-dedup}
use Rattle.std.proofs.lemmas.List.Sorted.{All-permutation, list_any-IsPermutation}
use Rattle.interval_domains.specs.TextLists.{has_text, IsShort, AreListed}
use Rattle.interval_domains.proofs.TextLemmas.{has_text-dedup}
use Rattle.interval_domains.proofs.texts.TextList.sorted.Goals as goal

pub invariant_of-result : goal.invariant_of-result
invariant_of-result c =
    let is = dedup_is _ _ _ c.dedup.ensures.filtered in
    let P : List (List ℕ) → Type 0 = λ texts. AreListed texts in
    subst P (sym is) (record {
      short = All-dedup bytes_eq IsShort _ (All-permutation IsShort _ _ c.sort_unstable.ensures.permutation c.requires);
      ascending = IsStrictlySortedBy-dedup nat_list_cmp_total (λ x y. sym (is_eq-slice_cmp x y)) _ c.sort_unstable.ensures.sorted;
    })

pub returns : goal.returns
returns c = λ t.
    ap (λ (texts : List (List ℕ)). has_text texts t) (dedup_is _ _ _ c.dedup.ensures.filtered)
    ∙ has_text-dedup _ t
    ∙ sym (list_any-IsPermutation (bytes_eq t) _ _ c.sort_unstable.ensures.permutation)
