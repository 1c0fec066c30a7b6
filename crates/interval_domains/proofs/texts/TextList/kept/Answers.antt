use Rattle.std.proofs.Common.{ℕ, Bool, List, nat_cmp, ◌&&◌, ap, sym, ◌∙◌, subst}
use Rattle.std.specs.Bool.{beq}
use Rattle.std.specs.List.{filter}
use Rattle.std.specs.Cmp.Lexicographic.{slice_cmp}
use Rattle.std.proofs.lemmas.List.Elements.{All-filter}
use Rattle.std.proofs.lemmas.List.Kept.{IsStrictlySortedBy-filter}
use Rattle.interval_domains.specs.TextLists.{has_text, IsShort, AreListed}
use Rattle.interval_domains.proofs.TextLemmas.{has_text-filter}
use Rattle.interval_domains.proofs.texts.TextList.kept.Goals as goal

-- what is kept stays in order
listed_filter : (p : List ℕ → Bool) (texts : List (List ℕ)) → AreListed texts → AreListed (filter p texts)
listed_filter p texts h = record {
  short = All-filter p IsShort texts h.short;
  ascending = IsStrictlySortedBy-filter (slice_cmp nat_cmp) p texts h.ascending;
}

pub invariant_of-result : goal.invariant_of-result
invariant_of-result c =
    let p = λ (t : List ℕ). beq (has_text c.args.other.now t) c.args.inside in
    let P : List (List ℕ) → Type 0 = λ texts. AreListed texts in
    let Q : List (List ℕ) → Type 0 = λ texts. AreListed (filter p texts) in
    subst P (sym c.in_ok-texts.ensures) (subst Q (sym c.deref.ensures.value) (listed_filter p c.self.inside.texts.items c.self.invariant))

pub returns-clause-texts : goal.returns-clause-texts
returns-clause-texts c = λ t.
    let p = λ (t : List ℕ). beq (has_text c.args.other.now t) c.args.inside in
    ap (λ (texts : List (List ℕ)). has_text texts t) c.in_ok-texts.ensures
    ∙ has_text-filter p c.deref.result.now t
    ∙ ap (λ (texts : List (List ℕ)). has_text texts t && p t) (c.deref.ensures.value ∙ c.self.view_is)
