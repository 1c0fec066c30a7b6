use Rattle.std.proofs.Common.{◌≡◌, ℤ, int_cmp, List, FitsSigned, ap, sym, ◌∙◌, subst, rules}
use Rattle.std.specs.List.{list_any}
use mir.Syntax.{w64}
use Rattle.key_table.specs.declared.slot.Datum.TheVariants.{Number}
use Rattle.key_table.specs.Atoms.{test_holds}
use Rattle.std.specs.List.Sorted.{IsSortedByKey}
use Rattle.std.proofs.lemmas.List.Elements.{All-same}
use Rattle.std.proofs.lemmas.List.Sorted.{All-permutation, list_any-IsPermutation, answers_always}
use Rattle.interval_domains.specs.declared.interval.Interval.{Interval}
use Rattle.interval_domains.specs.Intervals.{within, has_number, IsInterval}
use Rattle.interval_domains.proofs.Steps.{ok_then}
use Rattle.interval_domains.proofs.intervals.Intervals.of_tests.Goals as goal

pub joined_pieces-requires-clause-filled : goal.joined_pieces-requires-clause-filled
joined_pieces-requires-clause-filled c =
    All-same IsInterval _ _ c.deref.ensures.value (All-permutation IsInterval _ _ c.sort_unstable_by_key.ensures.permutation c.in_ok-pieces.ensures.filled)

pub joined_pieces-requires-clause-sorted : goal.joined_pieces-requires-clause-sorted
joined_pieces-requires-clause-sorted c =
    let P : List Interval → Type 0 = λ xs. IsSortedByKey (λ (i : Interval). i.first) int_cmp xs in
    subst P (sym c.deref.ensures.value) (c.sort_unstable_by_key.ensures.sorted (λ (i : Interval). i.first) (answers_always _ _ _ (λ f a r g h. search rules)))

pub returns : goal.returns
returns c =
    let P : List Interval → Type 0 = λ is. (x : ℤ) → has_number is x ≡ has_number c.deref.result.now x in
    let Q : List Interval → Type 0 = λ is. (x : ℤ) → FitsSigned w64 x → has_number is x ≡ list_any (test_holds (Number x)) c.args.tests.now in
    ok_then P Q _ c.joined_pieces.ensures (λ is numbers x fits.
    numbers x
    ∙ ap (λ (xs : List Interval). has_number xs x) c.deref.ensures.value
    ∙ sym (list_any-IsPermutation (within x) _ _ c.sort_unstable_by_key.ensures.permutation)
    ∙ c.in_ok-pieces.ensures.numbers x fits)
