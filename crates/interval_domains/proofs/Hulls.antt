-- Where intervals lie from a number, and from which least to which greatest number a list of them goes.
use Rattle.std.proofs.Common.{◌≡◌, ℕ, zero, suc, ◌+◌, ◌<◌, ◌≤◌, ℤ, pos, ◌+ℤ◌, ◌≤ℤ◌, ◌<ℤ◌, List, [], ◌∷◌, ◌++◌, length, get_or, take, Bool, true, false, cond, ◌&&◌, ◌||◌, Some, Result, Ok, Err, Ordering, Less, Equal, Greater, inl, inr, refl, ap, sym, ◌∙◌, subst, arith}
use Rattle.std.specs.Int.RustNames.{int_lt}
use Rattle.std.specs.Ordering.{ordering_index}
use Rattle.std.specs.Result.{is_ok}
use Rattle.std.specs.List.{AllByRecursion}
use Rattle.std.specs.List.Sorted.{IsNonDecreasingBy, IsSearchInRange, IsBinarySearchResult}
use Rattle.std.proofs.lemmas.Int.{ints, by_lt_z}
use Rattle.std.proofs.lemmas.Bool.{false≢true, and_from, cases_lt}
use Rattle.std.proofs.lemmas.List.Folds.{list_any_at, list_any_none}
use Rattle.key_table.specs.declared.atom.Op.{Op}
use Rattle.key_table.specs.declared.atom.Op.TheVariants as op
use Rattle.key_table.specs.Atoms.{relates}
use Rattle.interval_domains.specs.declared.interval.Interval.{Interval}
use Rattle.interval_domains.specs.Intervals.{within, side, has_number, IsInterval, AreApart, IsHull}
use Rattle.interval_domains.specs.Finding.{Tells}
use Rattle.interval_domains.proofs.IntervalLemmas.{each-weaker, end_of, apart_last, least_first, has_push, none_before}

-- ---- intervals at their places

each-at : {X : Type 0} (P : X → Type 0) (xs : List X) (k : ℕ) (d : X) → AllByRecursion P xs → k < length xs → P (get_or xs k d)
each-at P [] k d h lt = absurd (omega arith)
each-at P (x ∷ xs) zero d h lt = h.0
each-at P (x ∷ xs) (suc k) d h lt = each-at P xs k d h.1 (omega arith)

pub interval_at : (is : List Interval) (k : ℕ) (d : Interval) → AreApart is → k < length is → IsInterval (get_or is k d)
interval_at [] k d apart lt = absurd (omega arith)
interval_at (i ∷ is) zero d apart lt = apart.0
interval_at (i ∷ is) (suc k) d apart lt = interval_at is k d apart.2 (omega arith)

-- an interval ends before the one that is at a later place begins
apart_at : (is : List Interval) (j k : ℕ) (d : Interval) → AreApart is → j < k → k < length is → ((get_or is j d).last +ℤ pos 1) <ℤ (get_or is k d).first
apart_at [] j k d apart lt within = absurd (omega arith)
apart_at (i ∷ is) j zero d apart lt within = absurd (omega arith)
apart_at (i ∷ is) zero (suc k) d apart lt within = each-at (λ (j : Interval). (i.last +ℤ pos 1) <ℤ j.first) is k d apart.1 (omega arith)
apart_at (i ∷ is) (suc j) (suc k) d apart lt within = apart_at is j k d apart.2 (omega arith) (omega arith)

-- ---- the search for a number

index_most : (o : Ordering) → ordering_index o ≤ 2
index_most Less = omega arith
index_most Equal = omega arith
index_most Greater = omega arith

above : (x : ℤ) (a : Interval) → x <ℤ a.first → a.first ≤ℤ a.last → side x a ≡ Greater
above x a lt filled =
    let p : int_lt a.last x ≡ false = grind (arith, ints) in
    let q : int_lt x a.first ≡ true = grind (arith, ints) in
    ap (λ b. cond b Less (cond (int_lt x a.first) Greater Equal)) p ∙ ap (λ b. cond b Greater Equal) q

-- an interval after another lies no lower from a number
side_later : (x : ℤ) (a b : Interval) → b.first ≤ℤ b.last → (a.last +ℤ pos 1) <ℤ b.first → ordering_index (side x a) ≤ ordering_index (side x b)
side_later x a b filled past = by_lt_z {P = ordering_index (side x a) ≤ ordering_index (side x b)} a.last x
    (λ lt.
    let p : int_lt a.last x ≡ true = grind (arith, ints) in
    let low : side x a ≡ Less = ap (λ b. cond b Less (cond (int_lt x a.first) Greater Equal)) p in
    let zero_there : ordering_index (side x a) ≡ 0 = ap ordering_index low in
    omega (arith, zero_there))
    (λ le.
    let high : side x b ≡ Greater = above x b (omega (arith, ints)) filled in
    let two : ordering_index (side x b) ≡ 2 = ap ordering_index high in
    omega (arith, two, index_most (side x a)))

sides : (is : List Interval) (x : ℤ) → AreApart is → IsNonDecreasingBy (λ (i : Interval). ordering_index (side x i)) is
sides is x apart j k d le within =
    elim (cases_lt j k) [
      | inl before ↦ let filled = (interval_at is k d apart within).filled in side_later x (get_or is j d) (get_or is k d) filled (apart_at is j k d apart before within)
      | inr after ↦ let same : j ≡ k = omega arith in let P : ℕ → Type 0 = λ m. ordering_index (side x (get_or is j d)) ≤ ordering_index (side x (get_or is m d)) in subst P same (omega arith)
    ]

side_is : (p q : Bool) (a b : Bool) → a ≡ q → b ≡ p → cond p Less (cond q Greater Equal) ≡ Equal → (a ≡ false) × (b ≡ false)
side_is true q a b e f h = cc
side_is false true a b e f h = cc
side_is false false a b e f h = (e, f)

around : (x : ℤ) (a : Interval) → side x a ≡ Equal → within x a ≡ true
around x a h = let parts = side_is (int_lt a.last x) (int_lt x a.first) _ _ refl refl h in let low = parts.0 in let high = parts.1 in grind (arith, ints)

side_less : (p q : Bool) → cond p Less (cond q Greater Equal) ≡ Less → p ≡ true
side_less true q h = refl
side_less false true h = cc
side_less false false h = cc

side_greater : (p q : Bool) → cond p Less (cond q Greater Equal) ≡ Greater → q ≡ true
side_greater true q h = cc
side_greater false true h = refl
side_greater false false h = cc

not_below : (x : ℤ) (a : Interval) → side x a ≡ Less → within x a ≡ false
not_below x a h = let low = side_less (int_lt a.last x) (int_lt x a.first) h in grind (arith, ints)

not_above : (x : ℤ) (a : Interval) → side x a ≡ Greater → within x a ≡ false
not_above x a h = let high = side_greater (int_lt a.last x) (int_lt x a.first) h in grind (arith, ints)

none : Interval
none = record { first = pos 0; last = pos 0 }

-- a binary search tells whether a number is in a list that ascends
pub searched_number : (is : List Interval) (x : ℤ) (r : Result ℕ ℕ) → AreApart is → IsSearchInRange r (length is) → IsBinarySearchResult (λ (i : Interval). side x i) is r → is_ok r ≡ has_number is x
searched_number is x (Ok k) apart lt at = sym (list_any_at (within x) is k none lt (around x (get_or is k none) (at none)))
searched_number is x (Err k) apart lt at =
    let parted = at (sides is x apart) in
    sym (list_any_none (within x) is (λ j d there. elim (cases_lt j k) [
      | inl before ↦ not_below x (get_or is j d) (parted.0 j d (omega arith) before)
      | inr after ↦ not_above x (get_or is j d) (parted.1 j d after there)
    ]))

-- ---- the least number and the greatest

or_end_true : (p q : Bool) → q ≡ true → (p || q) ≡ true
or_end_true true q h = refl
or_end_true false q h = h

last_greatest : (is : List Interval) (t : Interval) → AreApart (is ++ t ∷ []) → (has_number (is ++ t ∷ []) t.last ≡ true) × ((x : ℤ) → has_number (is ++ t ∷ []) x ≡ true → x ≤ℤ t.last)
last_greatest is t apart =
    let top = apart_last is t apart in
    let filled = top.0.filled in
    let here : within t.last t ≡ true = grind (arith, ints) in (
      has_push is t t.last ∙ or_end_true (has_number is t.last) (within t.last t) here,
      λ x there. by_lt_z {P = x ≤ℤ t.last} t.last x
          (λ lt.
          let out : within x t ≡ false = grind (arith, ints) in
          let low : has_number is x ≡ false = none_before x x is (each-weaker (λ (i : Interval). (i.last +ℤ pos 1) <ℤ t.first) (λ (i : Interval). i.last <ℤ x) (λ i before. omega (arith, ints)) is top.1) (omega (arith, ints)) in
          absurd (false≢true (sym (has_push is t x ∙ ap (λ b. b || within x t) low ∙ out) ∙ there)))
          (λ le. le),
    )

first_least : (is : List Interval) (d : Interval) → AreApart is → 0 < length is → (has_number is (get_or is 0 d).first ≡ true) × ((x : ℤ) → has_number is x ≡ true → (get_or is 0 d).first ≤ℤ x)
first_least [] d apart some = absurd (omega arith)
first_least (i ∷ is) d apart some = let found = least_first (i ∷ is) i apart refl in (found.1, found.2)

same_place : {X : Type 0} (xs : List X) (k : ℕ) (d e : X) → k < length xs → get_or xs k d ≡ get_or xs k e
same_place [] k d e lt = absurd (omega arith)
same_place (x ∷ xs) zero d e lt = refl
same_place (x ∷ xs) (suc k) d e lt = same_place xs k d e (omega arith)

-- a list goes from the first number of its first interval to the last one of its last
pub hull_is : (is : List Interval) (k : ℕ) (d e h : Interval) → AreApart is → k + 1 ≡ length is → h ≡ record { first = (get_or is 0 d).first; last = (get_or is k e).last } → IsHull (has_number is) (Some h)
hull_is is k d e h apart len same =
    let t = get_or is k e in
    let parts : is ≡ take k is ++ t ∷ [] = end_of is k t len (same_place is k e t (omega arith)) in
    let P : List Interval → Type 0 = λ js. AreApart js in
    let Q : List Interval → Type 0 = λ js. (has_number js t.last ≡ true) × ((x : ℤ) → has_number js x ≡ true → x ≤ℤ t.last) in
    let great = subst Q (sym parts) (last_greatest (take k is) t (subst P parts apart)) in
    let least = first_least is d apart (omega arith) in
    let H : Interval → Type 0 = λ h. IsHull (has_number is) (Some h) in
    subst H (sym same) (least.0, great.0, λ x there. (least.1 x there, great.1 x there))

-- a relation other than to be equal, which neither end has, no number between them has
none_between : (o : Op) (n low high x : ℤ) → (o ≡ op.Equal → ⊥) → relates o low n ≡ false → relates o high n ≡ false → low ≤ℤ x → x ≤ℤ high → relates o x n ≡ false
none_between op.Equal n low high x other h k le le' = absurd (other refl)
none_between op.NotEqual n low high x other h k le le' = grind (arith, ints)
none_between op.Less n low high x other h k le le' = grind (arith, ints)
none_between op.LessEqual n low high x other h k le le' = grind (arith, ints)
none_between op.Greater n low high x other h k le le' = grind (arith, ints)
none_between op.GreaterEqual n low high x other h k le le' = grind (arith, ints)

pub ends_tell : (has : ℤ → Bool) (hull : Interval) (o : Op) (n : ℤ) → IsHull has (Some hull) → (o ≡ op.Equal → ⊥) → Tells (λ x. has x && relates o x n) (relates o hull.first n || relates o hull.last n)
ends_tell has hull o n is other =
    elim (relates o hull.first n) as (λ b. relates o hull.first n ≡ b → Tells (λ x. has x && relates o x n) (b || relates o hull.last n)) [
      | true ↦ (λ holds. (hull.first, and_from _ _ is.0 holds))
      | false ↦ (λ fails.
          elim (relates o hull.last n) as (λ b. relates o hull.last n ≡ b → Tells (λ x. has x && relates o x n) b) [
            | true ↦ (λ holds. (hull.last, and_from _ _ is.1 holds))
            | false ↦ (λ fails' x.
                elim (has x) as (λ b. has x ≡ b → (b && relates o x n) ≡ false) [
                  | true ↦ (λ there. let ends = is.2 x there in none_between o n hull.first hull.last x other fails fails' ends.0 ends.1)
                  | false ↦ (λ out. refl)
                ] refl)
          ] refl)
    ] refl
