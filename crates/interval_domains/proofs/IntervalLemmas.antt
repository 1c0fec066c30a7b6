-- Lists of intervals that ascend.
use Rattle.std.proofs.Common.{◌≡◌, ℕ, zero, suc, ◌+◌, ◌<◌, ℤ, pos, ◌+ℤ◌, ◌≤ℤ◌, ◌<ℤ◌, List, [], ◌∷◌, ◌++◌, length, get_or, set, take, drop, FitsSigned, Bool, true, false, not, ◌&&◌, ◌||◌, Some, slice_get, inl, inr, refl, ap, sym, ◌∙◌, subst, arith}
use Rattle.std.specs.Int.{int_max, int_min}
use Rattle.std.specs.Int.RustNames.{int_le}
use Rattle.std.specs.List.{AllByRecursion}
use Rattle.std.proofs.lemmas.Int.{ints, clamps, by_lt_z}
use Rattle.std.proofs.lemmas.Bool.{true≢false, false≢true, and_parts, or_right, or_cases}
use Rattle.std.proofs.lemmas.List.{drop_more}
use Rattle.std.proofs.lemmas.List.Folds.{list_any-append}
use Rattle.std.specs.Bool.{beq}
use mir.Syntax.{w64}
use Rattle.interval_domains.specs.declared.interval.Interval.{Interval}
use Rattle.interval_domains.specs.Intervals.{within, has_number, IsInterval, StartBy, StartPast, AreApart}

-- what holds of each of two lists holds of each of both
pub each-append : {X : Type 0} (P : X → Type 0) (xs ys : List X) → AllByRecursion P xs → AllByRecursion P ys → AllByRecursion P (xs ++ ys)
each-append P [] ys h k = k
each-append P (x ∷ xs) ys h k = (h.0, each-append P xs ys h.1 k)

pub each-left : {X : Type 0} (P : X → Type 0) (xs ys : List X) → AllByRecursion P (xs ++ ys) → AllByRecursion P xs
each-left P [] ys h = tt
each-left P (x ∷ xs) ys h = (h.0, each-left P xs ys h.1)

pub each-right : {X : Type 0} (P : X → Type 0) (xs ys : List X) → AllByRecursion P (xs ++ ys) → AllByRecursion P ys
each-right P [] ys h = h
each-right P (x ∷ xs) ys h = each-right P xs ys h.1

pub each-weaker : {X : Type 0} (P Q : X → Type 0) → ((x : X) → P x → Q x) → (xs : List X) → AllByRecursion P xs → AllByRecursion Q xs
each-weaker P Q f [] h = tt
each-weaker P Q f (x ∷ xs) h = (f x h.0, each-weaker P Q f xs h.1)

-- Each interval ends before the number before a number.
abbrev pub EndBefore : ℤ → List Interval → Type 0
EndBefore x is = AllByRecursion (λ (i : Interval). (i.last +ℤ pos 1) <ℤ x) is

-- a list that ascends, and its last interval
pub apart_front : (is : List Interval) (t : Interval) → AreApart (is ++ t ∷ []) → AreApart is
apart_front [] t h = tt
apart_front (i ∷ is) t h = (h.0, each-left (λ (j : Interval). (i.last +ℤ pos 1) <ℤ j.first) is (t ∷ []) h.1, apart_front is t h.2)

pub apart_last : (is : List Interval) (t : Interval) → AreApart (is ++ t ∷ []) → IsInterval t × EndBefore t.first is
apart_last [] t h = (h.0, tt)
apart_last (i ∷ is) t h =
    let end = each-right (λ (j : Interval). (i.last +ℤ pos 1) <ℤ j.first) is (t ∷ []) h.1 in
    let rest = apart_last is t h.2 in
    (rest.0, (end.0, rest.1))

pub apart_push : (is : List Interval) (t : Interval) → AreApart is → IsInterval t → EndBefore t.first is → AreApart (is ++ t ∷ [])
apart_push [] t h one ends = (one, tt, tt)
apart_push (i ∷ is) t h one ends =
    (h.0, each-append (λ (j : Interval). (i.last +ℤ pos 1) <ℤ j.first) is (t ∷ []) h.1 (ends.0, tt), apart_push is t h.2 one ends.1)

-- a list that ends with an element, and with another in its place
pub end_of : {X : Type 0} (xs : List X) (k : ℕ) (t : X) → k + 1 ≡ length xs → t ≡ get_or xs k t → xs ≡ take k xs ++ t ∷ []
end_of [] k t e is = absurd (omega arith)
end_of (x ∷ []) zero t e is = ap (λ y. y ∷ []) (sym is)
end_of (x ∷ y ∷ ys) zero t e is = absurd (omega arith)
end_of (x ∷ xs) (suc k) t e is = ap (λ r. x ∷ r) (end_of xs k t (omega arith) is)

pub end_set : {X : Type 0} (xs : List X) (k : ℕ) (v : X) → k + 1 ≡ length xs → set xs k v ≡ take k xs ++ v ∷ []
end_set [] k v e = absurd (omega arith)
end_set (x ∷ []) zero v e = refl
end_set (x ∷ y ∷ ys) zero v e = absurd (omega arith)
end_set (x ∷ xs) (suc k) v e = ap (λ r. x ∷ r) (end_set xs k v (omega arith))

-- an interval that another continues
abbrev pub joined : Interval → Interval → Interval
joined t a = record { first = t.first; last = int_max t.last a.last }

within_joined : (x : ℤ) (t a : Interval) → t.first ≤ℤ a.first → a.first ≤ℤ (t.last +ℤ pos 1) → a.first ≤ℤ a.last → within x (joined t a) ≡ (within x t || within x a)
within_joined x t a order meets filled = grind (arith, ints, clamps)

or_last : (p q r : Bool) → (p || (q || (r || false))) ≡ ((p || (q || false)) || r)
or_last true q r = refl
or_last false true r = refl
or_last false false true = refl
or_last false false false = refl

or_end : (p q : Bool) → (p || (q || false)) ≡ (p || q)
or_end true q = refl
or_end false true = refl
or_end false false = refl

or_group : (p q r : Bool) → ((p || q) || r) ≡ (p || (q || r))
or_group true q r = refl
or_group false q r = refl

-- the numbers of a list and of one more interval
pub has_push : (is : List Interval) (a : Interval) (x : ℤ) → has_number (is ++ a ∷ []) x ≡ (has_number is x || within x a)
has_push is a x = list_any-append (within x) is (a ∷ []) ∙ or_end (has_number is x) (within x a)

module _ (is : List Interval) (t a : Interval) (apart : AreApart (is ++ t ∷ [])) (one : IsInterval a) where
  -- the last interval goes on to the end of another
  pub apart_joined : t.first ≤ℤ a.first → AreApart (is ++ joined t a ∷ [])
  apart_joined order =
      let top = apart_last is t apart in
      let filled = top.0.filled in
      let high = top.0.high in
      let more = one.high in
      apart_push is (joined t a) (apart_front is t apart) (record { filled = grind (arith, ints, clamps); low = top.0.low; high = grind (arith, ints, clamps) }) top.1

  pub has_joined : t.first ≤ℤ a.first → a.first ≤ℤ (t.last +ℤ pos 1) → (x : ℤ) → has_number (is ++ joined t a ∷ []) x ≡ (has_number (is ++ t ∷ []) x || within x a)
  has_joined order meets x =
      has_push is (joined t a) x
      ∙ ap (λ b. has_number is x || b) (within_joined x t a order meets one.filled)
      ∙ sym (or_group (has_number is x) (within x t) (within x a))
      ∙ ap (λ b. b || within x a) (sym (has_push is t x))

  -- another interval past the next number goes after it
  pub apart_after : (t.last +ℤ pos 1) <ℤ a.first → AreApart ((is ++ t ∷ []) ++ a ∷ [])
  apart_after past =
      let top = apart_last is t apart in
      let filled = top.0.filled in
      apart_push (is ++ t ∷ []) a apart one
      (each-append (λ (i : Interval). (i.last +ℤ pos 1) <ℤ a.first) is (t ∷ [])
      (each-weaker (λ (i : Interval). (i.last +ℤ pos 1) <ℤ t.first) (λ (i : Interval). (i.last +ℤ pos 1) <ℤ a.first) (λ i before. omega (arith, ints)) is top.1)
      (past, tt))

-- a list whose last interval another joins, or follows
module _ (xs : List Interval) (k : ℕ) (t a : Interval) (len : k + 1 ≡ length xs) (is : t ≡ get_or xs k t) (apart : AreApart xs) (one : IsInterval a) (starts : StartBy a.first xs) where
  split : xs ≡ take k xs ++ t ∷ []
  split = end_of xs k t len is

  apart_split : AreApart (take k xs ++ t ∷ [])
  apart_split = let P : List Interval → Type 0 = λ ys. AreApart ys in subst P split apart

  order : t.first ≤ℤ a.first
  order =
      let P : List Interval → Type 0 = λ ys. StartBy a.first ys in
      (each-right (λ (i : Interval). i.first ≤ℤ a.first) (take k xs) (t ∷ []) (subst P split starts)).0

  pub set_apart : (j : Interval) → j ≡ joined t a → AreApart (set xs k j)
  set_apart j same =
      let P : List Interval → Type 0 = λ ys. AreApart ys in
      subst P (sym (ap (λ i. set xs k i) same ∙ end_set xs k (joined t a) len)) (apart_joined (take k xs) t a apart_split one order)

  pub set_has : (j : Interval) → j ≡ joined t a → a.first ≤ℤ (t.last +ℤ pos 1) → (x : ℤ) → has_number (set xs k j) x ≡ (has_number xs x || within x a)
  set_has j same meets x =
      ap (λ (ys : List Interval). has_number ys x) (ap (λ i. set xs k i) same ∙ end_set xs k (joined t a) len)
      ∙ has_joined (take k xs) t a apart_split one order meets x
      ∙ ap (λ (ys : List Interval). has_number ys x || within x a) (sym split)

  pub push_apart : (t.last +ℤ pos 1) <ℤ a.first → AreApart (xs ++ a ∷ [])
  push_apart past =
      let P : List Interval → Type 0 = λ ys. AreApart (ys ++ a ∷ []) in
      subst P (sym split) (apart_after (take k xs) t a apart_split one past)

-- ---- what is in no interval

-- nothing up to the next number, where each interval begins past that
pub none_after : (y x : ℤ) (is : List Interval) → StartPast y is → x ≤ℤ (y +ℤ pos 1) → has_number is x ≡ false
none_after y x [] past le = refl
none_after y x (i ∷ is) past le =
    let first = past.0 in
    let out : within x i ≡ false = grind (arith, ints) in
    ap (λ b. b || has_number is x) out ∙ none_after y x is past.1 le

-- nothing from a number on, where each interval ends before it
pub none_before : (e x : ℤ) (is : List Interval) → AllByRecursion (λ (i : Interval). i.last <ℤ e) is → e ≤ℤ x → has_number is x ≡ false
none_before e x [] ends le = refl
none_before e x (i ∷ is) ends le =
    let last = ends.0 in
    let out : within x i ≡ false = grind (arith, ints) in
    ap (λ b. b || has_number is x) out ∙ none_before e x is ends.1 le

-- what is in a list that ascends begins with its first interval
pub from_first : (x : ℤ) (i : Interval) (is : List Interval) → AreApart (i ∷ is) → has_number (i ∷ is) x ≡ true → i.first ≤ℤ x
from_first x i is apart has =
    let filled = apart.0.filled in
    by_lt_z {P = i.first ≤ℤ x} x i.first
    (λ less.
    let le : x ≤ℤ (i.last +ℤ pos 1) = omega (arith, ints) in
    let out : within x i ≡ false = grind (arith, ints) in
    absurd (false≢true (sym (ap (λ b. b || has_number is x) out ∙ none_after i.last x is apart.1 le) ∙ has)))
    (λ le. le)

pub apart_drop : (n : ℕ) (is : List Interval) → AreApart is → AreApart (drop n is)
apart_drop zero is h = h
apart_drop (suc n) [] h = tt
apart_drop (suc n) (i ∷ is) h = apart_drop n is h.2

-- ---- two lists that ascend, from their first intervals on

pub within_common : (x : ℤ) (a b : Interval) → (int_le (int_max a.first b.first) x && int_le x (int_min a.last b.last)) ≡ (within x a && within x b)
within_common x a b = grind (arith, ints, clamps)

bool_left : (p q w r : Bool) → (p ≡ true → r ≡ false) → ((p || q) && (w || r)) ≡ ((p && w) || (q && (w || r)))
bool_left true q true r h = refl
bool_left true true false r h = refl
bool_left true false false r h = h refl
bool_left false q w r h = refl

bool_right : (p q w r : Bool) → (w ≡ true → q ≡ false) → ((p || q) && (w || r)) ≡ ((p && w) || ((p || q) && r))
bool_right true q true r h = refl
bool_right true q false r h = refl
bool_right false true true r h = absurd (true≢false (h refl))
bool_right false false true r h = refl
bool_right false q false r h = refl

module _ (a : Interval) (rest : List Interval) (b : Interval) (others : List Interval) (x : ℤ) where
  -- the first interval of the first list ends first
  pub common_left : AreApart (b ∷ others) → a.last <ℤ b.last → (has_number (a ∷ rest) x && has_number (b ∷ others) x) ≡ ((within x a && within x b) || (has_number rest x && has_number (b ∷ others) x))
  common_left apart less = bool_left (within x a) (has_number rest x) (within x b) (has_number others x) (λ here.
      let le : x ≤ℤ (b.last +ℤ pos 1) = grind (arith, ints) in
      none_after b.last x others apart.1 le)

  -- the first interval of the second list ends no later
  pub common_right : AreApart (a ∷ rest) → b.last ≤ℤ a.last → (has_number (a ∷ rest) x && has_number (b ∷ others) x) ≡ ((within x a && within x b) || (has_number (a ∷ rest) x && has_number others x))
  common_right apart le = bool_right (within x a) (has_number rest x) (within x b) (has_number others x) (λ here.
      let low : x ≤ℤ (a.last +ℤ pos 1) = grind (arith, ints) in
      none_after a.last x rest apart.1 low)

  -- what is in both begins with the later of the first intervals
  pub common_first : AreApart (a ∷ rest) → AreApart (b ∷ others) → (has_number (a ∷ rest) x && has_number (b ∷ others) x) ≡ true → int_max a.first b.first ≤ℤ x
  common_first one two has =
      let parts = and_parts (has_number (a ∷ rest) x) (has_number (b ∷ others) x) has in
      let le : a.first ≤ℤ x = from_first x a rest one parts.0 in
      let le' : b.first ≤ℤ x = from_first x b others two parts.1 in
      omega (arith, ints, clamps)

-- ---- the same at places of two lists
module _ (xs ys : List Interval) (i j : ℕ) (d : Interval) (one : AreApart xs) (two : AreApart ys) (here : i < length xs) (there : j < length ys) where
  abbrev a : Interval
  a = get_or xs i d

  abbrev b : Interval
  b = get_or ys j d

  abbrev both_have : ℕ → ℕ → ℤ → Bool
  both_have m n x = has_number (drop m xs) x && has_number (drop n ys) x

  apart_here : AreApart (a ∷ drop (i + 1) xs)
  apart_here = let P : List Interval → Type 0 = λ is. AreApart is in subst P (drop_more xs i d here) (apart_drop i xs one)

  apart_there : AreApart (b ∷ drop (j + 1) ys)
  apart_there = let P : List Interval → Type 0 = λ is. AreApart is in subst P (drop_more ys j d there) (apart_drop j ys two)

  opened : (x : ℤ) → both_have i j x ≡ (has_number (a ∷ drop (i + 1) xs) x && has_number (b ∷ drop (j + 1) ys) x)
  opened x =
      ap (λ (is : List Interval). has_number is x && has_number (drop j ys) x) (drop_more xs i d here)
      ∙ ap (λ (is : List Interval). has_number (a ∷ drop (i + 1) xs) x && has_number is x) (drop_more ys j d there)

  pub step_left : a.last <ℤ b.last → (x : ℤ) → both_have i j x ≡ ((within x a && within x b) || both_have (i + 1) j x)
  step_left less x =
      opened x ∙ common_left a (drop (i + 1) xs) b (drop (j + 1) ys) x apart_there less
      ∙ ap (λ (is : List Interval). (within x a && within x b) || (has_number (drop (i + 1) xs) x && has_number is x)) (sym (drop_more ys j d there))

  pub step_right : b.last ≤ℤ a.last → (x : ℤ) → both_have i j x ≡ ((within x a && within x b) || both_have i (j + 1) x)
  step_right le x =
      opened x ∙ common_right a (drop (i + 1) xs) b (drop (j + 1) ys) x apart_here le
      ∙ ap (λ (is : List Interval). (within x a && within x b) || (has_number is x && has_number (drop (j + 1) ys) x)) (sym (drop_more xs i d here))

  pub first_of_both : (x : ℤ) → both_have i j x ≡ true → int_max a.first b.first ≤ℤ x
  first_of_both x has = common_first a (drop (i + 1) xs) b (drop (j + 1) ys) x apart_here apart_there (sym (opened x) ∙ has)

  pub has_first : int_max a.first b.first ≤ℤ int_min a.last b.last → both_have i j (int_max a.first b.first) ≡ true
  has_first le =
      let x : ℤ = int_max a.first b.first in
      let in_a : within x a ≡ true = grind (arith, ints, clamps) in
      let in_b : within x b ≡ true = grind (arith, ints, clamps) in
      opened x ∙ ap (λ p. (p || has_number (drop (i + 1) xs) x) && has_number (b ∷ drop (j + 1) ys) x) in_a ∙ ap (λ p. p || has_number (drop (j + 1) ys) x) in_b

-- one step of a walk over both: what is common goes over to what is found
pub found_step : (found found' common rest rest' whole : Bool) → found' ≡ (found || common) → rest ≡ (common || rest') → (found || rest) ≡ whole → (found' || rest') ≡ whole
found_step found found' common rest rest' whole f r w = ap (λ b. b || rest') f ∙ or_group found common rest' ∙ ap (λ b. found || b) (sym r) ∙ w

pub still : (common rest rest' : Bool) → rest ≡ (common || rest') → rest' ≡ true → rest ≡ true
still common rest rest' r h = r ∙ or_right common rest' h

-- ---- the numbers of a list fit 64 bits, and its first one is its least

pub fits_in : (is : List Interval) (x : ℤ) → AreApart is → has_number is x ≡ true → FitsSigned w64 x
fits_in [] x apart has = absurd (false≢true has)
fits_in (i ∷ is) x apart has =
    elim (or_cases (within x i) (has_number is x) has) [
      | inl here ↦ let low = apart.0.low in let high = apart.0.high in grind (arith, ints)
      | inr there ↦ fits_in is x apart.2 there
    ]

pub least_first : (is : List Interval) (i : Interval) → AreApart is → Some i ≡ slice_get is 0 → IsInterval i × (has_number is i.first ≡ true) × ((y : ℤ) → has_number is y ≡ true → i.first ≤ℤ y)
least_first [] i apart at = cc
least_first (j ∷ js) i apart at =
    let same : j ≡ i = cc in
    let P : Interval → Type 0 = λ k. IsInterval k × (has_number (j ∷ js) k.first ≡ true) × ((y : ℤ) → has_number (j ∷ js) y ≡ true → k.first ≤ℤ y) in
    let filled = apart.0.filled in
    let here : within j.first j ≡ true = grind (arith, ints) in
    subst P same (apart.0, ap (λ b. b || has_number js j.first) here, λ y has. from_first y j js apart has)

and_where : (d p q : Bool) → (d ≡ true → p ≡ q) → (d && p) ≡ (d && q)
and_where true p q h = h refl
and_where false p q h = refl

same_as_true : (b : Bool) → b ≡ beq b true
same_as_true true = refl
same_as_true false = refl

same_as_false : (b : Bool) → not b ≡ beq b false
same_as_false true = refl
same_as_false false = refl

-- the numbers of a list of which a test is true, where another list has these numbers as far as they fit
pub kept_true : (is passing : List Interval) (test : ℤ → Bool) (inside : Bool) (x : ℤ) → AreApart is → ((x : ℤ) → FitsSigned w64 x → has_number passing x ≡ test x) → inside ≡ true → (has_number is x && has_number passing x) ≡ (has_number is x && beq (test x) inside)
kept_true is passing test inside x apart same truth =
    and_where (has_number is x) _ _ (λ has. same x (fits_in is x apart has) ∙ same_as_true (test x) ∙ ap (λ v. beq (test x) v) (sym truth))

pub kept_false : (is failing passing : List Interval) (test : ℤ → Bool) (inside : Bool) (x : ℤ) → AreApart is → ((x : ℤ) → FitsSigned w64 x → has_number passing x ≡ test x) → ((x : ℤ) → FitsSigned w64 x → has_number failing x ≡ not (has_number passing x)) → inside ≡ false → (has_number is x && has_number failing x) ≡ (has_number is x && beq (test x) inside)
kept_false is failing passing test inside x apart same other truth =
    and_where (has_number is x) _ _ (λ has. other x (fits_in is x apart has) ∙ ap not (same x (fits_in is x apart has)) ∙ same_as_false (test x) ∙ ap (λ v. beq (test x) v) (sym truth))
