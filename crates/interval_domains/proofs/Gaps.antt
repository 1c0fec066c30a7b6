-- The numbers that are in no interval of a list, as far as a walk has come.
use Rattle.std.proofs.Common.{◌≡◌, ℕ, ◌+◌, ◌<◌, ◌≤◌, ◌^◌, length, get_or, take, drop, ℤ, pos, neg_ℤ, ◌+ℤ◌, ◌≤ℤ◌, ◌<ℤ◌, FitsSigned, List, [], ◌∷◌, ◌++◌, Bool, true, false, not, ◌&&◌, ◌||◌, refl, ap, sym, ◌∙◌, subst, arith}
use Rattle.std.specs.Int.RustNames.{int_le, int_lt}
use Rattle.std.specs.List.{AllByRecursion}
use Rattle.std.proofs.lemmas.Int.{ints, by_lt_z}
use Rattle.std.proofs.lemmas.List.Folds.{list_any-append}
use Rattle.std.proofs.lemmas.List.{append_assoc, take_more, drop_more, drop_all}
use Rattle.std.proofs.Math.Bool.{and-false, or-false}
use mir.Syntax.{w64}
use Rattle.interval_domains.specs.declared.interval.Interval.{Interval}
use Rattle.interval_domains.specs.Intervals.{within, has_number, IsInterval, StartBy, AreApart}
use Rattle.interval_domains.proofs.IntervalLemmas.{each-append, each-weaker, none_after, none_before}

-- Each interval of the rest begins no earlier than the next number, and each one that is done ends before it.
pub record AreGaps (others list done rest : List Interval) (next : ℤ) : Type 0 where
  pub numbers : (x : ℤ) → FitsSigned w64 x → has_number others x ≡ (int_lt x next && not (has_number list x))
  pub parts : list ≡ done ++ rest
  pub low : neg_ℤ (pos (2 ^ 63)) ≤ℤ next
  pub ended : AllByRecursion (λ (i : Interval). i.last <ℤ next) done
  pub ascends : AreApart rest
  pub begins : AllByRecursion (λ (i : Interval). next ≤ℤ i.first) rest
  pub starts : StartBy next others

both_true : (q r s l : Bool) → q ≡ true → r ≡ true → s ≡ true → l ≡ false → (q && r) ≡ (s && not l)
both_true q r s l a b c d = ap (λ v. v && r) a ∙ b ∙ sym (ap (λ v. v && not l) c ∙ ap not d)

both_false : (q r s l : Bool) → r ≡ false → s ≡ false → (q && r) ≡ (s && not l)
both_false q r s l a b = ap (λ v. q && v) a ∙ and-false q ∙ sym (ap (λ v. v && not l) b)

in_false : (q r s l : Bool) → r ≡ false → l ≡ true → (q && r) ≡ (s && not l)
in_false q r s l a b = ap (λ v. q && v) a ∙ and-false q ∙ sym (ap (λ v. s && not v) b ∙ and-false s)

begin_low : (list : List Interval) → AreApart list → AllByRecursion (λ (i : Interval). neg_ℤ (pos (2 ^ 63)) ≤ℤ i.first) list
begin_low [] h = tt
begin_low (i ∷ is) h = let low = h.0.low in (grind (arith, ints), begin_low is h.2)

has_parts : (x : ℤ) (done : List Interval) (t : Interval) (rest : List Interval) → has_number (done ++ t ∷ rest) x ≡ (has_number done x || (within x t || has_number rest x))
has_parts x done t rest = list_any-append (within x) done (t ∷ rest)

known : (p q r s l : Bool) → p ≡ true → q ≡ false → s ≡ true → ((p && not l) || (q && r)) ≡ (s && not l)
known p q r s l a b c = ap (λ v. (v && not l) || (q && r)) a ∙ ap (λ v. not l || (v && r)) b ∙ or-false (not l) ∙ ap (λ v. v && not l) (sym c)

-- the numbers from the next one up to the rest are in no interval, and those from an end on are not yet found
pub unknown : (p q r s l : Bool) → p ≡ false → (q && r) ≡ (s && not l) → ((p && not l) || (q && r)) ≡ (s && not l)
unknown p q r s l a b = ap (λ v. (v && not l) || (q && r)) a ∙ b

module _ (others others' list done rest : List Interval) (t : Interval) (next : ℤ) (gaps : AreGaps others list done (t ∷ rest) next) (more : (x : ℤ) → has_number others' x ≡ (has_number others x || (int_le next x && int_lt x t.first))) where
  begins : next ≤ℤ t.first
  begins = gaps.begins.0

  filled : t.first ≤ℤ t.last
  filled = gaps.ascends.0.filled

  has_list : (x : ℤ) → has_number list x ≡ (has_number done x || (within x t || has_number rest x))
  has_list x = ap (λ (is : List Interval). has_number is x) gaps.parts ∙ has_parts x done t rest

  no_rest : (x : ℤ) → x ≤ℤ t.last → has_number rest x ≡ false
  no_rest x le = none_after t.last x rest gaps.ascends.1 (omega (arith, ints))

  no_done : (x : ℤ) → next ≤ℤ x → has_number done x ≡ false
  no_done x le = none_before next x done gaps.ended le

  -- between the next number and the interval there is none
  between : (x : ℤ) → next ≤ℤ x → x <ℤ t.first → has_number list x ≡ false
  between x le lt =
      let b = begins in
      let f = filled in
      let out : within x t ≡ false = grind (arith, ints) in
      has_list x ∙ ap (λ v. v || (within x t || has_number rest x)) (no_done x le) ∙ ap (λ v. v || has_number rest x) out ∙ no_rest x (omega (arith, ints))

  inside : (x : ℤ) → t.first ≤ℤ x → x ≤ℤ t.last → has_number list x ≡ true
  inside x le le' =
      let b = begins in
      let here : within x t ≡ true = grind (arith, ints) in
      has_list x ∙ ap (λ v. v || (within x t || has_number rest x)) (no_done x (omega (arith, ints))) ∙ ap (λ v. v || has_number rest x) here

  step_numbers : (x : ℤ) → FitsSigned w64 x → has_number others' x ≡ (int_lt x (t.last +ℤ pos 1) && not (has_number list x))
  step_numbers x fits =
      let b = begins in
      let f = filled in
      let l = has_number list x in
      let start : has_number others' x ≡ ((int_lt x next && not l) || (int_le next x && int_lt x t.first)) = more x ∙ ap (λ v. v || (int_le next x && int_lt x t.first)) (gaps.numbers x fits) in
      let p = int_lt x next in
      let q = int_le next x in
      let r = int_lt x t.first in
      let s = int_lt x (t.last +ℤ pos 1) in
      start ∙ by_lt_z {P = ((p && not l) || (q && r)) ≡ (s && not l)} x next
      (λ lt. known p q r s l (grind (arith, ints)) (grind (arith, ints)) (grind (arith, ints)))
      (λ le. unknown p q r s l (grind (arith, ints)) (by_lt_z {P = (q && r) ≡ (s && not l)} x t.first
      (λ lt. both_true q r s l (grind (arith, ints)) (grind (arith, ints)) (grind (arith, ints)) (between x le lt))
      (λ past. by_lt_z {P = (q && r) ≡ (s && not l)} t.last x
      (λ after. both_false q r s l (grind (arith, ints)) (grind (arith, ints)))
      (λ up. in_false q r s l (grind (arith, ints)) (inside x past up)))))

  pub gaps_step : StartBy next others' → AreGaps others' list (done ++ t ∷ []) rest (t.last +ℤ pos 1)
  gaps_step starts =
      let b = begins in
      let f = filled in
      let low = gaps.low in
      record {
        numbers = step_numbers;
        parts = gaps.parts ∙ sym (append_assoc done (t ∷ []) rest);
        low = omega (arith, ints);
        ended = each-append (λ (i : Interval). i.last <ℤ (t.last +ℤ pos 1)) done (t ∷ [])
            (each-weaker (λ (i : Interval). i.last <ℤ next) (λ (i : Interval). i.last <ℤ (t.last +ℤ pos 1)) (λ i h. omega (arith, ints)) done gaps.ended)
            (omega (arith, ints), tt);
        ascends = gaps.ascends.2;
        begins = each-weaker (λ (i : Interval). (t.last +ℤ pos 1) <ℤ i.first) (λ (i : Interval). (t.last +ℤ pos 1) ≤ℤ i.first) (λ i h. omega (arith, ints)) rest gaps.ascends.1;
        starts = each-weaker (λ (i : Interval). i.first ≤ℤ next) (λ (i : Interval). i.first ≤ℤ (t.last +ℤ pos 1)) (λ i h. omega (arith, ints)) others' starts;
      }

pub gaps_start : (list : List Interval) → AreApart list → AreGaps [] list [] list (neg_ℤ (pos (2 ^ 63)))
gaps_start list apart = record {
  numbers = λ x fits. let e : int_lt x (neg_ℤ (pos (2 ^ 63))) ≡ false = grind (arith, ints) in sym (ap (λ v. v && not (has_number list x)) e);
  parts = refl;
  low = omega (arith, ints);
  ended = tt;
  ascends = apart;
  begins = begin_low list apart;
  starts = tt;
}

pub gaps_end : (others others' list done : List Interval) (next : ℤ) → AreGaps others list done [] next → ((x : ℤ) → has_number others' x ≡ (has_number others x || (int_le next x && int_lt x (pos (2 ^ 63))))) → (x : ℤ) → FitsSigned w64 x → has_number others' x ≡ not (has_number list x)
gaps_end others others' list done next gaps more x fits =
    let l = has_number list x in
    let start : has_number others' x ≡ ((int_lt x next && not l) || (int_le next x && int_lt x (pos (2 ^ 63)))) = more x ∙ ap (λ v. v || (int_le next x && int_lt x (pos (2 ^ 63)))) (gaps.numbers x fits) in
    let p = int_lt x next in
    let q = int_le next x in
    let r = int_lt x (pos (2 ^ 63)) in
    start ∙ by_lt_z {P = ((p && not l) || (q && r)) ≡ not l} x next
    (λ lt. known p q r true l (grind (arith, ints)) (grind (arith, ints)) refl)
    (λ le.
    let none : l ≡ false = ap (λ (is : List Interval). has_number is x) gaps.parts ∙ list_any-append (within x) done [] ∙ ap (λ v. v || false) (none_before next x done gaps.ended le) in
    unknown p q r true l (grind (arith, ints)) (both_true q r true l (grind (arith, ints)) (grind (arith, ints)) refl none))

-- the same at a place of the list
module _ (others list : List Interval) (i : ℕ) (d : Interval) (next : ℤ) (gaps : AreGaps others list (take i list) (drop i list) next) (here : i < length list) where
  opened : AreGaps others list (take i list) (get_or list i d ∷ drop (i + 1) list) next
  opened = let P : List Interval → Type 0 = λ is. AreGaps others list (take i list) is next in subst P (drop_more list i d here) gaps

  pub interval_here : IsInterval (get_or list i d)
  interval_here = opened.ascends.0

  pub gaps_more : (others' : List Interval) (n u after : ℤ) → n ≡ next → u ≡ (get_or list i d).first → after ≡ ((get_or list i d).last +ℤ pos 1)
      → ((x : ℤ) → has_number others' x ≡ (has_number others x || (int_le n x && int_lt x u))) → StartBy n others' → AreGaps others' list (take (i + 1) list) (drop (i + 1) list) after
  gaps_more others' n u after e f g more starts =
      let t = get_or list i d in
      let P : ℤ → Type 0 = λ m. StartBy m others' in
      let step = gaps_step others others' list (take i list) (drop (i + 1) list) t next opened
      (λ x. more x ∙ ap (λ m. has_number others x || (int_le m x && int_lt x u)) e ∙ ap (λ m. has_number others x || (int_le next x && int_lt x m)) f)
      (subst P e starts) in
      let Q : List Interval → Type 0 = λ done. AreGaps others' list done (drop (i + 1) list) (t.last +ℤ pos 1) in
      let R : ℤ → Type 0 = λ m. AreGaps others' list (take (i + 1) list) (drop (i + 1) list) m in
      subst R (sym g) (subst Q (sym (take_more list i d here)) step)

pub gaps_all : (others others' list : List Interval) (i : ℕ) (next n u : ℤ) → AreGaps others list (take i list) (drop i list) next → length list ≤ i → n ≡ next → u ≡ pos (2 ^ 63)
    → ((x : ℤ) → has_number others' x ≡ (has_number others x || (int_le n x && int_lt x u))) → (x : ℤ) → FitsSigned w64 x → has_number others' x ≡ not (has_number list x)
gaps_all others others' list i next n u gaps past e f more =
    let P : List Interval → Type 0 = λ is. AreGaps others list (take i list) is next in
    gaps_end others others' list (take i list) next (subst P (drop_all i list past) gaps)
    (λ x. more x ∙ ap (λ m. has_number others x || (int_le m x && int_lt x u)) e ∙ ap (λ m. has_number others x || (int_le next x && int_lt x m)) f)
