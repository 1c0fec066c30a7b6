-- Lists of texts in order, and the search in them.
use Rattle.std.proofs.Common.{◌≡◌, ℕ, ◌+◌, List, [], ◌∷◌, length, get_or, Bool, true, false, cond, ◌&&◌, ◌||◌, bytes_eq, Result, Ok, Err, Ordering, Less, Equal, Greater, nat_cmp, is_lt, is_eq, refl, ap, sym, ◌∙◌, inl, inr, arith}
use Rattle.std.specs.Result.{is_ok}
use Rattle.std.specs.Ordering.{ordering_reverse}
use Rattle.std.specs.List.{list_any, filter, dedup, dedup_from}
use Rattle.std.specs.List.Sorted.{IsSorted, IsStrictlySortedBy, IsSearchInRange, IsBinarySearchResult}
use Rattle.std.specs.Cmp.Lexicographic.{slice_cmp}
use Rattle.std.proofs.lemmas.Cmp.{nat_list_cmp_total}
use Rattle.std.proofs.lemmas.Bool.{false≢true, false_from_ne_true, cases_lt}
use Rattle.std.proofs.lemmas.Slice.Eq.{bytes_eq-Decides}
use Rattle.std.proofs.Math.Bool.{and-false}
use Rattle.std.proofs.lemmas.Map.Lookups.{exact_bytes}
use Rattle.std.proofs.lemmas.Map.Text.{is_eq-slice_cmp}
use Rattle.std.proofs.lemmas.List.Sorted.{searchable_from_sorted}
use Rattle.std.proofs.lemmas.Map.Keys.{Less-from_sorted}
use Rattle.std.proofs.lemmas.List.Folds.{list_any_at, list_any_none}
use Rattle.interval_domains.specs.Finding.{Tells}
use Rattle.interval_domains.specs.TextLists.{has_text, AreListed}

abbrev text_cmp : List ℕ → List ℕ → Ordering
text_cmp = slice_cmp nat_cmp

is-equal : (o : Ordering) → is_eq o ≡ true → o ≡ Equal
is-equal Less h = absurd (false≢true h)
is-equal Equal h = refl
is-equal Greater h = absurd (false≢true h)

-- texts that compare as equal are equal, and the other way round
pub same_text : (t u : List ℕ) → bytes_eq t u ≡ true → t ≡ u
same_text t u h = exact_bytes t u (is-equal _ (is_eq-slice_cmp t u ∙ h))

pub is_itself : (t : List ℕ) → bytes_eq t t ≡ true
is_itself t = (bytes_eq-Decides t t).1 refl

pub equal_itself : (t : List ℕ) → text_cmp t t ≡ Equal
equal_itself t = is-equal _ (is_eq-slice_cmp t t ∙ is_itself t)

not_less : (o : Ordering) → o ≡ Less → o ≡ Equal → ⊥
not_less o h k = cc

not_greater : (o : Ordering) → o ≡ Greater → o ≡ Equal → ⊥
not_greater o h k = cc

-- a binary search tells whether a text is in a list in order
pub searched_text : (texts : List (List ℕ)) (t : List ℕ) (r : Result ℕ ℕ) → IsSorted text_cmp texts → IsSearchInRange r (length texts) → IsBinarySearchResult (λ u. text_cmp u t) texts r → is_ok r ≡ has_text texts t
searched_text texts t (Ok i) up within at =
    let there : get_or texts i t ≡ t = exact_bytes (get_or texts i t) t (at t) in
    sym (list_any_at (bytes_eq t) texts i t within (ap (λ u. bytes_eq t u) there ∙ is_itself t))
searched_text texts t (Err i) up within at =
    let parted = at (searchable_from_sorted nat_list_cmp_total (λ u. u) texts t up) in
    sym (list_any_none (bytes_eq t) texts (λ k d lt. false_from_ne_true _ (λ same.
    let e : get_or texts k d ≡ t = sym (same_text t (get_or texts k d) same) in
    let equal : text_cmp (get_or texts k d) t ≡ Equal = ap (λ u. text_cmp u t) e ∙ equal_itself t in
    elim (cases_lt k i) [
      | inl below ↦ not_less _ (parted.0 k d (omega arith) below) equal
      | inr above ↦ not_greater _ (parted.1 k d above lt) equal
    ])))

pub none_listed : AreListed []
unfolding IsStrictlySortedBy
none_listed = record { short = λ k d lt. absurd (omega arith); ascending = tt }

-- texts that ascend don't descend
pub in_order : (texts : List (List ℕ)) → IsStrictlySortedBy text_cmp texts → IsSorted text_cmp texts
in_order texts up k d low high =
    let a = get_or texts k d in
    let b = get_or texts (k + 1) d in
    ap is_lt (nat_list_cmp_total.antisymm b a) ∙ ap (λ o. is_lt (ordering_reverse o)) (Less-from_sorted text_cmp texts k (k + 1) d up (omega arith) high)

or_twice : (p q h : Bool) → q ≡ p → (p || h) ≡ (p || (q || h))
or_twice true q h same = refl
or_twice false q h same = sym (ap (λ b. b || h) same)

-- a list without repetitions has the same texts
has_text-dedup_from : (u : List ℕ) (texts : List (List ℕ)) (t : List ℕ) → has_text (dedup_from bytes_eq u texts) t ≡ has_text (u ∷ texts) t
has_text-dedup_from u [] t = refl
has_text-dedup_from u (v ∷ texts) t =
    elim (bytes_eq v u) as (λ b. bytes_eq v u ≡ b → has_text (cond b (dedup_from bytes_eq u texts) (u ∷ dedup_from bytes_eq v texts)) t ≡ (bytes_eq t u || (bytes_eq t v || has_text texts t))) [
      | true ↦ (λ same. has_text-dedup_from u texts t ∙ or_twice (bytes_eq t u) (bytes_eq t v) (has_text texts t) (ap (λ w. bytes_eq t w) (same_text v u same)))
      | false ↦ (λ differs. ap (λ b. bytes_eq t u || b) (has_text-dedup_from v texts t))
    ] refl

pub has_text-dedup : (texts : List (List ℕ)) (t : List ℕ) → has_text (dedup bytes_eq texts) t ≡ has_text texts t
has_text-dedup [] t = refl
has_text-dedup (u ∷ texts) t = has_text-dedup_from u texts t

keep_true : (e h q : Bool) → (e ≡ true → q ≡ true) → (e || (h && q)) ≡ ((e || h) && q)
keep_true true h q f = sym (f refl)
keep_true false h q f = refl

keep_false : (e h q : Bool) → (e ≡ true → q ≡ false) → (h && q) ≡ ((e || h) && q)
keep_false true h q f = ap (λ v. h && v) (f refl) ∙ and-false h ∙ sym (f refl)
keep_false false h q f = refl

-- what a filter leaves
pub has_text-filter : (p : List ℕ → Bool) (texts : List (List ℕ)) (t : List ℕ) → has_text (filter p texts) t ≡ (has_text texts t && p t)
has_text-filter p [] t = refl
has_text-filter p (u ∷ texts) t =
    elim (p u) as (λ b. p u ≡ b → has_text (cond b (u ∷ filter p texts) (filter p texts)) t ≡ ((bytes_eq t u || has_text texts t) && p t)) [
      | true ↦ (λ is. ap (λ b. bytes_eq t u || b) (has_text-filter p texts t) ∙ keep_true (bytes_eq t u) (has_text texts t) (p t) (λ same. ap p (same_text t u same) ∙ is))
      | false ↦ (λ is. has_text-filter p texts t ∙ keep_false (bytes_eq t u) (has_text texts t) (p t) (λ same. ap p (same_text t u same) ∙ is))
    ] refl

later : (e h q : Bool) → (h && q) ≡ true → ((e || h) && q) ≡ true
later true true q k = k
later true false q k = absurd (false≢true k)
later false h q k = k

neither : (e h q : Bool) → (e ≡ true → q ≡ false) → (h && q) ≡ false → ((e || h) && q) ≡ false
neither true h q f k = f refl
neither false h q f k = k

-- what passes in a list of texts is a text that is in it and passes
pub tells_text : (q : List ℕ → Bool) (texts : List (List ℕ)) → Tells (λ t. has_text texts t && q t) (list_any q texts)
tells_text q [] = λ t. refl
tells_text q (u ∷ texts) =
    elim (q u) as (λ b. q u ≡ b → Tells (λ t. (bytes_eq t u || has_text texts t) && q t) (b || list_any q texts)) [
      | true ↦ (λ passes. (u, ap (λ b. (b || has_text texts u) && q u) (is_itself u) ∙ passes))
      | false ↦ (λ fails.
          elim (list_any q texts) as (λ b. Tells (λ t. has_text texts t && q t) b → Tells (λ t. (bytes_eq t u || has_text texts t) && q t) b) [
            | true ↦ (λ one. (one.0, later (bytes_eq one.0 u) (has_text texts one.0) (q one.0) one.1))
            | false ↦ (λ none t. neither (bytes_eq t u) (has_text texts t) (q t) (λ same. ap q (same_text t u same) ∙ fails) (none t))
          ] (tells_text q texts))
    ] refl
