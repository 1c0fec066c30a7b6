-- Sets of values, kind by kind.
use Rattle.std.proofs.Common.{◌≡◌, ℕ, ℤ, nat_le, List, [], ◌∷◌, length, get_or, Bool, true, false, not, ◌&&◌, ◌||◌, bytes_eq, Option, Some, None, slice_get, Ordering, Less, Equal, Greater, nat_cmp, is_lt, refl, ap, sym, ◌∙◌, subst, arith}
use Rattle.std.specs.Ordering.{is_le, ordering_reverse}
use Rattle.std.specs.Bool.{beq, MatchBool}
use Rattle.std.specs.Option.{is_some, option_copied}
use denote.Ref.{Bor}
use Rattle.std.specs.List.{list_any, All}
use Rattle.std.specs.List.Sorted.{IsSorted}
use Rattle.std.specs.Cmp.Lexicographic.{slice_cmp}
use Rattle.std.proofs.lemmas.Cmp.{nat_list_cmp_total}
use Rattle.std.proofs.lemmas.List.Sorted.{sorted_far, ranks_by}
use Rattle.std.proofs.lemmas.List.Folds.{list_any_none, Any-from_list_any}
use Rattle.std.proofs.lemmas.Bool.{true≢false, false≢true, false_from_ne_true, le-leb}
use Rattle.std.proofs.Math.Bool.{and-false}
use Rattle.key_table.specs.declared.slot.Datum.{Datum}
use Rattle.key_table.specs.declared.slot.Datum.TheVariants as datum
use Rattle.key_table.specs.declared.atom.Test.{Test}
use Rattle.key_table.specs.declared.atom.Test.TheVariants as test
use Rattle.key_table.specs.Atoms.{test_holds}
use Rattle.interval_domains.specs.declared.values.Values.{Values}
use Rattle.interval_domains.specs.declared.values.Values.TheVariants.{Variants, Numbers, Texts, OtherTexts}
use Rattle.interval_domains.specs.declared.interval.Interval.{Interval}
use Rattle.interval_domains.specs.Finding.{Tells, FindsLeast, FindsLeastNumber}
use Rattle.interval_domains.specs.Intervals.{has_number}
use Rattle.interval_domains.specs.VariantSets.{has_variant}
use Rattle.interval_domains.specs.TextLists.{has_text, is_other_text, IsShort, HasShortText, AreListed}
use Rattle.interval_domains.specs.Picks.{long_text, FindsFirst}
use Rattle.interval_domains.specs.Members.{has_value}
use Rattle.interval_domains.proofs.TextLemmas.{same_text, is_itself, in_order}

abbrev text_cmp : List ℕ → List ℕ → Ordering
text_cmp = slice_cmp nat_cmp

-- ---- the long text

long_length : length long_text ≡ 256
unfolding long_text
long_length = refl

-- it is no short text
pub not_long : (t : List ℕ) → IsShort t → bytes_eq long_text t ≡ false
not_long t short = false_from_ne_true _ (λ same. absurd (omega (arith, long_length, ap length (same_text long_text t same))))

pub long_not_listed : (texts : List (List ℕ)) → All IsShort texts → has_text texts long_text ≡ false
long_not_listed texts short = list_any_none (bytes_eq long_text) texts (λ k d lt. not_long (get_or texts k d) (short k d lt))

pub long_is_other : (texts : List (List ℕ)) → All IsShort texts → is_other_text texts long_text ≡ true
long_is_other texts short = ap (λ b. b && not (has_text texts long_text)) (le-leb (length long_text) 1024 (omega (arith, long_length))) ∙ ap not (long_not_listed texts short)

fails_long : (t : Test) → HasShortText t → test_holds (datum.Text long_text) t ≡ false
fails_long (test.Variant n) short = refl
fails_long (test.Text t) short = not_long t short
fails_long (test.Number op n) short = refl

pub long_fails : (tests : List Test) → All HasShortText tests → list_any (test_holds (datum.Text long_text)) tests ≡ false
long_fails tests short = list_any_none (test_holds (datum.Text long_text)) tests (λ k d lt. fails_long (get_or tests k d) (short k d lt))

pub failing_other : (values : Values) (texts : List (List ℕ)) (tests : List Test) (b : Bool) → values ≡ OtherTexts texts → All HasShortText tests → is_other_text texts long_text ≡ true → b ≡ true → Tells (λ d. has_value values d && not (list_any (test_holds d) tests)) b
failing_other values texts tests b is short other holds =
    let q = λ (d : Datum). not (list_any (test_holds d) tests) in
    let P : Values → Type 0 = λ vs. Tells (λ d. has_value vs d && q d) true in
    let Q : Bool → Type 0 = λ b. Tells (λ d. has_value values d && q d) b in
    subst Q (sym holds) (subst P (sym is) (datum.Text long_text, ap (λ b. b && q (datum.Text long_text)) other ∙ ap not (long_fails tests short)))

-- ---- whether there is a value

pub some_variant : (set : List Bool) (r : Option ℕ) → FindsLeast (has_variant set) r → Tells (has_value (Variants set)) (is_some r)
some_variant set None none = λ d. elim d as (λ d. has_value (Variants set) d ≡ false) [ (datum.Variant n) ↦ none n | (datum.Number x) ↦ refl | (datum.Text t) ↦ refl ]
some_variant set (Some n) least = (datum.Variant n, least.0)

pub some_number : (set : List Interval) (r : Option ℤ) → FindsLeastNumber (has_number set) r → Tells (has_value (Numbers set)) (is_some r)
some_number set None none = λ d. elim d as (λ d. has_value (Numbers set) d ≡ false) [ (datum.Variant n) ↦ refl | (datum.Number x) ↦ none x | (datum.Text t) ↦ refl ]
some_number set (Some x) least = (datum.Number x, least.0)

pub no_text : (d : Datum) → has_value (Texts []) d ≡ false
no_text (datum.Variant n) = refl
no_text (datum.Number x) = refl
no_text (datum.Text t) = refl

pub some_text : (texts : List (List ℕ)) → Tells (has_value (Texts texts)) (is_some (slice_get texts 0))
some_text [] = no_text
some_text (t ∷ texts) = (datum.Text t, ap (λ b. b || has_text texts t) (is_itself t))

pub some_other : (texts : List (List ℕ)) (b : Bool) → b ≡ true → is_other_text texts long_text ≡ true → Tells (has_value (OtherTexts texts)) b
some_other texts b holds other = let P : Bool → Type 0 = λ b. Tells (has_value (OtherTexts texts)) b in subst P (sym holds) (datum.Text long_text, other)

-- the same with a set behind an equation
pub tells_of : (values values' : Values) (b b' : Bool) → values ≡ values' → b ≡ b' → Tells (has_value values') b' → Tells (has_value values) b
tells_of values values' b b' is same h =
    let P : Values → Type 0 = λ vs. Tells (has_value vs) b' in
    let Q : Bool → Type 0 = λ b. Tells (has_value values) b in
    subst Q (sym same) (subst P (sym is) h)

-- ---- the first text

at_most : (o : Ordering) → is_lt o ≡ false → is_le (ordering_reverse o) ≡ true
at_most Less h = absurd (true≢false h)
at_most Equal h = refl
at_most Greater h = refl

least_text : (texts : List (List ℕ)) (t u : List ℕ) → IsSorted text_cmp texts → slice_get texts 0 ≡ Some t → has_text texts u ≡ true → is_le (text_cmp t u) ≡ true
least_text [] t u up first there = absurd (false≢true there)
least_text (s ∷ texts) t u up first there =
    let e : s ≡ t = cc in
    let found = Any-from_list_any (bytes_eq u) (s ∷ texts) there in
    let is : get_or (s ∷ texts) found.0 found.1 ≡ u = found.3 ∙ sym (same_text u found.1 found.4) in
    let later : is_lt (text_cmp (get_or (s ∷ texts) found.0 found.1) s) ≡ false = sorted_far (λ a b. is_lt (text_cmp a b)) (ranks_by nat_list_cmp_total (λ a. a)) (s ∷ texts) up 0 found.0 found.1 (omega arith) found.2 in
    let plain : is_lt (text_cmp u t) ≡ false = sym (ap (λ a. is_lt (text_cmp a t)) is) ∙ sym (ap (λ a. is_lt (text_cmp (get_or (s ∷ texts) found.0 found.1) a)) e) ∙ later in
    ap is_le (nat_list_cmp_total.antisymm t u) ∙ at_most (text_cmp u t) plain

pub first_of_texts : (texts : List (List ℕ)) (t : List ℕ) → AreListed texts → slice_get texts 0 ≡ Some t → FindsFirst (has_value (Texts texts)) (Some (datum.Text t))
first_of_texts [] t listed first = cc
first_of_texts (s ∷ texts) t listed first =
    let e : s ≡ t = cc in
    let P : Bool → Type 0 = λ b. MatchBool b (t ≡ long_text) ((u : List ℕ) → has_text (s ∷ texts) u ≡ true → is_le (text_cmp t u) ≡ true) in (
      ap (λ a. bytes_eq t a || has_text texts t) e ∙ ap (λ b. b || has_text texts t) (is_itself t),
      subst P (sym (long_not_listed (s ∷ texts) listed.short)) (λ u. least_text (s ∷ texts) t u (in_order (s ∷ texts) listed.ascending) first),
    )

pub none_of_texts : (texts : List (List ℕ)) → slice_get texts 0 ≡ None → (d : Datum) → has_value (Texts texts) d ≡ false
none_of_texts [] first = no_text
none_of_texts (t ∷ texts) first = cc

pub first_other : (values : Values) (texts : List (List ℕ)) (t : List ℕ) → values ≡ OtherTexts texts → is_other_text texts long_text ≡ true → t ≡ long_text → FindsFirst (has_value values) (Some (datum.Text t))
first_other values texts t is other same =
    let P : Bool → Type 0 = λ b. MatchBool b (t ≡ long_text) ((u : List ℕ) → is_other_text texts u ≡ true → is_le (text_cmp t u) ≡ true) in
    let Q : Values → Type 0 = λ vs. FindsFirst (has_value vs) (Some (datum.Text t)) in
    subst Q (sym is) (ap (λ u. is_other_text texts u) same ∙ other, subst P (sym other) same)

-- ---- what is kept of texts

named_as : (texts named found : List (List ℕ)) (tests : List Test) (inside : Bool)
    → ((t : List ℕ) → has_text found t ≡ (has_text texts t && beq (has_text named t) inside))
    → ((t : List ℕ) → has_text named t ≡ list_any (test_holds (datum.Text t)) tests)
    → (d : Datum) → has_value (Texts found) d ≡ (has_value (Texts texts) d && beq (list_any (test_holds d) tests) inside)
named_as texts named found tests inside keeps names (datum.Variant n) = refl
named_as texts named found tests inside keeps names (datum.Number x) = refl
named_as texts named found tests inside keeps names (datum.Text t) = keeps t ∙ ap (λ b. has_text texts t && beq b inside) (names t)

pub kept_texts : (values : Values) (texts named found : List (List ℕ)) (tests : List Test) (inside : Bool) → values ≡ Texts texts
    → ((t : List ℕ) → has_text found t ≡ (has_text texts t && beq (has_text named t) inside))
    → ((t : List ℕ) → has_text named t ≡ list_any (test_holds (datum.Text t)) tests)
    → (d : Datum) → has_value (Texts found) d ≡ (has_value values d && beq (list_any (test_holds d) tests) inside)
kept_texts values texts named found tests inside is keeps names d =
    named_as texts named found tests inside keeps names d ∙ ap (λ (vs : Values). has_value vs d && beq (list_any (test_holds d) tests) inside) (sym is)

other_as : (texts named : List (List ℕ)) (tests : List Test) (inside : Bool)
    → ((t : List ℕ) → has_text named t ≡ list_any (test_holds (datum.Text t)) tests)
    → (d : Datum) → (has_value (OtherTexts texts) d && beq (has_value (Texts named) d) inside) ≡ (has_value (OtherTexts texts) d && beq (list_any (test_holds d) tests) inside)
other_as texts named tests inside names (datum.Variant n) = refl
other_as texts named tests inside names (datum.Number x) = refl
other_as texts named tests inside names (datum.Text t) = ap (λ b. is_other_text texts t && beq b inside) (names t)

pub kept_others : (values : Values) (texts named : List (List ℕ)) (tests : List Test) (inside : Bool) → values ≡ OtherTexts texts
    → ((t : List ℕ) → has_text named t ≡ list_any (test_holds (datum.Text t)) tests)
    → (d : Datum) → (has_value (OtherTexts texts) d && beq (has_value (Texts named) d) inside) ≡ (has_value values d && beq (list_any (test_holds d) tests) inside)
kept_others values texts named tests inside is names d =
    other_as texts named tests inside names d ∙ ap (λ (vs : Values). has_value vs d && beq (list_any (test_holds d) tests) inside) (sym is)

-- named texts that are not among those left out
bools_named : (named legal out inside : Bool) → inside ≡ true → (named ≡ true → legal ≡ true) → (named && beq out false) ≡ ((legal && not out) && beq named inside)
bools_named true legal true inside is h = sym (ap (λ b. b && beq true inside) (and-false legal))
bools_named true legal false inside is h = sym (ap (λ b. (b && true) && beq true inside) (h refl) ∙ ap (λ b. beq true b) is)
bools_named false legal out inside is h = sym (ap (λ b. (legal && not out) && beq false b) is ∙ and-false (legal && not out))

short_is_legal : (texts : List (List ℕ)) (t : List ℕ) → All IsShort texts → has_text texts t ≡ true → nat_le (length t) 1024 ≡ true
short_is_legal texts t short there =
    let found = Any-from_list_any (bytes_eq t) texts there in
    let is : get_or texts found.0 found.1 ≡ t = found.3 ∙ sym (same_text t found.1 found.4) in
    le-leb (length t) 1024 (omega (arith, short found.0 found.1 found.2, ap length is))

pub named_others : (texts named found : List (List ℕ)) (inside : Bool) → inside ≡ true → All IsShort named → ((t : List ℕ) → has_text found t ≡ (has_text named t && beq (has_text texts t) false))
    → (d : Datum) → has_value (Texts found) d ≡ (has_value (OtherTexts texts) d && beq (has_value (Texts named) d) inside)
named_others texts named found inside is short keeps (datum.Variant n) = refl
named_others texts named found inside is short keeps (datum.Number x) = refl
named_others texts named found inside is short keeps (datum.Text t) = keeps t ∙ bools_named (has_text named t) (nat_le (length t) 1024) (has_text texts t) inside is (short_is_legal named t short)

bools_other : (legal out named inside : Bool) → inside ≡ false → (legal && not (out || named)) ≡ ((legal && not out) && beq named inside)
bools_other true true named inside is = refl
bools_other true false true inside is = sym (ap (λ b. beq true b) is)
bools_other true false false inside is = sym (ap (λ b. beq false b) is)
bools_other false out named inside is = refl

pub unnamed_others : (texts named found : List (List ℕ)) (inside : Bool) → inside ≡ false → ((t : List ℕ) → has_text found t ≡ (has_text texts t || has_text named t))
    → (d : Datum) → has_value (OtherTexts found) d ≡ (has_value (OtherTexts texts) d && beq (has_value (Texts named) d) inside)
unnamed_others texts named found inside is joins (datum.Variant n) = refl
unnamed_others texts named found inside is joins (datum.Number x) = refl
unnamed_others texts named found inside is joins (datum.Text t) = ap (λ b. nat_le (length t) 1024 && not b) (joins t) ∙ bools_other (nat_le (length t) 1024) (has_text texts t) (has_text named t) inside is

pub copied_some : {X : Type 0} (o : Option (Bor X)) → is_some o ≡ is_some (option_copied o)
copied_some None = refl
copied_some (Some x) = refl
