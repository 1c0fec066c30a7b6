-- Chains of assumptions that grow and shrink at their end.
use Rattle.std.proofs.Common.{◌≡◌, ◌≢◌, ⊎_elim, ℕ, zero, suc, ◌+◌, ◌<◌, ◌≤◌, ◌==◌, List, [], ◌∷◌, ◌++◌, length, drop, take, get_or, Bool, false, refl, ap, sym, ◌∙◌, subst, arith}
use Rattle.std.proofs.Math.ListN.{set, get_or-append}
use Rattle.std.proofs.Math.Seq.{get_or-append_seam, map-set_same}
use Rattle.std.specs.List.{list_any}
use Rattle.std.proofs.lemmas.Bool.{or_parts, cases_eq, eqb-true, false_from_ne_true}
use Rattle.std.proofs.lemmas.List.{length-set, get_or-set_same, get_or-set_other, get_or-take, length_push, get_or_default}
use Rattle.key_table.specs.declared.atom.Atom.{Atom}
use Rattle.contradiction_checker.specs.declared.options.Assumed.{Assumed}
use Rattle.contradiction_checker.specs.Chains.{chain_at, is_in, EndsBy, AreLinked, numbers_of}
use Rattle.contradiction_checker.specs.Turning.{with_truth}

-- nothing is left past the end
drop_past : {X : Type 0} (n : ℕ) (xs : List X) → length xs ≤ n → drop n xs ≡ []
drop_past zero [] past = refl
drop_past (suc n) [] past = refl
drop_past zero (x ∷ xs) past = absurd (omega arith)
drop_past (suc n) (x ∷ xs) past = drop_past n xs (omega arith)

-- the front of a list with one more is the front of the list
take_within : {X : Type 0} (k : ℕ) (xs : List X) (y : X) → k ≤ length xs → take k (xs ++ y ∷ []) ≡ take k xs
take_within zero xs y within = refl
take_within (suc k) [] y within = absurd (omega arith)
take_within (suc k) (x ∷ xs) y within = ap (λ (l : List _). x ∷ l) (take_within k xs y (omega arith))

take_twice : {X : Type 0} (k n : ℕ) (xs : List X) → k ≤ n → take k (take n xs) ≡ take k xs
take_twice zero n xs within = refl
take_twice (suc k) zero xs within = absurd (omega arith)
take_twice (suc k) (suc n) [] within = refl
take_twice (suc k) (suc n) (x ∷ xs) within = ap (λ (l : List _). x ∷ l) (take_twice k n xs (omega arith))

length_taken : {X : Type 0} (n : ℕ) (xs : List X) → n ≤ length xs → length (take n xs) ≡ n
length_taken zero xs within = refl
length_taken (suc n) [] within = absurd (omega arith)
length_taken (suc n) (x ∷ xs) within = ap (λ (m : ℕ). suc m) (length_taken n xs (omega arith))

-- where none from a place on passes a test, none of fewer does
none_fewer : {X : Type 0} (p : X → Bool) (n h : ℕ) (xs : List X) → list_any p (drop h xs) ≡ false → list_any p (drop h (take n xs)) ≡ false
none_fewer p zero h xs none = ap (list_any p) (drop_past h [] (omega arith))
none_fewer p (suc n) h [] none = none
none_fewer p (suc n) zero (x ∷ xs) none =
    let parts = or_parts (p x) (list_any p xs) none in
    rw parts.0 (none_fewer p n zero xs parts.1)
none_fewer p (suc n) (suc h) (x ∷ xs) none = none_fewer p n h xs none

-- nor where one more fails it
none_more : {X : Type 0} (p : X → Bool) (h : ℕ) (xs : List X) (y : X) → p y ≡ false → list_any p (drop h xs) ≡ false → list_any p (drop h (xs ++ y ∷ [])) ≡ false
none_more p zero [] y fails none = rw fails refl
none_more p (suc h) [] y fails none = ap (list_any p) (drop_past h [] (omega arith))
none_more p zero (x ∷ xs) y fails none =
    let parts = or_parts (p x) (list_any p xs) none in
    rw parts.0 (none_more p zero xs y fails parts.1)
none_more p (suc h) (x ∷ xs) y fails none = none_more p h xs y fails none

-- at the end nothing is left of a chain
pub ends_past : (atoms : List Atom) (count chain : ℕ) (numbers : List ℕ) (end : ℕ) → length numbers ≤ end → EndsBy atoms count chain numbers end
ends_past atoms count chain numbers end past = ap (list_any (is_in atoms count chain)) (drop_past end numbers past)

pub eqb-other : (x y : ℕ) → x ≢ y → (x == y) ≡ false
eqb-other x y other = false_from_ne_true (x == y) (λ is. other (eqb-true x y is))

-- where there is no assumption, all are linked, whatever the heads
pub linked_none : (atoms : List Atom) (count : ℕ) (heads : List ℕ) → AreLinked atoms count [] [] heads
linked_none atoms count heads = record {
  lengths = refl;
  linked = λ k within. absurd (omega arith);
  headed = λ chain within. ends_past atoms count chain [] (get_or heads chain 0) (omega arith);
}

-- The heads of chains after an assumption came: its chain's head is past the end.
abbrev pub Headed : List Atom → ℕ → List ℕ → List ℕ → Type 0
Headed atoms count numbers heads = (chain : ℕ) → chain < length heads → EndsBy atoms count chain numbers (get_or heads chain 0)

-- one chain's head is set, and the others stay right
headed_set : (atoms : List Atom) (count : ℕ) (numbers heads : List ℕ) (chain head : ℕ) → EndsBy atoms count chain numbers head → ((other : ℕ) → other < length heads → other ≢ chain → EndsBy atoms count other numbers (get_or heads other 0)) → Headed atoms count numbers (set heads chain head)
headed_set atoms count numbers heads chain head ends others = λ c within.
    let P : ℕ → Type 0 = λ h. EndsBy atoms count c numbers h in
    ⊎_elim
    (λ (same : c ≡ chain).
    let Q : ℕ → Type 0 = λ k. EndsBy atoms count k numbers (get_or (set heads chain head) k 0) in
    let R : ℕ → Type 0 = λ h. EndsBy atoms count chain numbers h in
    subst Q (sym same) (subst R (sym (get_or-set_same heads chain head 0 (omega (arith, within, same, length-set heads chain head)))) ends))
    (λ (other : c ≢ chain). subst P (sym (get_or-set_other heads chain c head 0 other)) (others c (omega (arith, within, length-set heads chain head)) other))
    (cases_eq c chain)

same_end : (atoms : List Atom) (count c d : ℕ) (ms ns : List ℕ) (e f : ℕ) → c ≡ d → ms ≡ ns → e ≡ f → EndsBy atoms count d ns f → EndsBy atoms count c ms e
same_end atoms count c d ms ns e f chains lists ends known =
    ap (λ (k : ℕ). list_any (is_in atoms count k) (drop e ms)) chains
    ∙ ap (λ (l : List ℕ). list_any (is_in atoms count d) (drop e l)) lists
    ∙ ap (λ (n : ℕ). list_any (is_in atoms count d) (drop n ns)) ends
    ∙ known

take_whole : {X : Type 0} (xs : List X) (y : X) → take (length xs) (xs ++ y ∷ []) ≡ xs
take_whole [] y = refl
take_whole (x ∷ xs) y = ap (λ (l : List _). x ∷ l) (take_whole xs y)

-- One assumption more stays linked, where it has the place by which its chain ended, and its chain ends with it.
pub linked_push : (atoms : List Atom) (count : ℕ) (numbers before heads : List ℕ) (x b : ℕ) → EndsBy atoms count (chain_at atoms count x) numbers b → AreLinked atoms count numbers before heads → AreLinked atoms count (numbers ++ x ∷ []) (before ++ b ∷ []) (set heads (chain_at atoms count x) (length numbers + 1))
linked_push atoms count numbers before heads x b ends l =
    let chain = chain_at atoms count in
    record {
      lengths = omega (arith, length_push numbers x, length_push before b, l.lengths);
      linked = λ k within.
          let seam : k ≡ length numbers → EndsBy atoms count (chain (get_or (numbers ++ x ∷ []) k 0)) (take k (numbers ++ x ∷ [])) (get_or (before ++ b ∷ []) k 0) = λ is.
          let P : ℕ → Type 0 = λ n. EndsBy atoms count (chain (get_or (numbers ++ x ∷ []) n 0)) (take n (numbers ++ x ∷ [])) (get_or (before ++ b ∷ []) n 0) in
          let last : get_or (before ++ b ∷ []) (length numbers) 0 ≡ b = ap (λ (n : ℕ). get_or (before ++ b ∷ []) n 0) (sym l.lengths) ∙ get_or-append_seam before b [] 0 in
          subst P (sym is) (same_end atoms count (chain (get_or (numbers ++ x ∷ []) (length numbers) 0)) (chain x) (take (length numbers) (numbers ++ x ∷ [])) numbers (get_or (before ++ b ∷ []) (length numbers) 0) b (ap chain (get_or-append_seam numbers x [] 0)) (take_whole numbers x) last ends) in
          ⊎_elim
          seam
          (λ (other : k ≢ length numbers).
          let less : k < length numbers = omega (arith, within, length_push numbers x, other) in
          same_end atoms count (chain (get_or (numbers ++ x ∷ []) k 0)) (chain (get_or numbers k 0)) (take k (numbers ++ x ∷ [])) (take k numbers) (get_or (before ++ b ∷ []) k 0) (get_or before k 0)
          (ap chain (get_or-append numbers (x ∷ []) 0 k less)) (take_within k numbers x (omega arith)) (get_or-append before (b ∷ []) 0 k (omega (arith, l.lengths))) (l.linked k less))
          (cases_eq k (length numbers));
      headed = headed_set atoms count (numbers ++ x ∷ []) heads (chain x) (length numbers + 1)
          (ends_past atoms count (chain x) (numbers ++ x ∷ []) (length numbers + 1) (omega (arith, length_push numbers x)))
          (λ c within other. none_more (is_in atoms count c) (get_or heads c 0) numbers x (eqb-other (chain x) c (λ is. other (sym is))) (l.headed c within));
    }

-- One assumption less stays linked, where its chain ends by the place that it had.
pub linked_pop : (atoms : List Atom) (count : ℕ) (numbers before heads : List ℕ) (n : ℕ) → length numbers ≡ n + 1 → AreLinked atoms count numbers before heads → AreLinked atoms count (take n numbers) (take n before) (set heads (chain_at atoms count (get_or numbers n 0)) (get_or before n 0))
linked_pop atoms count numbers before heads n has l =
    let chain = chain_at atoms count in
    let fewer : length (take n numbers) ≡ n = length_taken n numbers (omega arith) in
    record {
      lengths = length_taken n before (omega (arith, l.lengths)) ∙ sym fewer;
      linked = λ k within.
          let less : k < n = omega (arith, within, fewer) in
          same_end atoms count (chain (get_or (take n numbers) k 0)) (chain (get_or numbers k 0)) (take k (take n numbers)) (take k numbers) (get_or (take n before) k 0) (get_or before k 0)
          (ap chain (get_or-take n numbers k 0 less)) (take_twice k n numbers (omega arith)) (get_or-take n before k 0 less) (l.linked k (omega arith));
      headed = headed_set atoms count (take n numbers) heads (chain (get_or numbers n 0)) (get_or before n 0)
          (l.linked n (omega arith))
          (λ c within other. none_fewer (is_in atoms count c) n (get_or heads c 0) numbers (l.headed c within));
    }

numbers_taken : (n : ℕ) (assumed : List Assumed) → numbers_of (take n assumed) ≡ take n (numbers_of assumed)
numbers_taken zero assumed = refl
numbers_taken (suc n) [] = refl
numbers_taken (suc n) (a ∷ assumed) = ap (λ (l : List ℕ). a.atom ∷ l) (numbers_taken n assumed)

number_at : (assumed : List Assumed) (n : ℕ) (a : Assumed) → n < length assumed → get_or (numbers_of assumed) n 0 ≡ (get_or assumed n a).atom
number_at [] n a within = absurd (omega arith)
number_at (x ∷ assumed) zero a within = refl
number_at (x ∷ assumed) (suc n) a within = number_at assumed n a (omega arith)

pub numbers_count : (assumed : List Assumed) → length (numbers_of assumed) ≡ length assumed
numbers_count [] = refl
numbers_count (a ∷ assumed) = ap (λ (n : ℕ). suc n) (numbers_count assumed)

numbers_more : (assumed : List Assumed) (a : Assumed) → numbers_of (assumed ++ a ∷ []) ≡ numbers_of assumed ++ a.atom ∷ []
numbers_more [] a = refl
numbers_more (b ∷ assumed) a = ap (λ (l : List ℕ). b.atom ∷ l) (numbers_more assumed a)

-- An assumption comes, and its chain ends with it.
pub pushed_linked : (atoms : List Atom) (count : ℕ) (assumed : List Assumed) (before heads : List ℕ) (x b chain next : ℕ) (truth : Bool) → chain ≡ chain_at atoms count x → next ≡ length assumed + 1 → EndsBy atoms count chain (numbers_of assumed) b → AreLinked atoms count (numbers_of assumed) before heads → AreLinked atoms count (numbers_of (assumed ++ with_truth x truth ∷ [])) (before ++ b ∷ []) (set heads chain next)
pushed_linked atoms count assumed before heads x b chain next truth in_chain is_next ends l =
    let P : ℕ → Type 0 = λ c. EndsBy atoms count c (numbers_of assumed) b in
    let pushed = linked_push atoms count (numbers_of assumed) before heads x b (subst P in_chain ends) l in
    let Q : List ℕ → Type 0 = λ ns. AreLinked atoms count ns (before ++ b ∷ []) (set heads chain next) in
    let R : ℕ → Type 0 = λ c. AreLinked atoms count (numbers_of assumed ++ x ∷ []) (before ++ b ∷ []) (set heads c next) in
    let S : ℕ → Type 0 = λ n. AreLinked atoms count (numbers_of assumed ++ x ∷ []) (before ++ b ∷ []) (set heads (chain_at atoms count x) n) in
    let at : length (numbers_of assumed) + 1 ≡ next = omega (arith, is_next, numbers_count assumed) in
    subst Q (sym (numbers_more assumed (with_truth x truth))) (subst R (sym in_chain) (subst S at pushed))

-- The last assumption is dropped, and its chain ends by the place that it had.
pub popped_linked : (atoms : List Atom) (count : ℕ) (assumed : List Assumed) (before heads : List ℕ) (n : ℕ) (a : Assumed) (b d : ℕ) → length assumed ≡ n + 1 → a ≡ get_or assumed n a → b ≡ get_or before n d → AreLinked atoms count (numbers_of assumed) before heads → AreLinked atoms count (numbers_of (take n assumed)) (take n before) (set heads (chain_at atoms count a.atom) b)
popped_linked atoms count assumed before heads n a b d has at_a at_b l =
    let number : get_or (numbers_of assumed) n 0 ≡ a.atom = number_at assumed n a (omega arith) ∙ ap (λ (e : Assumed). e.atom) (sym at_a) in
    let place : get_or before n 0 ≡ b = get_or_default before n 0 d (omega (arith, l.lengths, numbers_count assumed)) ∙ sym at_b in
    let popped = linked_pop atoms count (numbers_of assumed) before heads n (numbers_count assumed ∙ has) l in
    let P : List ℕ → Type 0 = λ ns. AreLinked atoms count ns (take n before) (set heads (chain_at atoms count a.atom) b) in
    let Q : ℕ → Type 0 = λ x. AreLinked atoms count (take n (numbers_of assumed)) (take n before) (set heads (chain_at atoms count x) b) in
    let R : ℕ → Type 0 = λ x. AreLinked atoms count (take n (numbers_of assumed)) (take n before) (set heads (chain_at atoms count (get_or (numbers_of assumed) n 0)) x) in
    subst P (sym (numbers_taken n assumed)) (subst Q number (subst R place popped))

-- Another truth of an assumption changes no chain.
pub turned_linked : (atoms : List Atom) (count : ℕ) (assumed : List Assumed) (before heads : List ℕ) (n : ℕ) (a v : Assumed) → v ≡ with_truth a.atom false → a ≡ get_or assumed n a → AreLinked atoms count (numbers_of assumed) before heads → AreLinked atoms count (numbers_of (set assumed n v)) before heads
turned_linked atoms count assumed before heads n a v falsified at_a l =
    let P : List ℕ → Type 0 = λ ns. AreLinked atoms count ns before heads in
    subst P (sym (map-set_same (λ (e : Assumed). e.atom) assumed n v a (ap (λ (e : Assumed). e.atom) (falsified ∙ ap (λ (e : Assumed). with_truth e.atom false) at_a)))) l
