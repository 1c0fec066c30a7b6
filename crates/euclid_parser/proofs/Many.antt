-- Lists: as many as there are.
use Rattle.std.proofs.Common.{◌≡◌, ℕ, zero, suc, ◌<◌, ◌≤◌, Bool, true, false, cond, ◌⊎◌, inl, inr, List, [], ◌∷◌, ◌++◌, length, Ok, Err, refl, sym, ap, subst, ◌∙◌, arith, length-append}
use Rattle.euclid_grammar.specs.declared.counts.Counts.{Counts}
use Rattle.euclid_lexer.specs.declared.token.Token.{Token}
use Rattle.euclid_grammar.specs.Marks.{Cell, tokens}
use Rattle.key_table.specs.Answers.{◌>>=◌}
use Rattle.euclid_parser.specs.Reader.{Read, Reader, starts, give, both, mapped, by_first, many_at, many}
use Rattle.euclid_parser.proofs.Explained.{Explained, swapped, both_explained, mapped_explained, by_first_explained, give_explained}
use Rattle.euclid_parser.proofs.Walks.{tokens-append, Walks, both_walks, mapped_walks, by_first_walks_first, by_first_walks_second}
use Rattle.euclid_parser.proofs.Readers.{IsReader, Opened, Within, Apart, starts-within, starts-apart, starts-append}

-- the tokens of a list, of which the first is number i
abbrev pub list_cells : {X : Type 0} → (ℕ → X → List Cell) → ℕ → List X → List Cell
list_cells p i [] = []
list_cells p i (x ∷ xs) = p i x ++ list_cells p (suc i) xs

abbrev pub AllFine : {X : Type 0} → (X → Type 0) → List X → Type 0
AllFine g [] = Unit {0}
AllFine g (x ∷ xs) = g x × AllFine g xs

abbrev pub front : {X : Type 0} → X × List X → List X
front z = z.0 ∷ z.1

abbrev followed : {X : Type 0} → Read X → Reader (List X) → Read (List X)
followed r M = r >>= λ a. M a.1 a.2 >>= λ b. Ok (a.0 ∷ b.0, b.1, b.2)

abbrev paired : {X Y : Type 0} → Read X → Reader Y → Read (X × Y)
paired r Q = r >>= λ a. Q a.1 a.2 >>= λ b. Ok ((a.0, b.0), b.1, b.2)

abbrev changed : {X Y : Type 0} → (X → Y) → Read X → Read Y
changed to r = r >>= λ z. Ok (to z.0, z.1, z.2)

abbrev none_left : {X : Type 0} → Reader (List X)
none_left c ts = Ok ([], c, ts)

module _ {X : Type 0} (opens : Token → Bool) (P : ℕ → Reader X) where
  -- the next one and those behind it, or none
  abbrev pub step : ℕ → Reader (List X)
  step i = by_first opens (mapped front (both (P i) (many opens P (suc i)))) (give [])

  module _ (takes : (i : ℕ) (c : Counts) (ts : List Token) (y : X × Counts × List Token) → P i c ts ≡ Ok y → starts opens ts ≡ true → length y.2 < length ts) where
    enough-after : (n m i : ℕ) → ((i : ℕ) (c : Counts) (ts : List Token) → length ts ≤ n → length ts ≤ m → many_at opens P n i c ts ≡ many_at opens P m i c ts)
        → (ts : List Token) → length ts ≤ suc n → length ts ≤ suc m → (r : Read X) → ((y : X × Counts × List Token) → r ≡ Ok y → length y.2 < length ts)
        → followed r (many_at opens P n (suc i)) ≡ followed r (many_at opens P m (suc i))
    enough-after n m i again ts l k (Err f) shorter = refl
    enough-after n m i again ts l k (Ok y) shorter =
        let lt : length y.2 < length ts = shorter y refl in
        rw (again (suc i) y.1 y.2 (omega arith) (omega arith)) refl

    enough-at : (n m i : ℕ) (c : Counts) → ((i : ℕ) (c : Counts) (ts : List Token) → length ts ≤ n → length ts ≤ m → many_at opens P n i c ts ≡ many_at opens P m i c ts)
        → (ts : List Token) → length ts ≤ suc n → length ts ≤ suc m → (b : Bool) → starts opens ts ≡ b
        → cond b (followed (P i c ts) (many_at opens P n (suc i))) (none_left c ts)
        ≡ cond b (followed (P i c ts) (many_at opens P m (suc i))) (none_left c ts)
    enough-at n m i c again ts l k true e = enough-after n m i again ts l k (P i c ts) (λ y is. takes i c ts y is e)
    enough-at n m i c again ts l k false e = refl

    -- any bound that is no less than the tokens serves
    enough : (n m i : ℕ) (c : Counts) (ts : List Token) → length ts ≤ n → length ts ≤ m → many_at opens P n i c ts ≡ many_at opens P m i c ts
    unfolding many_at
    enough zero zero i c ts l k = refl
    enough zero (suc m) i c [] l k = refl
    enough zero (suc m) i c (t ∷ ts) l k = absurd (omega arith)
    enough (suc n) zero i c [] l k = refl
    enough (suc n) zero i c (t ∷ ts) l k = absurd (omega arith)
    enough (suc n) (suc m) i c ts l k = enough-at n m i c (λ i c ts. enough n m i c ts) ts l k (starts opens ts) refl

    many_step-at : (n i : ℕ) (ts : List Token) → length ts ≤ suc n → (r : Read X) → ((y : X × Counts × List Token) → r ≡ Ok y → length y.2 < length ts)
        → followed r (many_at opens P n (suc i))
        ≡ changed front (paired r (many opens P (suc i)))
    unfolding many
    many_step-at n i ts l (Err f) shorter = refl
    many_step-at n i ts l (Ok y) shorter =
        let lt : length y.2 < length ts = shorter y refl in
        rw (enough n (length y.2) (suc i) y.1 y.2 (omega arith) (omega arith)) (at (many_at opens P (length y.2) (suc i) y.1 y.2))
      where
        at : (r : Read (List X)) → changed (λ (xs : List X). y.0 ∷ xs) r ≡ changed front (changed (λ (xs : List X). (y.0, xs)) r)
        at (Ok b) = refl
        at (Err f) = refl

    many_step-by : (n i : ℕ) (c : Counts) (ts : List Token) → length ts ≤ suc n → (b : Bool) → starts opens ts ≡ b
        → cond b (followed (P i c ts) (many_at opens P n (suc i))) (none_left c ts)
        ≡ cond b (mapped front (both (P i) (many opens P (suc i))) c ts) (none_left c ts)
    many_step-by n i c ts l true e = many_step-at n i ts l (P i c ts) (λ y is. takes i c ts y is e)
    many_step-by n i c ts l false e = refl

    pub many_step : (i : ℕ) (c : Counts) (ts : List Token) → many opens P i c ts ≡ step i c ts
    unfolding many many_at
    many_step i c [] = refl
    many_step i c (t ∷ ts) = many_step-by (length ts) i c (t ∷ ts) (omega arith) (opens t) refl

-- what P reads takes a token
pub takes_one : {X : Type 0} (s : X → List Token) (g : X → Type 0) (opens : Token → Bool) (F : List Token → Read X) (ts : List Token) → ((x : X) → g x → starts opens (s x) ≡ true)
    → (r : Read X) → Explained s g F ts r → (y : X × Counts × List Token) → r ≡ Ok y → length y.2 < length ts
takes_one s g opens F ts opened (Err f) a y e = absurd cc
takes_one s g opens F ts opened (Ok z) a y e =
    let is : z ≡ y = cc in
    subst (λ (u : _). length u.2 < length ts) is (at (s z.0) (opened z.0 a.fine) a.split)
  where
    at : (u : List Token) → starts opens u ≡ true → ts ≡ u ++ z.2 → length z.2 < length ts
    at [] o e = absurd cc
    at (t ∷ u) o e = omega (arith, ap length e, length-append u z.2)

module _ {X : Type 0} (p : ℕ → X → List Cell) (g : X → Type 0) (m opens k : Token → Bool) (P : ℕ → Reader X) (a : (i : ℕ) → IsReader (p i) g m (P i)) (opened : (i : ℕ) → Opened (p i) g opens)
    (apart : Apart opens m) (m_within : Within m k) (opens_within : Within opens k) where
  pub steps : (i : ℕ) (c : Counts) (ts : List Token) → many opens P i c ts ≡ step opens P i c ts
  steps i c ts = many_step opens P (λ i c ts y is e. takes_one (λ (x : X). tokens (p i x)) g opens (P i c) ts (opened i) (P i c ts) ((a i).explains c ts) y is) i c ts

  explained-step : (i : ℕ) (c : Counts) (ts : List Token)
      → ((c' : Counts) (us : List Token) → length us < length ts → Explained (λ (xs : List X). tokens (list_cells p (suc i) xs)) (AllFine g) (many opens P (suc i) c') us (many opens P (suc i) c' us))
      → Explained (λ (xs : List X). tokens (list_cells p i xs)) (AllFine g) (many opens P i c) ts (many opens P i c ts)
  explained-step i c ts again =
      let S : List X → List Token = λ xs. tokens (list_cells p i xs) in
      subst (λ (r : Read (List X)). Explained S (AllFine g) (many opens P i c) ts r) (sym (steps i c ts))
      (swapped S (AllFine g) (step opens P i c) (many opens P i c) ts (step opens P i c ts) (λ u same. steps i c u)
      (by_first_explained S (AllFine g) opens (mapped front (both (P i) (many opens P (suc i)))) (give []) c ts
      (λ e.
      mapped_explained (λ (z : X × List X). tokens (p i z.0) ++ tokens (list_cells p (suc i) z.1)) (λ (z : X × List X). g z.0 × AllFine g z.1) S (AllFine g) front (both (P i) (many opens P (suc i))) c ts
      (λ z fine. (fine, tokens-append (p i z.0) (list_cells p (suc i) z.1)))
      (both_explained (λ (x : X). tokens (p i x)) g (λ (xs : List X). tokens (list_cells p (suc i) xs)) (AllFine g) (P i) (many opens P (suc i)) c ts [] tt refl ((a i).explains c ts)
      (λ y is. again y.1 y.2 (takes_one (λ (x : X). tokens (p i x)) g opens (P i c) ts (opened i) (P i c ts) ((a i).explains c ts) y is))))
      (λ e. give_explained S (AllFine g) [] tt refl c ts)))

  many_explained : (n i : ℕ) (c : Counts) (ts : List Token) → length ts < n → Explained (λ (xs : List X). tokens (list_cells p i xs)) (AllFine g) (many opens P i c) ts (many opens P i c ts)
  many_explained zero i c ts l = absurd (omega arith)
  many_explained (suc n) i c ts l = explained-step i c ts (λ c' us lt. many_explained n (suc i) c' us (omega arith))

  many_walks : (xs : List X) (i : ℕ) (c : Counts) (w : List Token) → AllFine g xs → starts k w ≡ false → Walks (list_cells p i) (many opens P i) c xs w
  many_walks [] i c w fine e = steps i c w ∙ by_first_walks_second (list_cells p i) opens (mapped front (both (P i) (many opens P (suc i)))) (give []) c [] w (starts-within opens k opens_within w e) refl
  many_walks (x ∷ xs) i c w fine e =
      steps i c (tokens (list_cells p i (x ∷ xs)) ++ w)
      ∙ by_first_walks_first (list_cells p i) opens (mapped front (both (P i) (many opens P (suc i)))) (give []) c (x ∷ xs) w first_opens
      (mapped_walks (λ (z : X × List X). p i z.0 ++ list_cells p (suc i) z.1) (list_cells p i) front (both (P i) (many opens P (suc i))) c (x, xs) w refl
      (both_walks (p i) (list_cells p (suc i)) (P i) (many opens P (suc i)) c x xs w
      ((a i).walks c x (tokens (list_cells p (suc i) xs) ++ w) fine.0 (next_apart xs fine.1))
      (λ c'. many_walks xs (suc i) c' w fine.1 e)))
    where
      first_opens : starts opens (tokens (p i x ++ list_cells p (suc i) xs) ++ w) ≡ true
      first_opens =
          starts-append opens (tokens (p i x ++ list_cells p (suc i) xs)) w
          (ap (starts opens) (tokens-append (p i x) (list_cells p (suc i) xs)) ∙ starts-append opens (tokens (p i x)) (tokens (list_cells p (suc i) xs)) (opened i x fine.0))

      next_apart : (ys : List X) → AllFine g ys → starts m (tokens (list_cells p (suc i) ys) ++ w) ≡ false
      next_apart [] ys_fine = starts-within m k m_within w e
      next_apart (y ∷ ys) ys_fine =
          ap (λ (u : List Token). starts m (u ++ w)) (tokens-append (p (suc i) y) (list_cells p (suc (suc i)) ys))
          ∙ starts-apart opens m apart (tokens (p (suc i) y) ++ tokens (list_cells p (suc (suc i)) ys)) w (starts-append opens (tokens (p (suc i) y)) (tokens (list_cells p (suc (suc i)) ys)) (opened (suc i) y ys_fine.0))

  pub many_reads : (i : ℕ) → IsReader (list_cells p i) (AllFine g) k (many opens P i)
  many_reads i = record {
    some = [];
    some_fine = tt;
    some_written = refl;
    explains = λ c ts. many_explained (suc (length ts)) i c ts (omega arith);
    walks = λ c xs w fine e. many_walks xs i c w fine e;
  }

  pub list_opened : (i : ℕ) (xs : List X) → AllFine g xs → (tokens (list_cells p i xs) ≡ []) ⊎ (starts opens (tokens (list_cells p i xs)) ≡ true)
  list_opened i [] fine = inl refl
  list_opened i (x ∷ xs) fine = inr (ap (starts opens) (tokens-append (p i x) (list_cells p (suc i) xs)) ∙ starts-append opens (tokens (p i x)) (tokens (list_cells p (suc i) xs)) (opened i x fine.0))
