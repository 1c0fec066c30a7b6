-- Readers that give exactly what is spelled, with the first fault, and how they join.
use Rattle.std.proofs.Common.{◌≡◌, Bool, true, false, cond, ◌⊎◌, inl, inr, List, [], ◌∷◌, ◌++◌, length, Option, Some, None, Err, refl, sym, ap, subst, ◌∙◌}
use Rattle.euclid_grammar.specs.declared.counts.Counts.{Counts}
use Rattle.euclid_lexer.specs.declared.token.Token.{Token}
use Rattle.euclid_lexer.specs.Pieces.{can_be_written}
use Rattle.euclid_parser.specs.declared.fault.Code.TheVariants.{TooMuch}
use Rattle.euclid_grammar.specs.Marks.{Mark, Cell, plain, tokens, beginning}
use Rattle.euclid_grammar.specs.Fits.{is_over, after_mark}
use Rattle.euclid_parser.proofs.Judge.{judge}
use Rattle.euclid_parser.proofs.Written.{AllWritten, written_append, written_one}
use Rattle.euclid_parser.specs.Reader.{Reader, starts, too_much, give, one, both, mapped, by_first, either, optional, marked, limited}
use Rattle.euclid_parser.proofs.Explained.{Explained, respelled, both_explained, mapped_explained, by_first_explained, give_explained, wall_explained, one_explained}
use Rattle.euclid_parser.proofs.Walks.{tokens-append, tokens-beginning, carried, Walks, both_walks, mapped_walks, by_first_walks_first, by_first_walks_second, give_walks, one_walks, limited_walks}

-- P reads what p spells, where g holds of it and no token of may follows; there is something of that which can be written
pub record IsReader {X : Type 0} (p : X → List Cell) (g : X → Type 0) (may : Token → Bool) (P : Reader X) : Type 0 where
  pub some : X
  pub some_fine : g some
  pub some_written : AllWritten (tokens (p some))
  pub explains : (c : Counts) (ts : List Token) → Explained (λ (x : X). tokens (p x)) g (P c) ts (P c ts)
  pub walks : (c : Counts) (x : X) (w : List Token) → g x → starts may w ≡ false → Walks p P c x w

-- what is spelled has a first token, and it is one of these
abbrev pub Opened : {X : Type 0} (p : X → List Cell) (g : X → Type 0) (opens : Token → Bool) → Type 0
Opened p g opens = (x : _) → g x → starts opens (tokens (p x)) ≡ true

-- each of these tokens begins something that goes on with tokens that can be written
abbrev pub Begun : {X : Type 0} (p : X → List Cell) (g : X → Type 0) (opens : Token → Bool) → Type 0
Begun p g opens = (t : Token) → opens t ≡ true → (x : _) × g x × (v : List Token) × (tokens (p x) ≡ t ∷ v) × AllWritten v

abbrev pub Within : (Token → Bool) → (Token → Bool) → Type 0
Within n k = (t : Token) → k t ≡ false → n t ≡ false

abbrev pub Apart : (Token → Bool) → (Token → Bool) → Type 0
Apart opens m = (t : Token) → opens t ≡ true → m t ≡ false

pub starts-within : (n k : Token → Bool) → Within n k → (w : List Token) → starts k w ≡ false → starts n w ≡ false
starts-within n k h [] e = refl
starts-within n k h (t ∷ w) e = h t e

pub starts-apart : (opens m : Token → Bool) → Apart opens m → (u w : List Token) → starts opens u ≡ true → starts m (u ++ w) ≡ false
starts-apart opens m h [] w e = absurd cc
starts-apart opens m h (t ∷ u) w e = h t e

pub starts-append : (opens : Token → Bool) (u w : List Token) → starts opens u ≡ true → starts opens (u ++ w) ≡ true
starts-append opens [] w e = absurd cc
starts-append opens (t ∷ u) w e = e

module _ {X Y : Type 0} (p : X → List Cell) (g : X → Type 0) (m : Token → Bool) (P : Reader X) (q : Y → List Cell) (h : Y → Type 0) (n : Token → Bool) (Q : Reader Y) (k : Token → Bool)
    (a : IsReader p g m P) (b : IsReader q h n Q) where
  pub both_reads : ((y : Y) (w : List Token) → h y → starts k w ≡ false → starts m (tokens (q y) ++ w) ≡ false) → Within n k
      → IsReader (λ (z : X × Y). p z.0 ++ q z.1) (λ (z : X × Y). g z.0 × h z.1) k (both P Q)
  both_reads apart within = record {
    some = (a.some, b.some);
    some_fine = (a.some_fine, b.some_fine);
    some_written = subst AllWritten (sym (tokens-append (p a.some) (q b.some))) (written_append (tokens (p a.some)) (tokens (q b.some)) a.some_written b.some_written);
    explains = λ c ts.
        respelled (λ (z : X × Y). tokens (p z.0) ++ tokens (q z.1)) (λ (z : X × Y). tokens (p z.0 ++ q z.1)) (λ (z : X × Y). g z.0 × h z.1) (λ (z : X × Y). g z.0 × h z.1) (both P Q c) ts (both P Q c ts)
        (λ z fine. (fine, tokens-append (p z.0) (q z.1)))
        (both_explained (λ (x : X). tokens (p x)) g (λ (y : Y). tokens (q y)) h P Q c ts b.some b.some_fine b.some_written (a.explains c ts) (λ y e. b.explains y.1 y.2));
    walks = λ c z w fine e.
        both_walks p q P Q c z.0 z.1 w (a.walks c z.0 (tokens (q z.1) ++ w) fine.0 (apart z.1 w fine.1 e)) (λ k'. b.walks k' z.1 w fine.1 (starts-within n k within w e));
  }

  -- where the second is never empty, and begins with no token that the first may go on with
  pub firm : (opens : Token → Bool) → Opened q h opens → Apart opens m → Within n k
      → IsReader (λ (z : X × Y). p z.0 ++ q z.1) (λ (z : X × Y). g z.0 × h z.1) k (both P Q)
  firm opens opened apart within = both_reads (λ y w fine e. starts-apart opens m apart (tokens (q y)) w (opened y fine)) within

  -- where the second may be empty
  pub loose : (opens : Token → Bool) → ((y : Y) → h y → (tokens (q y) ≡ []) ⊎ (starts opens (tokens (q y)) ≡ true)) → Apart opens m → Within m k → Within n k
      → IsReader (λ (z : X × Y). p z.0 ++ q z.1) (λ (z : X × Y). g z.0 × h z.1) k (both P Q)
  loose opens opened apart first_within within = both_reads (λ y w fine e. at y w e (opened y fine)) within
    where
      at : (y : Y) (w : List Token) → starts k w ≡ false → (tokens (q y) ≡ []) ⊎ (starts opens (tokens (q y)) ≡ true) → starts m (tokens (q y) ++ w) ≡ false
      at y w e (inl empty) = rw empty (starts-within m k first_within w e)
      at y w e (inr opened) = starts-apart opens m apart (tokens (q y)) w opened

pub mapped_reads : {X Y : Type 0} (p : X → List Cell) (g : X → Type 0) (m : Token → Bool) (P : Reader X) (q : Y → List Cell) (h : Y → Type 0) (to : X → Y)
    → IsReader p g m P → ((x : X) → g x → h (to x) × (q (to x) ≡ p x)) → ((y : Y) → h y → (x : X) × g x × (to x ≡ y)) → IsReader q h m (mapped to P)
mapped_reads p g m P q h to a there back = record {
  some = to a.some;
  some_fine = (there a.some a.some_fine).0;
  some_written = subst (λ (ps : List Cell). AllWritten (tokens ps)) (sym (there a.some a.some_fine).1) a.some_written;
  explains = λ c ts. mapped_explained (λ (x : _). tokens (p x)) g (λ (y : _). tokens (q y)) h to P c ts (λ x fine. ((there x fine).0, ap tokens (there x fine).1)) (a.explains c ts);
  walks = λ c y w fine e.
      let b = back y fine in
      subst (λ (y' : _). Walks q (mapped to P) c y' w) b.2 (mapped_walks p q to P c b.0 w (there b.0 b.1).1 (a.walks c b.0 w b.1 e));
}

module _ {X : Type 0} (p : X → List Cell) where
  pub by_first_reads : (g h l : X → Type 0) (m n k opens : Token → Bool) (P Q : Reader X) → IsReader p g m P → IsReader p h n Q → ((x : X) → g x → l x) → ((x : X) → h x → l x)
      → ((x : X) → l x → (g x × (starts opens (tokens (p x)) ≡ true)) ⊎ (h x × ((w : List Token) → starts k w ≡ false → starts opens (tokens (p x) ++ w) ≡ false)))
      → Within m k → Within n k → IsReader p l k (by_first opens P Q)
  by_first_reads g h l m n k opens P Q a b from_g from_h splits m_within n_within = record {
    some = a.some;
    some_fine = from_g a.some a.some_fine;
    some_written = a.some_written;
    explains = λ c ts.
        by_first_explained (λ (x : X). tokens (p x)) l opens P Q c ts
        (λ e. respelled (λ (x : X). tokens (p x)) (λ (x : X). tokens (p x)) g l (P c) ts (P c ts) (λ x fine. (from_g x fine, refl)) (a.explains c ts))
        (λ e. respelled (λ (x : X). tokens (p x)) (λ (x : X). tokens (p x)) h l (Q c) ts (Q c ts) (λ x fine. (from_h x fine, refl)) (b.explains c ts));
    walks = λ c x w fine e. at c x w e (splits x fine);
  }
    where
      at : (c : Counts) (x : X) (w : List Token) → starts k w ≡ false
          → (g x × (starts opens (tokens (p x)) ≡ true)) ⊎ (h x × ((w : List Token) → starts k w ≡ false → starts opens (tokens (p x) ++ w) ≡ false)) → Walks p (by_first opens P Q) c x w
      at c x w e (inl s) = by_first_walks_first p opens P Q c x w (starts-append opens (tokens (p x)) w s.1) (a.walks c x w s.0 (starts-within m k m_within w e))
      at c x w e (inr s) = by_first_walks_second p opens P Q c x w (s.1 w e) (b.walks c x w s.0 (starts-within n k n_within w e))

  pub one_reads : (g : X → Type 0) (value : Token → Option X) (make : X → Token) (x0 : X) → g x0 → can_be_written (make x0) ≡ true → ((x : X) → p x ≡ plain (make x) ∷ [])
      → ((t : Token) (x : X) → value t ≡ Some x → g x × (t ≡ make x)) → ((x : X) → g x → value (make x) ≡ Some x) → IsReader p g (λ _. false) (one value)
  one_reads g value make x0 x0_fine x0_written spelled read again = record {
    some = x0;
    some_fine = x0_fine;
    some_written = written;
    explains = λ c ts. one_explained (λ (x : X). tokens (p x)) g value make x0 x0_fine written (λ x. ap tokens (spelled x)) read again c ts;
    walks = λ c x w fine e. one_walks p value (make x) c x w (spelled x) (again x fine);
  }
    where
      written : AllWritten (tokens (p x0))
      written = subst (λ (ps : List Cell). AllWritten (tokens ps)) (sym (spelled x0)) (written_one (make x0) x0_written)

  pub give_reads : (g : X → Type 0) (x0 : X) → g x0 → p x0 ≡ [] → ((x : X) → g x → x0 ≡ x) → IsReader p g (λ _. false) (give x0)
  give_reads g x0 fine empty only = record {
    some = x0;
    some_fine = fine;
    some_written = subst (λ (ps : List Cell). AllWritten (tokens ps)) (sym empty) refl;
    explains = λ c ts. give_explained (λ (x : X). tokens (p x)) g x0 fine (ap tokens empty) c ts;
    walks = λ c x w x_fine e. subst (λ (y : X). Walks p (give x0) c y w) (only x x_fine) (give_walks p x0 c w empty);
  }

  pub limited_reads : (g : X → Type 0) (m opens : Token → Bool) (P : Reader X) (mark : Mark) → IsReader p g m P → Opened p g opens → Begun p g opens
      → IsReader (λ (x : X). beginning mark (p x)) g m (limited mark opens P)
  limited_reads g m opens P mark a opened begun = record {
    some = a.some;
    some_fine = a.some_fine;
    some_written = subst AllWritten (sym (tokens-beginning mark (p a.some))) a.some_written;
    explains = λ c ts.
        respelled (λ (x : X). tokens (p x)) (λ (x : X). tokens (beginning mark (p x))) g g (limited mark opens P c) ts (limited mark opens P c ts)
        (λ x fine. (fine, tokens-beginning mark (p x)))
        (at c ts (is_over c mark));
    walks = λ c x w fine e. limited_walks p (λ (y : X). beginning mark (p y)) mark opens P c x w refl (opened x fine) (a.walks (after_mark c mark) x w fine e);
  }
    where
      at : (c : Counts) (ts : List Token) (b : Bool)
          → Explained (λ (x : X). tokens (p x)) g (λ (ts : List Token). cond b (by_first opens too_much (marked mark P) c ts) (marked mark P c ts)) ts (cond b (by_first opens too_much (marked mark P) c ts) (marked mark P c ts))
      at c ts true =
          by_first_explained (λ (x : X). tokens (p x)) g opens too_much (marked mark P) c ts
          (λ e. wall_explained (λ (x : X). tokens (p x)) g opens begun c ts e) (λ e. a.explains (after_mark c mark) ts)
      at c ts false = a.explains (after_mark c mark) ts

-- ---- what may be left out

abbrev pub option_cells : {X : Type 0} → (X → List Cell) → Option X → List Cell
option_cells p None = []
option_cells p (Some x) = p x

abbrev pub OptionFine : {X : Type 0} → (X → Type 0) → Option X → Type 0
OptionFine g None = Unit {0}
OptionFine g (Some x) = g x

abbrev IsThere : {X : Type 0} → (X → Type 0) → Option X → Type 0
IsThere g None = ⊥
IsThere g (Some x) = g x

abbrev IsLeftOut : {X : Type 0} → Option X → Type 0
IsLeftOut None = Unit {0}
IsLeftOut (Some x) = ⊥

module _ {X : Type 0} (p : X → List Cell) (g : X → Type 0) (m opens k : Token → Bool) (P : Reader X) where
  pub optional_reads : IsReader p g m P → Opened p g opens → Within m k → Within opens k → IsReader (option_cells p) (OptionFine g) k (optional opens P)
  optional_reads a opened m_within opens_within =
      by_first_reads (option_cells p) (IsThere g) IsLeftOut (OptionFine g) m (λ _. false) k opens (mapped Some P) (give None)
      (mapped_reads p g m P (option_cells p) (IsThere g) Some a (λ x fine. (fine, refl)) back)
      (give_reads (option_cells p) IsLeftOut None tt refl only)
      there left_out splits m_within (λ t e. refl)
    where
      back : (o : Option X) → IsThere g o → (x : X) × g x × (Some x ≡ o)
      back None fine = absurd fine
      back (Some x) fine = (x, fine, refl)

      only : (o : Option X) → IsLeftOut o → None ≡ o
      only None fine = refl
      only (Some x) fine = absurd fine

      there : (o : Option X) → IsThere g o → OptionFine g o
      there None fine = absurd fine
      there (Some x) fine = fine

      left_out : (o : Option X) → IsLeftOut o → OptionFine g o
      left_out None fine = tt
      left_out (Some x) fine = absurd fine

      splits : (o : Option X) → OptionFine g o → (IsThere g o × (starts opens (tokens (option_cells p o)) ≡ true)) ⊎ (IsLeftOut o × ((w : List Token) → starts k w ≡ false → starts opens (tokens (option_cells p o) ++ w) ≡ false))
      splits None fine = inr (tt, λ w e. starts-within opens k opens_within w e)
      splits (Some x) fine = inl (fine, opened x fine)

-- ---- one of two

abbrev pub sum_cells : {X Y : Type 0} → (X → List Cell) → (Y → List Cell) → X ⊎ Y → List Cell
sum_cells p q (inl x) = p x
sum_cells p q (inr y) = q y

abbrev pub SumFine : {X Y : Type 0} → (X → Type 0) → (Y → Type 0) → X ⊎ Y → Type 0
SumFine g h (inl x) = g x
SumFine g h (inr y) = h y

abbrev IsTheFirst : {X Y : Type 0} → (X → Type 0) → X ⊎ Y → Type 0
IsTheFirst g (inl x) = g x
IsTheFirst g (inr y) = ⊥

abbrev IsTheSecond : {X Y : Type 0} → (Y → Type 0) → X ⊎ Y → Type 0
IsTheSecond h (inl x) = ⊥
IsTheSecond h (inr y) = h y

module _ {X Y : Type 0} (p : X → List Cell) (g : X → Type 0) (m : Token → Bool) (P : Reader X) (q : Y → List Cell) (h : Y → Type 0) (n : Token → Bool) (Q : Reader Y) (k opens others : Token → Bool) where
  -- where the second begins with a token of others, none of which is one of opens
  pub either_reads : IsReader p g m P → IsReader q h n Q → Opened p g opens → Opened q h others → Apart others opens → Within m k → Within n k
      → IsReader (sum_cells p q) (SumFine g h) k (either opens P Q)
  either_reads a b opened opened_others apart m_within n_within =
      by_first_reads (sum_cells p q) (IsTheFirst g) (IsTheSecond h) (SumFine g h) m n k opens (mapped inl P) (mapped inr Q)
      (mapped_reads p g m P (sum_cells p q) (IsTheFirst g) inl a (λ x fine. (fine, refl)) left_back)
      (mapped_reads q h n Q (sum_cells p q) (IsTheSecond h) inr b (λ y fine. (fine, refl)) right_back)
      from_left from_right splits m_within n_within
    where
      left_back : (z : X ⊎ Y) → IsTheFirst g z → (x : X) × g x × (inl x ≡ z)
      left_back (inl x) fine = (x, fine, refl)
      left_back (inr y) fine = absurd fine

      right_back : (z : X ⊎ Y) → IsTheSecond h z → (y : Y) × h y × (inr y ≡ z)
      right_back (inl x) fine = absurd fine
      right_back (inr y) fine = (y, fine, refl)

      from_left : (z : X ⊎ Y) → IsTheFirst g z → SumFine g h z
      from_left (inl x) fine = fine
      from_left (inr y) fine = absurd fine

      from_right : (z : X ⊎ Y) → IsTheSecond h z → SumFine g h z
      from_right (inl x) fine = absurd fine
      from_right (inr y) fine = fine

      splits : (z : X ⊎ Y) → SumFine g h z → (IsTheFirst g z × (starts opens (tokens (sum_cells p q z)) ≡ true)) ⊎ (IsTheSecond h z × ((w : List Token) → starts k w ≡ false → starts opens (tokens (sum_cells p q z) ++ w) ≡ false))
      splits (inl x) fine = inl (fine, opened x fine)
      splits (inr y) fine = inr (fine, λ w e. starts-apart others opens apart (tokens (q y)) w (opened_others y fine))

-- ---- what comes behind a first reader that never goes on

module _ {X Y : Type 0} (p : X → List Cell) (g : X → Type 0) (P : Reader X) (q : Y → List Cell) (h : Y → Type 0) (n : Token → Bool) (Q : Reader Y) where
  pub then_reads : IsReader p g (λ _. false) P → IsReader q h n Q → IsReader (λ (z : X × Y). p z.0 ++ q z.1) (λ (z : X × Y). g z.0 × h z.1) n (both P Q)
  then_reads a b = both_reads p g (λ _. false) P q h n Q n a b (λ y w fine e. starts_never (tokens (q y) ++ w)) (λ t e. e)
    where
      starts_never : (u : List Token) → starts (λ _. false) u ≡ false
      starts_never [] = refl
      starts_never (t ∷ u) = refl

-- ---- a list with a first

module _ {X : Type 0} (p : X → List Cell) (q : List X → List Cell) (g : X → Type 0) (f : List X → Type 0) (m : Token → Bool) (R : Reader (X × List X)) (r : List X → List Cell) (h : List X → Type 0) (to : X × List X → List X) where
  pub joined_reads : IsReader (λ (z : X × List X). p z.0 ++ q z.1) (λ (z : X × List X). g z.0 × f z.1) m R → ((z : X × List X) → to z ≡ z.0 ∷ z.1)
      → ((x : X) (xs : List X) → r (x ∷ xs) ≡ p x ++ q xs) → ((x : X) (xs : List X) → g x → f xs → h (x ∷ xs)) → ((x : X) (xs : List X) → h (x ∷ xs) → g x × f xs) → (h [] → ⊥)
      → IsReader r h m (mapped to R)
  joined_reads a is_to spelled into out empty =
      mapped_reads (λ (z : X × List X). p z.0 ++ q z.1) (λ (z : X × List X). g z.0 × f z.1) m R r h to a
      (λ z fine. (rw (is_to z) (into z.0 z.1 fine.0 fine.1), ap r (is_to z) ∙ spelled z.0 z.1)) back
    where
      back : (xs : List X) → h xs → (z : X × List X) × (g z.0 × f z.1) × (to z ≡ xs)
      back [] fine = absurd (empty fine)
      back (x ∷ xs) fine = ((x, xs), out x xs fine, is_to (x, xs))

-- ---- marks that are never over, and a reader that stops at each token of opens

module _ {X : Type 0} (p : X → List Cell) (g : X → Type 0) (m : Token → Bool) (P : Reader X) where
  pub respelled_reads : (q : X → List Cell) → ((x : X) → q x ≡ p x) → IsReader p g m P → IsReader q g m P
  respelled_reads q same a = record {
    some = a.some;
    some_fine = a.some_fine;
    some_written = subst (λ (ps : List Cell). AllWritten (tokens ps)) (sym (same a.some)) a.some_written;
    explains = λ c ts. respelled (λ (x : X). tokens (p x)) (λ (x : X). tokens (q x)) g g (P c) ts (P c ts) (λ x fine. (fine, ap tokens (same x))) (a.explains c ts);
    walks = λ c x w fine e. rw (same x) (a.walks c x w fine e);
  }

  pub fits_reads : (mark : Mark) → ((c : Counts) → is_over c mark ≡ false) → ((c : Counts) → after_mark c mark ≡ c) → IsReader p g m P → IsReader (λ (x : X). beginning mark (p x)) g m P
  fits_reads mark fits counts a = record {
    some = a.some;
    some_fine = a.some_fine;
    some_written = subst AllWritten (sym (tokens-beginning mark (p a.some))) a.some_written;
    explains = λ c ts.
        respelled (λ (x : X). tokens (p x)) (λ (x : X). tokens (beginning mark (p x))) g g (P c) ts (P c ts) (λ x fine. (fine, tokens-beginning mark (p x))) (a.explains c ts);
    walks = λ c x w fine e. ap (λ (u : List Token). P c (u ++ w)) (tokens-beginning mark (p x)) ∙ a.walks c x w fine e ∙ ap (carried x w) (sym (at c (p x) w));
  }
    where
      at : (c : Counts) (ps : List Cell) (w : List Token) → judge c (beginning mark ps) w ≡ judge c ps w
      at c [] w = refl
      at c (t ∷ ts) w = rw (fits c, counts c) refl

module _ {X : Type 0} (p : X → List Cell) (g : X → Type 0) (opens k : Token → Bool) where
  pub blocked_reads : Opened p g opens → Begun p g opens → ((c : Counts) (x : X) (w : List Token) → g x → judge c (p x) w ≡ Err (record { code = TooMuch; left = length (tokens (p x) ++ w) })) → Within opens k
      → IsReader (option_cells p) (OptionFine g) k (optional opens too_much)
  blocked_reads opened begun over within = record {
    some = None;
    some_fine = tt;
    some_written = refl;
    explains = λ c ts.
        by_first_explained (λ (o : Option X). tokens (option_cells p o)) (OptionFine g) opens (mapped Some too_much) (give None) c ts
        (λ e. wall_explained (λ (o : Option X). tokens (option_cells p o)) (OptionFine g) opens (λ t is. let b = begun t is in (Some b.0, b.1, b.2, b.3, b.4)) c ts e)
        (λ e. give_explained (λ (o : Option X). tokens (option_cells p o)) (OptionFine g) None tt refl c ts);
    walks = λ c o w fine e. at c o w fine e;
  }
    where
      at : (c : Counts) (o : Option X) (w : List Token) → OptionFine g o → starts k w ≡ false → Walks (option_cells p) (optional opens too_much) c o w
      at c None w fine e = rw (starts-within opens k within w e) refl
      at c (Some x) w fine e = rw (starts-append opens (tokens (p x)) w (opened x fine), over c x w fine) refl
