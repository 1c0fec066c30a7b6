-- Reading a list one by one, as a loop does.
use Rattle.std.proofs.Common.{◌≡◌, ℕ, zero, suc, ◌<◌, ◌≤◌, Bool, true, false, List, [], ◌∷◌, ◌++◌, Ok, Err, refl, sym, ap, subst, ◌∙◌, append_assoc, length, arith, length-append}
use Rattle.std.proofs.lemmas.List.{append-nil}
use Rattle.key_table.specs.declared.stop.Stop.{Stop}
use Rattle.key_table.specs.declared.stop.Stop.TheVariants as stop
use Rattle.key_table.specs.Answers.{◌>>=◌, Fails}
use Rattle.euclid_lexer.specs.declared.token.Token.{Token}
use Rattle.euclid_lexer.specs.declared.token.Sign.{Sign}
use Rattle.euclid_grammar.specs.declared.counts.Counts.{Counts}
use Rattle.euclid_parser.specs.declared.fault.Fault.{Fault}
use Rattle.euclid_parser.specs.Reader.{Read, Reader, starts, many, many_at}
use Rattle.euclid_parser.specs.Reading.{is_the_sign, next_reader, joined, separated}
use Rattle.euclid_lexer.specs.declared.token.Placed.{Placed}
use Rattle.euclid_grammar.specs.Texts.{tokens_alone}

-- what was read before, and what is still read
abbrev pub with_front : {X : Type 0} → List X → Read (List X) → Read (List X)
with_front front r = r >>= λ x. Ok (front ++ x.0, x.1, x.2)

abbrev put_front : {X : Type 0} → X → Read (List X) → Read (X × List X)
put_front x r = r >>= λ b. Ok ((x, b.0), b.1, b.2)

abbrev joined_up : {X : Type 0} → Read (X × List X) → Read (List X)
joined_up r = r >>= λ z. Ok (joined z.0, z.1, z.2)

abbrev put_before : {X : Type 0} → X → Read (List X) → Read (List X)
put_before x r = r >>= λ b. Ok (x ∷ b.0, b.1, b.2)

pub tokens-length : (ps : List Placed) → length (tokens_alone ps) ≡ length ps
tokens-length [] = refl
tokens-length (p ∷ ps) = ap suc (tokens-length ps)

-- fewer places are fewer tokens
pub fewer : (ps qs : List Placed) → length ps < length qs → length (tokens_alone ps) < length (tokens_alone qs)
fewer ps qs h = rw (tokens-length ps, tokens-length qs) h

-- With the items that were read, what is still read is the whole list. Any bound that is no less than the tokens serves.
pub record SoFar {X : Type 0} (opens : Token → Bool) (P : ℕ → Reader X) (items : List X) (c : Counts) (ts : List Token) (total : Read (List X)) : Type 0 where
  pub bound : ℕ
  pub enough : length ts ≤ bound
  pub so_far : with_front items (many_at opens P bound (length items) c ts) ≡ total

with_front-none : {X : Type 0} (r : Read (List X)) → with_front [] r ≡ r
with_front-none (Ok x) = refl
with_front-none (Err f) = refl

module _ {X : Type 0} (opens : Token → Bool) (P : ℕ → Reader X) where
  -- nothing was read yet
  none_yet : (c : Counts) (ts : List Token) → SoFar opens P [] c ts (many opens P 0 c ts)
  unfolding many
  none_yet c ts = record { bound = length ts; enough = omega arith; so_far = with_front-none (many_at opens P (length ts) 0 c ts) }

  pub none_read : (items : List X) (c : Counts) (ts : List Token) → items ≡ [] → SoFar opens P items c ts (many opens P 0 c ts)
  none_read items c ts is = rw is (none_yet c ts)

  regroup : (front : List X) (x : X) (r : Read (List X)) → with_front front (put_before x r) ≡ with_front (front ++ x ∷ []) r
  regroup front x (Ok y) = ap (λ (xs : List X). Ok (xs, y.1, y.2)) (sym (append_assoc front (x ∷ []) y.0))
  regroup front x (Err f) = refl

  more-by : (front : List X) (c : Counts) (ts : List Token) (x : X) (d : Counts) (us : List Token) (total : Read (List X)) (n : ℕ) → starts opens ts ≡ true → P (length front) c ts ≡ Ok (x, d, us)
      → length us < length ts → length ts ≤ n → with_front front (many_at opens P n (length front) c ts) ≡ total → SoFar opens P (front ++ x ∷ []) d us total
  unfolding many_at
  more-by front c [] x d us total n e read shorter enough so_far = absurd cc
  more-by front c (t ∷ ts) x d us total zero e read shorter enough so_far = absurd (omega arith)
  more-by front c (t ∷ ts) x d us total (suc n) e read shorter enough so_far =
      let longer : length (front ++ x ∷ []) ≡ suc (length front) = omega (arith, length-append front (x ∷ [])) in
      let one : with_front front (many_at opens P (suc n) (length front) c (t ∷ ts)) ≡ with_front (front ++ x ∷ []) (many_at opens P n (suc (length front)) d us) =
      rw (e, read) (regroup front x (many_at opens P n (suc (length front)) d us)) in
      record { bound = n; enough = omega arith; so_far = ap (λ (i : ℕ). with_front (front ++ x ∷ []) (many_at opens P n i d us)) longer ∙ sym one ∙ so_far }

  -- one more was read
  pub more : (front items : List X) (i : ℕ) (c : Counts) (ts : List Token) (x : X) (d : Counts) (us : List Token) (total : Read (List X)) → i ≡ length front → starts opens ts ≡ true → P i c ts ≡ Ok (x, d, us)
      → length us < length ts → items ≡ front ++ x ∷ [] → SoFar opens P front c ts total → SoFar opens P items d us total
  more front items i c ts x d us total at e read shorter is s = rw is (more-by front c ts x d us total s.bound e (subst (λ (i : ℕ). P i c ts ≡ Ok (x, d, us)) at read) shorter s.enough s.so_far)

  -- the next one has a fault
  pub ends : (stop : Stop Fault) (front : List X) (i : ℕ) (c : Counts) (ts : List Token) (total : Read (List X)) → i ≡ length front → starts opens ts ≡ true → Fails stop (P i c ts) → SoFar opens P front c ts total → Fails stop total
  unfolding many_at
  ends stop.Memory front i c ts total is e fails s = tt
  ends (stop.Fault f) front i c ts total is e fails s = sym s.so_far ∙ at ts s.bound e (subst (λ (i : ℕ). P i c ts ≡ Err f) is fails) s.enough
    where
      at : (ts : List Token) (n : ℕ) → starts opens ts ≡ true → P (length front) c ts ≡ Err f → length ts ≤ n → with_front front (many_at opens P n (length front) c ts) ≡ Err f
      at [] n e fails enough = absurd cc
      at (t ∷ ts) zero e fails enough = absurd (omega arith)
      at (t ∷ ts) (suc n) e fails enough = rw (e, fails) refl

  -- there is no next one
  pub done : (front : List X) (c : Counts) (ts : List Token) (total : Read (List X)) → starts opens ts ≡ false → SoFar opens P front c ts total → total ≡ Ok (front, c, ts)
  unfolding many_at
  done front c ts total e s = sym s.so_far ∙ at s.bound ∙ ap (λ (xs : List X). Ok (xs, c, ts)) (append-nil front)
    where
      at : (n : ℕ) → with_front front (many_at opens P n (length front) c ts) ≡ Ok (front ++ [], c, ts)
      at zero = refl
      at (suc n) = rw e refl

module _ {X : Type 0} (s : Sign) (P : ℕ → Reader X) where
  first-by : (x : X) (r : Read (List X)) → joined_up (put_front x r) ≡ with_front (x ∷ []) r
  first-by x (Ok y) = refl
  first-by x (Err f) = refl

  -- the first of a list with separators was read
  pub first_read : (c0 : Counts) (ts0 : List Token) (items : List X) (x : X) (c : Counts) (ts : List Token) → P 0 c0 ts0 ≡ Ok (x, c, ts) → items ≡ x ∷ [] → SoFar (is_the_sign s) (next_reader s P) items c ts (separated s P c0 ts0)
  unfolding separated many
  first_read c0 ts0 items x c ts read is =
      rw is (record { bound = length ts; enough = omega arith; so_far = sym (rw read (first-by x (many_at (is_the_sign s) (next_reader s P) (length ts) 1 c ts))) })
