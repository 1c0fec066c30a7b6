-- A reader goes over what is spelled up to its end, or to the first token that begins one too many.
use Rattle.std.proofs.Common.{◌≡◌, suc, Bool, true, false, cond, ◌||◌, List, [], ◌∷◌, ◌++◌, length, Option, Some, Result, Ok, Err, refl, sym, ap, ◌∙◌, append_assoc}
use Rattle.euclid_grammar.specs.declared.counts.Counts.{Counts}
use Rattle.euclid_lexer.specs.declared.token.Token.{Token}
use Rattle.euclid_parser.specs.declared.fault.Code.TheVariants.{TooMuch}
use Rattle.euclid_parser.specs.declared.fault.Fault.{Fault}
use Rattle.euclid_grammar.specs.Marks.{Mark, Cell, plain, tokens, beginning}
use Rattle.euclid_grammar.specs.Fits.{is_over, after_mark, any_over, after_all}
use Rattle.euclid_parser.proofs.Judge.{judge}
use Rattle.key_table.specs.Answers.{◌>>=◌}
use Rattle.euclid_parser.specs.Reader.{Read, Reader, starts, too_much, give, one, both, mapped, by_first, marked, limited}

pub tokens-append : (ps qs : List Cell) → tokens (ps ++ qs) ≡ tokens ps ++ tokens qs
tokens-append [] qs = refl
tokens-append (p ∷ ps) qs = ap (λ (u : List Token). p.token ∷ u) (tokens-append ps qs)

pub tokens-beginning : (m : Mark) (ps : List Cell) → tokens (beginning m ps) ≡ tokens ps
tokens-beginning m [] = refl
tokens-beginning m (p ∷ ps) = refl

-- the answer to an x that was gone over
abbrev pub carried : {X : Type 0} → X → List Token → Result Counts Fault → Read X
carried x w j = j >>= λ k. Ok (x, k, w)

abbrev pub Walks : {X : Type 0} → (X → List Cell) → Reader X → Counts → X → List Token → Type 0
Walks p P c x w = P c (tokens (p x) ++ w) ≡ carried x w (judge c (p x) w)

pub judge-append : (c : Counts) (ps qs : List Cell) (w : List Token) → judge c (ps ++ qs) w ≡ (judge c ps (tokens qs ++ w) >>= λ k. judge k qs w)
judge-append c [] qs w = refl
judge-append c (p ∷ ps) qs w = at (any_over c p.marks) (judge-append (after_all c p.marks) ps qs w)
  where
    at : (b : Bool) → judge (after_all c p.marks) (ps ++ qs) w ≡ (judge (after_all c p.marks) ps (tokens qs ++ w) >>= λ k. judge k qs w)
        → cond b (Err (record { code = TooMuch; left = suc (length (tokens (ps ++ qs) ++ w)) })) (judge (after_all c p.marks) (ps ++ qs) w)
        ≡ (cond b (Err (record { code = TooMuch; left = suc (length (tokens ps ++ (tokens qs ++ w))) })) (judge (after_all c p.marks) ps (tokens qs ++ w)) >>= λ k. judge k qs w)
    at true h = rw (tokens-append, append_assoc) refl
    at false h = h

module _ {X Y : Type 0} (p : X → List Cell) (q : Y → List Cell) (P : Reader X) (Q : Reader Y) (c : Counts) (x : X) (y : Y) (w : List Token) where
  both-carried : ((k : Counts) → Walks q Q k y w) → (j : Result Counts Fault)
      → (carried x (tokens (q y) ++ w) j >>= λ a. Q a.1 a.2 >>= λ b. Ok ((a.0, b.0), b.1, b.2)) ≡ carried {X = X × Y} (x, y) w (j >>= λ k. judge k (q y) w)
  both-carried second (Err f) = refl
  both-carried second (Ok k) = rw (second k) (at (judge k (q y) w))
    where
      at : (j : Result Counts Fault) → (carried y w j >>= λ b. Ok ((x, b.0), b.1, b.2)) ≡ carried {X = X × Y} (x, y) w j
      at (Ok k) = refl
      at (Err f) = refl

  pub both_walks : Walks p P c x (tokens (q y) ++ w) → ((k : Counts) → Walks q Q k y w) → Walks (λ (z : X × Y). p z.0 ++ q z.1) (both P Q) c (x, y) w
  both_walks a second =
      let regrouped : tokens (p x ++ q y) ++ w ≡ tokens (p x) ++ (tokens (q y) ++ w) = ap (λ (u : List Token). u ++ w) (tokens-append (p x) (q y)) ∙ append_assoc (tokens (p x)) (tokens (q y)) w in
      ap (both P Q c) regrouped ∙ ap (λ (r : Read X). r >>= λ a. Q a.1 a.2 >>= λ b. Ok ((a.0, b.0), b.1, b.2)) a ∙ both-carried second (judge c (p x) (tokens (q y) ++ w)) ∙ ap (carried {X = X × Y} (x, y) w) (sym (judge-append c (p x) (q y) w))

pub mapped_walks : {X Y : Type 0} (p : X → List Cell) (q : Y → List Cell) (to : X → Y) (P : Reader X) (c : Counts) (x : X) (w : List Token) → q (to x) ≡ p x → Walks p P c x w → Walks q (mapped to P) c (to x) w
mapped_walks p q to P c x w e a = ap (λ (ps : List Cell). mapped to P c (tokens ps ++ w)) e ∙ ap (λ (r : Read _). r >>= λ a. Ok (to a.0, a.1, a.2)) a ∙ at (judge c (p x) w) ∙ ap (λ (ps : List Cell). carried (to x) w (judge c ps w)) (sym e)
  where
    at : (j : Result Counts Fault) → (carried x w j >>= λ a. Ok (to a.0, a.1, a.2)) ≡ carried (to x) w j
    at (Ok k) = refl
    at (Err f) = refl

pub by_first_walks_first : {X : Type 0} (p : X → List Cell) (opens : Token → Bool) (P Q : Reader X) (c : Counts) (x : X) (w : List Token) → starts opens (tokens (p x) ++ w) ≡ true → Walks p P c x w → Walks p (by_first opens P Q) c x w
by_first_walks_first p opens P Q c x w e a = rw e a

pub by_first_walks_second : {X : Type 0} (p : X → List Cell) (opens : Token → Bool) (P Q : Reader X) (c : Counts) (x : X) (w : List Token) → starts opens (tokens (p x) ++ w) ≡ false → Walks p Q c x w → Walks p (by_first opens P Q) c x w
by_first_walks_second p opens P Q c x w e a = rw e a

pub give_walks : {X : Type 0} (p : X → List Cell) (x : X) (c : Counts) (w : List Token) → p x ≡ [] → Walks p (give x) c x w
give_walks p x c w e = rw e refl

pub one_walks : {X : Type 0} (p : X → List Cell) (value : Token → Option X) (t : Token) (c : Counts) (x : X) (w : List Token) → p x ≡ plain t ∷ [] → value t ≡ Some x → Walks p (one value) c x w
one_walks p value t c x w e v = rw (e, v) refl

-- what begins with a mark, whatever reads it then
pub limited_walks : {X : Type 0} (p : X → List Cell) (q : X → List Cell) (m : Mark) (opens : Token → Bool) (P : Reader X) (c : Counts) (x : X) (w : List Token)
    → q x ≡ beginning m (p x) → starts opens (tokens (p x)) ≡ true → Walks p P (after_mark c m) x w → Walks q (limited m opens P) c x w
limited_walks p q m opens P c x w is opened a = ap (λ (ps : List Cell). limited m opens P c (tokens ps ++ w)) is ∙ at (p x) opened a ∙ ap (λ (ps : List Cell). carried x w (judge c ps w)) (sym is)
  where
    by_over : (t : Cell) (ps : List Cell) (b : Bool) → opens t.token ≡ true → P (after_mark c m) (tokens (t ∷ ps) ++ w) ≡ carried x w (judge (after_mark c m) (t ∷ ps) w)
        → cond b (by_first opens too_much (marked m P) c (tokens (t ∷ ps) ++ w)) (marked m P c (tokens (t ∷ ps) ++ w))
        ≡ carried x w (cond (b || any_over (after_mark c m) t.marks) (Err (record { code = TooMuch; left = suc (length (tokens ps ++ w)) })) (judge (after_all (after_mark c m) t.marks) ps w))
    by_over t ps true opened a = rw opened refl
    by_over t ps false opened a = a

    at : (ps : List Cell) → starts opens (tokens ps) ≡ true → P (after_mark c m) (tokens ps ++ w) ≡ carried x w (judge (after_mark c m) ps w)
        → limited m opens P c (tokens (beginning m ps) ++ w) ≡ carried x w (judge c (beginning m ps) w)
    at [] opened a = absurd cc
    at (t ∷ ps) opened a = by_over t ps (is_over c m) opened a
