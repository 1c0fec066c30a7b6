-- What an answer of a reader tells: what was read is spelled so; or the tokens before the fault begin a spelling, which goes on with
-- tokens that can be written. Either way the reader saw no more than these tokens and the next one.
use Rattle.std.proofs.Common.{◌≡◌, Bool, true, false, cond, List, [], ◌∷◌, ◌++◌, length, Option, Some, None, Ok, Err, refl, sym, ap, ◌∙◌, append_assoc}
use Rattle.euclid_grammar.specs.declared.counts.Counts.{Counts}
use Rattle.euclid_lexer.specs.declared.token.Token.{Token}
use Rattle.euclid_parser.specs.declared.fault.Code.TheVariants.{TooMuch}
use Rattle.euclid_parser.specs.declared.fault.Fault.{Fault}
use Rattle.key_table.specs.Answers.{◌>>=◌}
use Rattle.euclid_parser.proofs.Written.{AllWritten, written_append, written_rest}
use Rattle.euclid_parser.specs.Reader.{Read, Reader, starts, unexpected, too_much, give, taken, one, both, mapped, by_first}

-- the first of the tokens
abbrev pub first : List Token → Option Token
first [] = None
first (t ∷ ts) = Some t

-- two lists with the same first token
abbrev pub Agree : List Token → List Token → Type 0
Agree a b = (t : Token) × (v : List Token) × (w : List Token) × (a ≡ t ∷ v) × (b ≡ t ∷ w)

-- What was read is spelled so, and is read whatever follows with the same first token.
pub record Reads {X : Type 0} (s : X → List Token) (g : X → Type 0) (F : List Token → Read X) (ts : List Token) (y : X × Counts × List Token) : Type 0 where
  pub fine : g y.0
  pub split : ts ≡ s y.0 ++ y.2
  pub local : (r : List Token) → first r ≡ first y.2 → F (s y.0 ++ r) ≡ Ok (y.0, y.1, r)

-- The tokens before the fault begin a spelling. It goes on with tokens that can be written, where those of the text can be, and where it
-- begins one too many with the same one. The fault is met whatever follows with the same first token.
pub record Fails {X : Type 0} (s : X → List Token) (g : X → Type 0) (F : List Token → Read X) (ts : List Token) (f : Fault) : Type 0 where
  pub before : List Token
  pub from : List Token
  pub split : ts ≡ before ++ from
  pub left : f.left ≡ length from
  pub whole : X
  pub fine : g whole
  pub after : List Token
  pub begins : s whole ≡ before ++ after
  pub written : AllWritten from → AllWritten after
  pub goes_on : f.code ≡ TooMuch → Agree from after
  pub local : (r : List Token) → first r ≡ first from → F (before ++ r) ≡ Err (record { code = f.code; left = length r })

abbrev pub Explained : {X : Type 0} (s : X → List Token) (g : X → Type 0) (F : List Token → Read X) (ts : List Token) → Read X → Type 0
Explained s g F ts (Ok y) = Reads s g F ts y
Explained s g F ts (Err f) = Fails s g F ts f

pub first-append : (u r v : List Token) → first r ≡ first v → first (u ++ r) ≡ first (u ++ v)
first-append [] r v h = h
first-append (t ∷ u) r v h = refl

pub starts-first : (test : Token → Bool) (a b : List Token) → first a ≡ first b → starts test a ≡ starts test b
starts-first test [] [] h = refl
starts-first test [] (t ∷ b) h = absurd cc
starts-first test (t ∷ a) [] h = absurd cc
starts-first test (t ∷ a) (u ∷ b) h = let e : t ≡ u = cc in ap test e

-- another reader that answers the same wherever the first token is the same
pub swapped : {X : Type 0} (s : X → List Token) (g : X → Type 0) (F G : List Token → Read X) (ts : List Token) (res : Read X)
    → ((a : List Token) → first a ≡ first ts → G a ≡ F a) → Explained s g F ts res → Explained s g G ts res
swapped s g F G ts (Ok y) same h = record {
  fine = h.fine;
  split = h.split;
  local = λ r e. same (s y.0 ++ r) (first-append (s y.0) r y.2 e ∙ ap first (sym h.split)) ∙ h.local r e;
}
swapped s g F G ts (Err f) same h = record {
  before = h.before;
  from = h.from;
  split = h.split;
  left = h.left;
  whole = h.whole;
  fine = h.fine;
  after = h.after;
  begins = h.begins;
  written = h.written;
  goes_on = h.goes_on;
  local = λ r e. same (h.before ++ r) (first-append h.before r h.from e ∙ ap first (sym h.split)) ∙ h.local r e;
}

-- another way to say the same spellings
pub respelled : {X : Type 0} (s t : X → List Token) (g h : X → Type 0) (F : List Token → Read X) (ts : List Token) (res : Read X)
    → ((x : X) → g x → h x × (t x ≡ s x)) → Explained s g F ts res → Explained t h F ts res
respelled s t g h F ts (Ok y) k a = record {
  fine = (k y.0 a.fine).0;
  split = a.split ∙ ap (λ (u : List Token). u ++ y.2) (sym (k y.0 a.fine).1);
  local = λ r e. ap (λ (u : List Token). F (u ++ r)) (k y.0 a.fine).1 ∙ a.local r e;
}
respelled s t g h F ts (Err f) k a = record {
  before = a.before;
  from = a.from;
  split = a.split;
  left = a.left;
  whole = a.whole;
  fine = (k a.whole a.fine).0;
  after = a.after;
  begins = (k a.whole a.fine).1 ∙ a.begins;
  written = a.written;
  goes_on = a.goes_on;
  local = a.local;
}

module _ {X Y : Type 0} (s : X → List Token) (g : X → Type 0) (q : Y → List Token) (h : Y → Type 0) (P : Reader X) (Q : Reader Y) (c : Counts) (ts : List Token) where
  both-second : (y : X × Counts × List Token) → Reads s g (P c) ts y → (r : Read Y) → Explained q h (Q y.1) y.2 r
      → Explained (λ (z : X × Y). s z.0 ++ q z.1) (λ (z : X × Y). g z.0 × h z.1) (both P Q c) ts (r >>= λ b. Ok ((y.0, b.0), b.1, b.2))
  both-second y a (Ok b) e = record {
    fine = (a.fine, e.fine);
    split = a.split ∙ ap (λ (u : List Token). s y.0 ++ u) e.split ∙ sym (append_assoc (s y.0) (q b.0) b.2);
    local = λ r same.
        let one : P c (s y.0 ++ (q b.0 ++ r)) ≡ Ok (y.0, y.1, q b.0 ++ r) = a.local (q b.0 ++ r) (first-append (q b.0) r b.2 same ∙ ap first (sym e.split)) in
        ap (both P Q c) (append_assoc (s y.0) (q b.0) r) ∙ rw (one, e.local r same) refl;
  }
  both-second y a (Err f) e = record {
    before = s y.0 ++ e.before;
    from = e.from;
    split = a.split ∙ ap (λ (u : List Token). s y.0 ++ u) e.split ∙ sym (append_assoc (s y.0) e.before e.from);
    left = e.left;
    whole = (y.0, e.whole);
    fine = (a.fine, e.fine);
    after = e.after;
    begins = ap (λ (u : List Token). s y.0 ++ u) e.begins ∙ sym (append_assoc (s y.0) e.before e.after);
    written = e.written;
    goes_on = e.goes_on;
    local = λ r same.
        let one : P c (s y.0 ++ (e.before ++ r)) ≡ Ok (y.0, y.1, e.before ++ r) = a.local (e.before ++ r) (first-append e.before r e.from same ∙ ap first (sym e.split)) in
        ap (both P Q c) (append_assoc (s y.0) e.before r) ∙ rw (one, e.local r same) refl;
  }

  both-first : (y0 : Y) → h y0 → AllWritten (q y0) → (r : Read X) → Explained s g (P c) ts r → ((y : X × Counts × List Token) → r ≡ Ok y → Explained q h (Q y.1) y.2 (Q y.1 y.2))
      → Explained (λ (z : X × Y). s z.0 ++ q z.1) (λ (z : X × Y). g z.0 × h z.1) (both P Q c) ts (r >>= λ a. Q a.1 a.2 >>= λ b. Ok ((a.0, b.0), b.1, b.2))
  both-first y0 y0_fine y0_written (Ok y) a second = both-second y a (Q y.1 y.2) (second y refl)
  both-first y0 y0_fine y0_written (Err f) a second = record {
    before = a.before;
    from = a.from;
    split = a.split;
    left = a.left;
    whole = (a.whole, y0);
    fine = (a.fine, y0_fine);
    after = a.after ++ q y0;
    begins = ap (λ (u : List Token). u ++ q y0) a.begins ∙ append_assoc a.before a.after (q y0);
    written = λ given. written_append a.after (q y0) (a.written given) y0_written;
    goes_on = λ is. let go = a.goes_on is in (go.0, go.1, go.2 ++ q y0, go.3, ap (λ (u : List Token). u ++ q y0) go.4);
    local = λ r same. rw (a.local r same) refl;
  }

  pub both_explained : (y0 : Y) → h y0 → AllWritten (q y0) → Explained s g (P c) ts (P c ts) → ((y : X × Counts × List Token) → P c ts ≡ Ok y → Explained q h (Q y.1) y.2 (Q y.1 y.2))
      → Explained (λ (z : X × Y). s z.0 ++ q z.1) (λ (z : X × Y). g z.0 × h z.1) (both P Q c) ts (both P Q c ts)
  both_explained y0 y0_fine y0_written a second = both-first y0 y0_fine y0_written (P c ts) a second

module _ {X Y : Type 0} (s : X → List Token) (g : X → Type 0) (t : Y → List Token) (h : Y → Type 0) (to : X → Y) (P : Reader X) (c : Counts) (ts : List Token) (k : (x : X) → g x → h (to x) × (t (to x) ≡ s x)) where
  mapped-at : (r : Read X) → Explained s g (P c) ts r → Explained t h (mapped to P c) ts (r >>= λ a. Ok (to a.0, a.1, a.2))
  mapped-at (Ok y) a = record {
    fine = (k y.0 a.fine).0;
    split = a.split ∙ ap (λ (u : List Token). u ++ y.2) (sym (k y.0 a.fine).1);
    local = λ r same. ap (λ (u : List Token). mapped to P c (u ++ r)) (k y.0 a.fine).1 ∙ rw (a.local r same) refl;
  }
  mapped-at (Err f) a = record {
    before = a.before;
    from = a.from;
    split = a.split;
    left = a.left;
    whole = to a.whole;
    fine = (k a.whole a.fine).0;
    after = a.after;
    begins = (k a.whole a.fine).1 ∙ a.begins;
    written = a.written;
    goes_on = a.goes_on;
    local = λ r same. rw (a.local r same) refl;
  }

  pub mapped_explained : Explained s g (P c) ts (P c ts) → Explained t h (mapped to P c) ts (mapped to P c ts)
  mapped_explained a = mapped-at (P c ts) a

module _ {X : Type 0} (s : X → List Token) (g : X → Type 0) (opens : Token → Bool) (P Q : Reader X) (c : Counts) (ts : List Token) where
  by_first-at : (b : Bool) → starts opens ts ≡ b → (b ≡ true → Explained s g (P c) ts (P c ts)) → (b ≡ false → Explained s g (Q c) ts (Q c ts))
      → Explained s g (by_first opens P Q c) ts (cond b (P c ts) (Q c ts))
  by_first-at true e yes' no' = swapped s g (P c) (by_first opens P Q c) ts (P c ts) (λ a same. rw (starts-first opens a ts same ∙ e) refl) (yes' refl)
  by_first-at false e yes' no' = swapped s g (Q c) (by_first opens P Q c) ts (Q c ts) (λ a same. rw (starts-first opens a ts same ∙ e) refl) (no' refl)

  pub by_first_explained : (starts opens ts ≡ true → Explained s g (P c) ts (P c ts)) → (starts opens ts ≡ false → Explained s g (Q c) ts (Q c ts))
      → Explained s g (by_first opens P Q c) ts (by_first opens P Q c ts)
  by_first_explained yes' no' = by_first-at (starts opens ts) refl yes' no'

pub give_explained : {X : Type 0} (s : X → List Token) (g : X → Type 0) (x : X) → g x → s x ≡ [] → (c : Counts) (ts : List Token) → Explained s g (give x c) ts (give x c ts)
give_explained s g x fine empty c ts = record { fine = fine; split = rw empty refl; local = λ r same. rw empty refl }

-- a token that begins one too many, where some spelling begins with it
pub wall_explained : {X : Type 0} (s : X → List Token) (g : X → Type 0) (opens : Token → Bool)
    → ((t : Token) → opens t ≡ true → (x : X) × g x × (v : List Token) × (s x ≡ t ∷ v) × AllWritten v)
    → (c : Counts) (ts : List Token) → starts opens ts ≡ true → Explained s g (too_much c) ts (too_much c ts)
wall_explained s g opens begun c [] e = absurd cc
wall_explained s g opens begun c (t ∷ ts) e =
    let b = begun t e in
    record {
      before = [];
      from = t ∷ ts;
      split = refl;
      left = refl;
      whole = b.0;
      fine = b.1;
      after = t ∷ b.2;
      begins = b.3;
      written = λ given. written_rest t ts b.2 given b.4;
      goes_on = λ is. (t, ts, b.2, refl, refl);
      local = λ r same. refl;
    }

module _ {X : Type 0} (s : X → List Token) (g : X → Type 0) (value : Token → Option X) (make : X → Token) (x0 : X) (x0_fine : g x0) (x0_written : AllWritten (s x0)) (spelled : (x : X) → s x ≡ make x ∷ [])
    (read : (t : Token) (x : X) → value t ≡ Some x → g x × (t ≡ make x)) (again : (x : X) → g x → value (make x) ≡ Some x) (c : Counts) where
  one-at : (t : Token) (ts : List Token) (o : Option X) → value t ≡ o → Explained s g (one value c) (t ∷ ts) (taken o c t ts)
  one-at t ts (Some x) e =
      let a = read t x e in
      record { fine = a.0; split = rw (spelled x, ← a.1) refl; local = λ r same. rw (spelled x, again x a.0) refl }
  one-at t ts None e = record {
    before = [];
    from = t ∷ ts;
    split = refl;
    left = refl;
    whole = x0;
    fine = x0_fine;
    after = s x0;
    begins = refl;
    written = λ given. x0_written;
    goes_on = λ is. absurd cc;
    local = λ r same. one-fails t ts e r same;
  }
    where
      one-fails : (t : Token) (ts : List Token) → value t ≡ None → (r : List Token) → first r ≡ first (t ∷ ts) → one value c r ≡ unexpected c r
      one-fails t ts e [] same = absurd cc
      one-fails t ts e (u ∷ r) same = let is : u ≡ t = cc in let none : value u ≡ None = ap value is ∙ e in rw none refl

  pub one_explained : (ts : List Token) → Explained s g (one value c) ts (one value c ts)
  one_explained [] = record {
    before = [];
    from = [];
    split = refl;
    left = refl;
    whole = x0;
    fine = x0_fine;
    after = s x0;
    begins = refl;
    written = λ given. x0_written;
    goes_on = λ is. absurd cc;
    local = λ r same. one-ends r same;
  }
    where
      one-ends : (r : List Token) → first r ≡ first [] → one value c r ≡ unexpected c r
      one-ends [] same = refl
      one-ends (u ∷ r) same = absurd cc
  one_explained (t ∷ ts) = one-at t ts (value t) refl
