-- All of the tokens: what is found, what is refused, and where.
use Rattle.std.proofs.Common.{◌≡◌, ℕ, suc, ◌<◌, ◌≤◌, Bool, true, false, ◌⊎◌, inl, inr, List, [], ◌∷◌, ◌++◌, length, Result, Ok, Err, refl, sym, ap, subst, ◌∙◌, append_assoc, arith, length-append}
use Rattle.std.proofs.lemmas.List.{append-nil}
use Rattle.euclid_grammar.specs.declared.counts.Counts.{Counts}
use Rattle.euclid_lexer.specs.declared.token.Token.{Token}
use Rattle.euclid_parser.specs.declared.fault.Code.{Code}
use Rattle.euclid_parser.specs.declared.fault.Code.TheVariants.{Unexpected, TooMuch}
use Rattle.euclid_parser.specs.declared.fault.Fault.{Fault}
use Rattle.euclid_grammar.specs.Marks.{Cell, tokens}
use Rattle.euclid_grammar.specs.Fits.{start, any_over, after_all}
use Rattle.euclid_parser.proofs.Judge.{judge}
use Rattle.key_table.specs.Answers.{◌>>=◌}
use Rattle.euclid_parser.specs.Reader.{Read, ended}
use Rattle.euclid_grammar.specs.Grammar.{ProgramTree, cells, spell}
use Rattle.euclid_parser.specs.Reading.{program_tree_reader, tree_of_all}
use Rattle.euclid_grammar.specs.Faults.{IsProgram, Spells, Begins, IsWithin, count, IsWithinMarks, BeginsWithin, NoneGoesOn, IsUnexpected, IsTooMuch}
use Rattle.euclid_parser.proofs.Explained.{first, Agree, Reads, Fails, Explained}
use Rattle.euclid_parser.proofs.Walks.{tokens-append, carried, judge-append}
use Rattle.euclid_parser.proofs.Written.{AllWritten, written_append, written_parts}
use Rattle.euclid_parser.proofs.Fine.{Fits, program_reads}

-- ---- lists

-- two ways to cut a list where the second parts have one length
pub same_cut : {A : Type 0} (a b c d : List A) → a ++ b ≡ c ++ d → length b ≡ length d → (a ≡ c) × (b ≡ d)
same_cut [] b [] d e l = (refl, e)
same_cut [] b (x ∷ c) d e l = absurd (omega (arith, ap length e, length-append c d))
same_cut (x ∷ a) b [] d e l = absurd (omega (arith, ap length e, length-append a b))
same_cut (x ∷ a) b (y ∷ c) d e l =
    let tails : a ++ b ≡ c ++ d = cc in
    let heads : x ≡ y = cc in
    let r = same_cut a b c d tails l in
    (cc (r.0, heads), r.1)

-- cells whose tokens are in two parts
pub cut : (ps : List Cell) (a b : List Token) → tokens ps ≡ a ++ b → (front : List Cell) × (rest : List Cell) × (ps ≡ front ++ rest) × (tokens front ≡ a) × (tokens rest ≡ b)
cut ps [] b e = ([], ps, refl, refl, e)
cut [] (t ∷ a) b e = absurd cc
cut (p ∷ ps) (t ∷ a) b e =
    let tails : tokens ps ≡ a ++ b = cc in
    let heads : p.token ≡ t = cc in
    let r = cut ps a b tails in
    (p ∷ r.0, r.1, ap (λ (qs : List Cell). p ∷ qs) r.2, cc (r.3, heads), r.4)

-- ---- limits

pub judge_within : (c : Counts) (ps : List Cell) (w : List Token) → IsWithin c ps → judge c ps w ≡ Ok (count c ps)
judge_within c [] w h = refl
judge_within c (q ∷ qs) w h = rw h.0 (judge_within (after_all c q.marks) qs w h.1)

-- the first token that begins one too many
pub record Over (c : Counts) (ps : List Cell) : Type 0 where
  pub front : List Cell
  pub next : Cell
  pub rest : List Cell
  pub parts : ps ≡ front ++ next ∷ rest
  pub within : IsWithin c front
  pub over : any_over (count c front) next.marks ≡ true

pub within_or_over : (c : Counts) (ps : List Cell) → IsWithin c ps ⊎ Over c ps
within_or_over c [] = inl tt
within_or_over c (q ∷ qs) = at (any_over c q.marks) refl (within_or_over (after_all c q.marks) qs)
  where
    at : (b : Bool) → any_over c q.marks ≡ b → IsWithin (after_all c q.marks) qs ⊎ Over (after_all c q.marks) qs → IsWithin c (q ∷ qs) ⊎ Over c (q ∷ qs)
    at true e h = inr (record { front = []; next = q; rest = qs; parts = refl; within = tt; over = e })
    at false e (inl h) = inl (e, h)
    at false e (inr o) = inr (record { front = q ∷ o.front; next = o.next; rest = o.rest; parts = ap (λ (ps : List Cell). q ∷ ps) o.parts; within = (e, o.within); over = o.over })

pub judge_over : (c : Counts) (ps : List Cell) (w : List Token) (o : Over c ps) → judge c ps w ≡ Err (record { code = TooMuch; left = suc (length (tokens o.rest ++ w)) })
judge_over c ps w o =
    ap (λ (qs : List Cell). judge c qs w) o.parts ∙ judge-append c o.front (o.next ∷ o.rest) w
    ∙ ap (λ (j : Result Counts Fault). j >>= λ k. judge k (o.next ∷ o.rest) w) (judge_within c o.front (tokens (o.next ∷ o.rest) ++ w) o.within) ∙ rw o.over refl

-- ---- answers

abbrev failed : {X : Type 0} → Code → ℕ → Read X
failed c n = Err (record { code = c; left = n })

read-fault : {X : Type 0} (r : Read X) (y : X × Counts × List Token) (f : Fault) → r ≡ Ok y → r ≡ Err f → ⊥
read-fault r y f e k = cc

one-fault : {X : Type 0} (r : Read X) (f g : Fault) → r ≡ Err f → r ≡ Err g → f ≡ g
one-fault r f g e k = cc

one-read : {X : Type 0} (r : Read X) (y z : X × Counts × List Token) → r ≡ Ok y → r ≡ Ok z → y ≡ z
one-read r y z e k = cc

two-codes : {X : Type 0} (r : Read X) (m n : ℕ) → r ≡ failed Unexpected m → r ≡ failed TooMuch n → ⊥
two-codes r m n e k = codes (ap (λ (f : Fault). f.code) (one-fault r (record { code = Unexpected; left = m }) (record { code = TooMuch; left = n }) e k))
  where
    codes : Unexpected ≡ TooMuch → ⊥
    codes e = cc

two-rests : {X : Type 0} (r : Read X) (x y : X) (c d : Counts) (t : Token) (ts : List Token) → r ≡ Ok (x, c, t ∷ ts) → r ≡ Ok (y, d, []) → ⊥
two-rests {X} r x y c d t ts e k = lists (ap (λ (z : X × Counts × List Token). z.2) (one-read r (x, c, t ∷ ts) (y, d, []) e k))
  where
    lists : t ∷ ts ≡ [] → ⊥
    lists e = cc

same-left : {X : Type 0} (r : Read X) (f : Fault) (c : Code) (n : ℕ) → r ≡ Err f → r ≡ failed c n → (f.code ≡ c) × (f.left ≡ n)
same-left r f c n e k = let same = one-fault r f (record { code = c; left = n }) e k in (ap (λ (x : Fault). x.code) same, ap (λ (x : Fault). x.left) same)

head-tail : (t u : Token) (ts us : List Token) → t ∷ ts ≡ u ∷ us → t ≡ u
head-tail t u ts us e = cc

-- ---- what the reader says of a program

abbrev F : List Token → Read ProgramTree
F ts = program_tree_reader start ts

goes_over : (p : ProgramTree) → Fits p → F (spell p) ≡ carried p [] (judge start (cells p) [])
goes_over p fine = ap F (sym (append-nil (spell p))) ∙ program_reads.walks start p [] fine refl

-- a program is read, or refused as too much, with nothing left where it is read
never_unexpected : (p : ProgramTree) (n : ℕ) → Fits p → F (spell p) ≡ failed Unexpected n → ⊥
never_unexpected p n fine e = at (within_or_over start (cells p))
  where
    at : IsWithin start (cells p) ⊎ Over start (cells p) → ⊥
    at (inl h) = let is : F (spell p) ≡ Ok (p, count start (cells p), []) = goes_over p fine ∙ rw (judge_within start (cells p) [] h) refl in read-fault (F (spell p)) (p, count start (cells p), []) (record { code = Unexpected; left = n }) is e
    at (inr o) = let is : F (spell p) ≡ failed TooMuch (suc (length (tokens o.rest ++ []))) = goes_over p fine ∙ rw (judge_over start (cells p) [] o) refl in two-codes (F (spell p)) n (suc (length (tokens o.rest ++ []))) e is

never_left : (p q : ProgramTree) (c : Counts) (t : Token) (ts : List Token) → Fits p → F (spell p) ≡ Ok (q, c, t ∷ ts) → ⊥
never_left p q c t ts fine e = at (within_or_over start (cells p))
  where
    at : IsWithin start (cells p) ⊎ Over start (cells p) → ⊥
    at (inl h) = let is : F (spell p) ≡ Ok (p, count start (cells p), []) = goes_over p fine ∙ rw (judge_within start (cells p) [] h) refl in two-rests (F (spell p)) q p c (count start (cells p)) t ts e is
    at (inr o) = let is : F (spell p) ≡ failed TooMuch (suc (length (tokens o.rest ++ []))) = goes_over p fine ∙ rw (judge_over start (cells p) [] o) refl in read-fault (F (spell p)) (q, c, t ∷ ts) (record { code = TooMuch; left = suc (length (tokens o.rest ++ [])) }) e is

-- what begins one too many stops the reader, whatever follows
over_stops : (p : ProgramTree) → Fits p → (o : Over start (cells p)) (u : List Token) → F (tokens o.front ++ o.next.token ∷ u) ≡ failed TooMuch (suc (length u))
over_stops p fine o u = at (F (spell p)) refl (program_reads.explains start (spell p))
  where
    spelled : spell p ≡ tokens o.front ++ o.next.token ∷ tokens o.rest
    spelled = ap tokens o.parts ∙ tokens-append o.front (o.next ∷ o.rest)

    is : F (spell p) ≡ failed TooMuch (suc (length (tokens o.rest ++ [])))
    is = goes_over p fine ∙ rw (judge_over start (cells p) [] o) refl

    at : (r : Read ProgramTree) → F (spell p) ≡ r → Explained spell Fits F (spell p) r → F (tokens o.front ++ o.next.token ∷ u) ≡ failed TooMuch (suc (length u))
    at (Ok y) e h = absurd (read-fault (F (spell p)) y (record { code = TooMuch; left = suc (length (tokens o.rest ++ [])) }) e is)
    at (Err f) e h =
        let same = same-left (F (spell p)) f TooMuch (suc (length (tokens o.rest ++ []))) e is in
        let code : f.code ≡ TooMuch = same.0 in
        let left : f.left ≡ suc (length (tokens o.rest ++ [])) = same.1 in
        let k = same_cut h.before h.from (tokens o.front) (o.next.token ∷ tokens o.rest) (sym h.split ∙ spelled) (omega (arith, h.left, left, length-append (tokens o.rest) [])) in
        ap (λ (b : List Token). F (b ++ o.next.token ∷ u)) (sym k.0) ∙ h.local (o.next.token ∷ u) (sym (ap first k.1)) ∙ ap (λ (c : Code). failed c (suc (length u))) code

-- ---- the whole

pub all_again : (p : ProgramTree) → Fits p → IsWithinMarks p → tree_of_all (spell p) ≡ Ok p
unfolding tree_of_all
all_again p fine h = rw (goes_over p fine, judge_within start (cells p) [] h) refl

all_over : (p : ProgramTree) → Fits p → (o : Over start (cells p)) (u : List Token) → tree_of_all (tokens o.front ++ o.next.token ∷ u) ≡ Err (record { code = TooMuch; left = suc (length u) })
unfolding tree_of_all
all_over p fine o u = rw (over_stops p fine o u) refl

-- a program whose cells are in two parts, the first of which begins none too many or else has the first that does
over_in_front : (p : ProgramTree) (front rest : List Cell) → cells p ≡ front ++ rest → (o : Over start front) → Over start (cells p)
over_in_front p front rest parts o = record { front = o.front; next = o.next; rest = o.rest ++ rest; parts = parts ∙ ap (λ (ps : List Cell). ps ++ rest) o.parts ∙ append_assoc o.front (o.next ∷ o.rest) rest; within = o.within; over = o.over }

-- where the reader answers something else, these tokens begin none too many
front_within : (p : ProgramTree) (front rest : List Cell) (from : List Token) → Fits p → cells p ≡ front ++ rest
    → ((n : ℕ) → length from < n → F (tokens front ++ from) ≡ failed TooMuch n → ⊥) → IsWithin start front
unfolding over_in_front
front_within p front rest from fine parts other = at (within_or_over start front)
  where
    at : IsWithin start front ⊎ Over start front → IsWithin start front
    at (inl h) = h
    at (inr o) =
        let stops = over_stops p fine (over_in_front p front rest parts o) (tokens o.rest ++ from) in
        let whole : tokens front ++ from ≡ tokens o.front ++ o.next.token ∷ (tokens o.rest ++ from) =
        ap (λ (ps : List Cell). tokens ps ++ from) o.parts ∙ ap (λ (u : List Token). u ++ from) (tokens-append o.front (o.next ∷ o.rest)) ∙ append_assoc (tokens o.front) (o.next.token ∷ tokens o.rest) from in
        absurd (other (suc (length (tokens o.rest ++ from))) (omega (arith, length-append (tokens o.rest) from)) (ap F whole ∙ stops))

-- a fault of this kind
abbrev pub IsFaultOf : Code → List Token → ℕ → Type 0
IsFaultOf Unexpected ts left = IsUnexpected ts left
IsFaultOf TooMuch ts left = IsTooMuch ts left

-- what an answer says
abbrev pub Says : List Token → Result ProgramTree Fault → Type 0
Says ts (Ok p) = Spells ts p × IsWithinMarks p
Says ts (Err f) = IsFaultOf f.code ts f.left

code_cases : (c : Code) → (c ≡ Unexpected) ⊎ (c ≡ TooMuch)
code_cases Unexpected = inl refl
code_cases TooMuch = inr refl

-- what is read of tokens that can be written is a program, and so is what such tokens begin
reads_program : (ts : List Token) (y : ProgramTree × Counts × List Token) → AllWritten ts → Reads spell Fits F ts y → IsProgram y.0
reads_program ts y written h = record { fits = h.fine; written = (written_parts (spell y.0) y.2 (subst AllWritten h.split written)).0 }

fails_program : (ts : List Token) (f : Fault) → AllWritten ts → (h : Fails spell Fits F ts f) → IsProgram h.whole
fails_program ts f written h =
    let parts = written_parts h.before h.from (subst AllWritten h.split written) in
    record { fits = h.fine; written = subst AllWritten (sym h.begins) (written_append h.before h.after parts.0 (h.written parts.1)) }

says_unexpected : (ts : List Token) (f : Fault) → AllWritten ts → F ts ≡ Err f → f.code ≡ Unexpected → Fails spell Fits F ts f → IsUnexpected ts f.left
says_unexpected ts f written e code h =
    let k = cut (cells h.whole) h.before h.after h.begins in
    record {
      before = h.before;
      from = h.from;
      split = h.split;
      left_is = h.left;
      begins = record {
        program = h.whole;
        is_program = fails_program ts f written h;
        front = k.0;
        rest = k.1;
        parts = k.2;
        tokens_are = k.3;
        within = front_within h.whole k.0 k.1 h.from h.fine k.2 (λ n lt other.
            let same : F ts ≡ failed TooMuch n = ap F (h.split ∙ ap (λ (u : List Token). u ++ h.from) (sym k.3)) ∙ other in
            let left : f.left ≡ n = (same-left (F ts) f TooMuch n e same).1 in
            omega (arith, h.left, left));
      };
      ends = none h.from h.local;
    }
  where
    none : (from : List Token) → ((r : List Token) → first r ≡ first from → F (h.before ++ r) ≡ failed f.code (length r)) → NoneGoesOn h.before from
    none [] local = λ p is.
        never_unexpected p 0 is.0.fits (ap F (sym is.1) ∙ ap F (sym (append-nil h.before)) ∙ local [] refl ∙ ap (λ (c : Code). failed c 0) code)
    none (t ∷ r) local = λ b.
        never_unexpected b.0 (suc (length b.2)) b.1.fits (ap F (b.3 ∙ append_assoc h.before (t ∷ []) b.2) ∙ local (t ∷ b.2) refl ∙ ap (λ (c : Code). failed c (suc (length b.2))) code)

says_too_much : (ts : List Token) (f : Fault) → AllWritten ts → f.code ≡ TooMuch → Fails spell Fits F ts f → IsTooMuch ts f.left
says_too_much ts f written code h = at (within_or_over start (cells h.whole))
  where
    go : Agree h.from h.after
    go = h.goes_on code

    spelled : spell h.whole ≡ h.before ++ go.0 ∷ go.2
    spelled = h.begins ∙ ap (λ (u : List Token). h.before ++ u) go.4

    is : F (spell h.whole) ≡ failed TooMuch (suc (length go.2))
    is = ap F spelled ∙ h.local (go.0 ∷ go.2) (sym (ap first go.3)) ∙ ap (λ (c : Code). failed c (suc (length go.2))) code

    at : IsWithin start (cells h.whole) ⊎ Over start (cells h.whole) → IsTooMuch ts f.left
    at (inl w) = let ok : F (spell h.whole) ≡ Ok (h.whole, count start (cells h.whole), []) = goes_over h.whole h.fine ∙ rw (judge_within start (cells h.whole) [] w) refl in absurd (read-fault (F (spell h.whole)) (h.whole, count start (cells h.whole), []) (record { code = TooMuch; left = suc (length go.2) }) ok is)
    at (inr o) =
        let refused : F (spell h.whole) ≡ failed TooMuch (suc (length (tokens o.rest ++ []))) = goes_over h.whole h.fine ∙ rw (judge_over start (cells h.whole) [] o) refl in
        let left : suc (length go.2) ≡ suc (length (tokens o.rest ++ [])) = (same-left (F (spell h.whole)) (record { code = TooMuch; left = suc (length go.2) }) TooMuch (suc (length (tokens o.rest ++ []))) is refused).1 in
        let k = same_cut h.before (go.0 ∷ go.2) (tokens o.front) (o.next.token ∷ tokens o.rest) (sym spelled ∙ ap tokens o.parts ∙ tokens-append o.front (o.next ∷ o.rest)) (omega (arith, left, length-append (tokens o.rest) [])) in
        let heads : go.0 ≡ o.next.token = head-tail go.0 o.next.token go.2 (tokens o.rest) k.1 in
        record {
          program = h.whole;
          is_program = fails_program ts f written h;
          front = o.front;
          next = o.next;
          rest = o.rest;
          parts = o.parts;
          from = go.1;
          split = h.split ∙ ap (λ (u : List Token). h.before ++ u) go.3 ∙ ap (λ (u : List Token). u ++ go.0 ∷ go.1) k.0 ∙ ap (λ (t : Token). tokens o.front ++ t ∷ go.1) heads;
          left_is = h.left ∙ ap length go.3;
          within = o.within;
          over = o.over;
        }

says_more : (ts : List Token) (y : ProgramTree × Counts × List Token) (t : Token) (r : List Token) → AllWritten ts → F ts ≡ Ok y → y.2 ≡ t ∷ r → Reads spell Fits F ts y → IsUnexpected ts (length y.2)
says_more ts y t r written e is h = record {
  before = spell y.0;
  from = t ∷ r;
  split = h.split ∙ ap (λ (u : List Token). spell y.0 ++ u) is;
  left_is = ap length is;
  begins = record {
    program = y.0;
    is_program = reads_program ts y written h;
    front = cells y.0;
    rest = [];
    parts = sym (append-nil (cells y.0));
    tokens_are = refl;
    within = front_within y.0 (cells y.0) [] y.2 h.fine (sym (append-nil (cells y.0))) (λ n lt other. read-fault (F ts) y (record { code = TooMuch; left = n }) e (ap F h.split ∙ other));
  };
  ends = λ b. never_left b.0 y.0 y.1 t b.2 b.1.fits (ap F (b.3 ∙ append_assoc (spell y.0) (t ∷ []) b.2) ∙ h.local (t ∷ b.2) (sym (ap first is)));
}

says_ended : (ts : List Token) (y : ProgramTree × Counts × List Token) (rest : List Token) → AllWritten ts → F ts ≡ Ok y → y.2 ≡ rest → Reads spell Fits F ts y → Says ts (ended (y.0, y.1, rest))
says_ended ts y [] written e is h =
    let whole : ts ≡ spell y.0 = h.split ∙ ap (λ (u : List Token). spell y.0 ++ u) is ∙ append-nil (spell y.0) in
    ((reads_program ts y written h, whole), front_within y.0 (cells y.0) [] y.2 h.fine (sym (append-nil (cells y.0))) (λ n lt other. read-fault (F ts) y (record { code = TooMuch; left = n }) e (ap F h.split ∙ other)))
says_ended ts y (t ∷ r) written e is h = subst (λ (u : List Token). IsUnexpected ts (length u)) is (says_more ts y t r written e is h)

says_at : (ts : List Token) (r : Read ProgramTree) → AllWritten ts → F ts ≡ r → Explained spell Fits F ts r → Says ts (r >>= ended)
says_at ts (Ok y) written e h = says_ended ts y y.2 written e refl h
says_at ts (Err f) written e h = by_code (code_cases f.code)
  where
    by_code : (f.code ≡ Unexpected) ⊎ (f.code ≡ TooMuch) → Says ts (Err f)
    by_code (inl c) = subst (λ (k : Code). IsFaultOf k ts f.left) (sym c) (says_unexpected ts f written e c h)
    by_code (inr c) = subst (λ (k : Code). IsFaultOf k ts f.left) (sym c) (says_too_much ts f written c h)

-- every answer is right
pub all_says : (ts : List Token) → AllWritten ts → Says ts (tree_of_all ts)
unfolding tree_of_all
all_says ts written = says_at ts (F ts) written refl (program_reads.explains start ts)

-- ---- each fault has one answer

-- the longer of two fronts of a list begins with the shorter one and the token behind it
cut_longer : (a b : List Token) (t : Token) (u v : List Token) → a ++ t ∷ u ≡ b ++ v → length a < length b → (w : List Token) × (b ≡ (a ++ t ∷ []) ++ w)
cut_longer [] [] t u v e l = absurd (omega arith)
cut_longer [] (x ∷ b) t u v e l = (b, ap (λ (y : Token). y ∷ b) (sym (head-tail t x u (b ++ v) e)))
cut_longer (x ∷ a) [] t u v e l = absurd (omega arith)
cut_longer (x ∷ a) (y ∷ b) t u v e l =
    let heads : x ≡ y = head-tail x y (a ++ t ∷ u) (b ++ v) e in
    let tails : a ++ t ∷ u ≡ b ++ v = cc in
    let r = cut_longer a b t u v tails (omega arith) in
    (r.0, ap (λ (c : List Token). y ∷ c) r.1 ∙ ap (λ (z : Token). z ∷ ((a ++ t ∷ []) ++ r.0)) (sym heads))

-- no more tokens than those before the fault begin a program
begins_past : (ts : List Token) (left : ℕ) (h : IsUnexpected ts left) (b v : List Token) → ts ≡ b ++ v → length h.before < length b → Begins b → ⊥
begins_past ts left h b v e l begins = at h.from h.split h.ends
  where
    at : (from : List Token) → ts ≡ h.before ++ from → NoneGoesOn h.before from → ⊥
    at [] split ends = absurd (omega (arith, ap length (sym split ∙ e), length-append h.before [], length-append b v))
    at (t ∷ u) split ends =
        let c = cut_longer h.before b t u v (sym split ∙ e) l in
        ends (begins.0, begins.1, c.0 ++ begins.2, begins.3 ∙ ap (λ (x : List Token). x ++ begins.2) c.1 ∙ append_assoc (h.before ++ t ∷ []) c.0 begins.2)

within_begins : (ts : List Token) → BeginsWithin ts → Begins ts
within_begins ts h = (h.program, h.is_program, tokens h.rest, ap tokens h.parts ∙ tokens-append h.front h.rest ∙ ap (λ (u : List Token). u ++ tokens h.rest) h.tokens_are)

abbrev refused : Code → ℕ → Result ProgramTree Fault
refused c n = Err (record { code = c; left = n })

-- before the fault nothing begins one too many
too_early : (p : ProgramTree) (front rest : List Cell) (q : ProgramTree) (o : Over start (cells q)) (w : List Token) → Fits p → Fits q → cells p ≡ front ++ rest → IsWithin start front
    → tokens front ≡ (tokens o.front ++ o.next.token ∷ []) ++ w → ⊥
too_early p front rest q o w p_fine q_fine parts within same = at (within_or_over (count start front) rest)
  where
    spelled : spell p ≡ tokens o.front ++ o.next.token ∷ (w ++ tokens rest)
    spelled =
        ap tokens parts ∙ tokens-append front rest ∙ ap (λ (u : List Token). u ++ tokens rest) same ∙ append_assoc (tokens o.front ++ o.next.token ∷ []) w (tokens rest) ∙ append_assoc (tokens o.front) (o.next.token ∷ []) (w ++ tokens rest)

    stops : F (spell p) ≡ failed TooMuch (suc (length (w ++ tokens rest)))
    stops = ap F spelled ∙ over_stops q q_fine o (w ++ tokens rest)

    over : F (spell p) ≡ carried p [] (judge (count start front) rest [])
    over =
        goes_over p p_fine
        ∙ ap (carried p []) (ap (λ (ps : List Cell). judge start ps []) parts ∙ judge-append start front rest [] ∙ ap (λ (j : Result Counts Fault). j >>= λ k. judge k rest []) (judge_within start front (tokens rest ++ []) within))

    at : IsWithin (count start front) rest ⊎ Over (count start front) rest → ⊥
    at (inl h) = read-fault (F (spell p)) (p, count (count start front) rest, []) (record { code = TooMuch; left = suc (length (w ++ tokens rest)) }) (over ∙ rw (judge_within (count start front) rest [] h) refl) stops
    at (inr r) =
        let later : F (spell p) ≡ failed TooMuch (suc (length (tokens r.rest ++ []))) = over ∙ rw (judge_over (count start front) rest [] r) refl in
        let left : suc (length (w ++ tokens rest)) ≡ suc (length (tokens r.rest ++ [])) = (same-left (F (spell p)) (record { code = TooMuch; left = suc (length (w ++ tokens rest)) }) TooMuch (suc (length (tokens r.rest ++ []))) stops later).1 in
        let longer = ap length (ap tokens r.parts ∙ tokens-append r.front (r.next ∷ r.rest)) in
        omega (arith, left, longer, length-append w (tokens rest), length-append (tokens r.rest) [], length-append (tokens r.front) (tokens (r.next ∷ r.rest)))

over_of : (ts : List Token) (n : ℕ) (k : IsTooMuch ts n) → Over start (cells k.program)
over_of ts n k = record { front = k.front; next = k.next; rest = k.rest; parts = k.parts; within = k.within; over = k.over }

pub too_much_only : (ts : List Token) (left : ℕ) → IsTooMuch ts left → tree_of_all ts ≡ refused TooMuch left
unfolding over_of
too_much_only ts left k = ap tree_of_all k.split ∙ all_over k.program k.is_program.fits (over_of ts left k) k.from ∙ ap (refused TooMuch) (sym k.left_is)

not_both : (ts : List Token) (m n : ℕ) → IsUnexpected ts m → IsTooMuch ts n → ⊥
unfolding over_of
not_both ts m n h k = at (length_cases (length (tokens k.front)) (length h.before))
  where
    length_cases : (a b : ℕ) → (a < b) ⊎ (b ≤ a)
    length_cases a b = grind arith

    at : (length (tokens k.front) < length h.before) ⊎ (length h.before ≤ length (tokens k.front)) → ⊥
    at (inl l) =
        let more = cut_longer (tokens k.front) h.before k.next.token k.from h.from (sym k.split ∙ h.split) l in
        too_early h.begins.program h.begins.front h.begins.rest k.program (over_of ts n k) more.0 h.begins.is_program.fits k.is_program.fits h.begins.parts h.begins.within (h.begins.tokens_are ∙ more.1)
    at (inr l) =
        begins_past ts m h (tokens k.front ++ k.next.token ∷ []) k.from (k.split ∙ sym (append_assoc (tokens k.front) (k.next.token ∷ []) k.from)) (omega (arith, length-append (tokens k.front) (k.next.token ∷ [])))
        (k.program, k.is_program, tokens k.rest, ap tokens k.parts ∙ tokens-append k.front (k.next ∷ k.rest) ∙ sym (append_assoc (tokens k.front) (k.next.token ∷ []) (tokens k.rest)))

same_place : (ts : List Token) (m n : ℕ) → IsUnexpected ts m → IsUnexpected ts n → m ≡ n
same_place ts m n h k = at (place_cases (length h.before) (length k.before))
  where
    place_cases : (a b : ℕ) → ((a < b) ⊎ (b < a)) ⊎ (a ≡ b)
    place_cases a b = grind arith

    at : ((length h.before < length k.before) ⊎ (length k.before < length h.before)) ⊎ (length h.before ≡ length k.before) → m ≡ n
    at (inl (inl l)) = absurd (begins_past ts m h k.before k.from k.split l (within_begins k.before k.begins))
    at (inl (inr l)) = absurd (begins_past ts n k h.before h.from h.split l (within_begins h.before h.begins))
    at (inr e) = omega (arith, h.left_is, k.left_is, e, ap length (sym h.split ∙ k.split), length-append h.before h.from, length-append k.before k.from)

not_whole : (ts : List Token) (m : ℕ) (p : ProgramTree) → IsUnexpected ts m → Spells ts p → ⊥
not_whole ts m p h is = at h.from h.split h.ends
  where
    at : (from : List Token) → ts ≡ h.before ++ from → NoneGoesOn h.before from → ⊥
    at [] split ends = ends p (is.0, sym (append-nil h.before) ∙ sym split ∙ is.1)
    at (t ∷ u) split ends = ends (p, is.0, u, sym is.1 ∙ split ∙ sym (append_assoc h.before (t ∷ []) u))

pub unexpected_only : (ts : List Token) (left : ℕ) → AllWritten ts → IsUnexpected ts left → tree_of_all ts ≡ refused Unexpected left
unexpected_only ts left written h = at (tree_of_all ts) (all_says ts written)
  where
    by_code : (c : Code) (n : ℕ) → IsFaultOf c ts n → refused c n ≡ refused Unexpected left
    by_code Unexpected n k = ap (refused Unexpected) (same_place ts n left k h)
    by_code TooMuch n k = absurd (not_both ts left n h k)

    at : (r : Result ProgramTree Fault) → Says ts r → r ≡ refused Unexpected left
    at (Ok p) s = absurd (not_whole ts left p h s.0)
    at (Err f) s = by_code f.code f.left s
