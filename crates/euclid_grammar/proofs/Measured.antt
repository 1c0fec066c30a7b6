-- What cells begin, and when none of them begins one too many.
use Rattle.std.proofs.Common.{◌≡◌, ℕ, ◌+◌, ◌<◌, ◌≤◌, false, List, [], ◌∷◌, ◌++◌, refl, ap, sym, ◌∙◌, subst, arith}
use Rattle.std.proofs.lemmas.Bool.{or_parts, or_from, leb-false, lt-leb}
use Rattle.euclid_lexer.specs.declared.token.Token.{Token}
use Rattle.euclid_grammar.specs.declared.counts.Counts.{Counts}
use Rattle.euclid_grammar.specs.Marks.{Mark, BeginsRule, BeginsStatement, BeginsComparison, BeginsItem, BeginsLevel, Cell, plain, beginning}
use Rattle.euclid_grammar.specs.Fits.{is_over, after_mark, any_over, after_all}
use Rattle.euclid_grammar.specs.Faults.{IsWithin, count}

-- ---- counts

abbrev pub counted : ℕ → ℕ → Counts
counted s c = record { statements = s; comparisons = c }

abbrev pub none : Counts
none = counted 0 0

-- so many and so many more
abbrev pub both : Counts → Counts → Counts
both n m = counted (n.statements + m.statements) (n.comparisons + m.comparisons)

-- no more than there may be
pub record IsAllowed (n : Counts) : Type 0 where
  pub statements : n.statements ≤ 16384
  pub comparisons : n.comparisons ≤ 16384

pub same_counts : (n m : Counts) → n.statements ≡ m.statements → n.comparisons ≡ m.comparisons → n ≡ m
same_counts n m p q = ap (λ s. counted s n.comparisons) p ∙ ap (counted m.statements) q

pub both_none : (n : Counts) → both n none ≡ n
both_none n = same_counts (both n none) n (omega arith) (omega arith)

pub none_both : (n : Counts) → both none n ≡ n
none_both n = same_counts (both none n) n (omega arith) (omega arith)

pub both_assoc : (n m k : Counts) → both (both n m) k ≡ both n (both m k)
both_assoc n m k = same_counts (both (both n m) k) (both n (both m k)) (omega arith) (omega arith)

-- ---- marks

-- A mark counts so many, and is one too many except where these are allowed and `fits` holds.
pub record IsMarked (m : Mark) (adds : Counts) (fits : Type 0) : Type 0 where
  pub counted_is : (c : Counts) → after_mark c m ≡ both c adds
  pub to : (c : Counts) → IsAllowed c → is_over c m ≡ false → IsAllowed (both c adds) × fits
  pub from : (c : Counts) → IsAllowed (both c adds) → fits → is_over c m ≡ false

allowed_as : (n m : Counts) → n ≡ m → IsAllowed n → IsAllowed m
allowed_as n m e h = let P : Counts → Type 0 = λ k. IsAllowed k in subst P e h

pub statement_marked : IsMarked BeginsStatement (counted 1 0) (Unit {0})
statement_marked = record {
  counted_is = λ c. same_counts _ _ refl (omega arith);
  to = λ c h free. (record { statements = (let e = leb-false 16384 c.statements free in omega (arith, e)); comparisons = omega (arith, h.comparisons) }, tt);
  from = λ c h _. lt-leb 16384 c.statements (omega (arith, h.statements));
}

pub comparison_marked : IsMarked BeginsComparison (counted 0 1) (Unit {0})
comparison_marked = record {
  counted_is = λ c. same_counts _ _ (omega arith) refl;
  to = λ c h free. (record { statements = omega (arith, h.statements); comparisons = (let e = leb-false 16384 c.comparisons free in omega (arith, e)) }, tt);
  from = λ c h _. lt-leb 16384 c.comparisons (omega (arith, h.comparisons));
}

pub rule_marked : (i : ℕ) → IsMarked (BeginsRule i) none (i < 256)
rule_marked i = record {
  counted_is = λ c. sym (both_none c);
  to = λ c h free. (allowed_as c (both c none) (sym (both_none c)) h, leb-false 256 i free);
  from = λ c h fits. lt-leb 256 i fits;
}

pub item_marked : (i : ℕ) → IsMarked (BeginsItem i) none (i < 4096)
item_marked i = record {
  counted_is = λ c. sym (both_none c);
  to = λ c h free. (allowed_as c (both c none) (sym (both_none c)) h, leb-false 4096 i free);
  from = λ c h fits. lt-leb 4096 i fits;
}

pub level_marked : (level : ℕ) → IsMarked (BeginsLevel level) none (level < 33)
level_marked level = record {
  counted_is = λ c. sym (both_none c);
  to = λ c h free. (allowed_as c (both c none) (sym (both_none c)) h, leb-false 33 level free);
  from = λ c h fits. lt-leb 33 level fits;
}

-- ---- cells

-- The cells count so many, and none of them begins one too many exactly where these are allowed and `fits` holds.
pub record IsMeasured (qs : List Cell) (adds : Counts) (fits : Type 0) : Type 0 where
  pub counted_is : (c : Counts) → count c qs ≡ both c adds
  pub to : (c : Counts) → IsAllowed c → IsWithin c qs → IsAllowed (both c adds) × fits
  pub from : (c : Counts) → IsAllowed (both c adds) → fits → IsWithin c qs

pub measured_none : IsMeasured [] none (Unit {0})
measured_none = record {
  counted_is = λ c. sym (both_none c);
  to = λ c h within. (allowed_as c (both c none) (sym (both_none c)) h, tt);
  from = λ c h fits. tt;
}

-- the same said in other words
pub measured_as : {F G : Type 0} (qs : List Cell) (a b : Counts) → IsMeasured qs a F → a ≡ b → (F → G) → (G → F) → IsMeasured qs b G
measured_as {F} {G} qs a b m e to from = record {
  counted_is = λ c. m.counted_is c ∙ ap (both c) e;
  to = λ c h within. let p = m.to c h within in (allowed_as (both c a) (both c b) (ap (both c) e) p.0, to p.1);
  from = λ c h fits. m.from c (allowed_as (both c b) (both c a) (ap (both c) (sym e)) h) (from fits);
}

-- a token that begins nothing
pub measured_plain : {F : Type 0} (t : Token) (qs : List Cell) (a : Counts) → IsMeasured qs a F → IsMeasured (plain t ∷ qs) a F
measured_plain t qs a m = record {
  counted_is = λ c. m.counted_is c;
  to = λ c h within. m.to c h within.1;
  from = λ c h fits. (refl, m.from c h fits);
}

count-append : (c : Counts) (xs ys : List Cell) → count c (xs ++ ys) ≡ count (count c xs) ys
count-append c [] ys = refl
count-append c (x ∷ xs) ys = count-append (after_all c x.marks) xs ys

within_parts : (c : Counts) (xs ys : List Cell) → IsWithin c (xs ++ ys) → IsWithin c xs × IsWithin (count c xs) ys
within_parts c [] ys h = (tt, h)
within_parts c (x ∷ xs) ys h = let p = within_parts (after_all c x.marks) xs ys h.1 in ((h.0, p.0), p.1)

within_both : (c : Counts) (xs ys : List Cell) → IsWithin c xs → IsWithin (count c xs) ys → IsWithin c (xs ++ ys)
within_both c [] ys h g = g
within_both c (x ∷ xs) ys h g = (h.0, within_both (after_all c x.marks) xs ys h.1 g)

allowed_first : (c a b : Counts) → IsAllowed (both c (both a b)) → IsAllowed (both c a)
allowed_first c a b h = record { statements = omega (arith, h.statements); comparisons = omega (arith, h.comparisons) }

-- some cells, and others
pub measured_append : {F G : Type 0} (xs ys : List Cell) (a b : Counts) → IsMeasured xs a F → IsMeasured ys b G → IsMeasured (xs ++ ys) (both a b) (F × G)
measured_append {F} {G} xs ys a b m n = record {
  counted_is = λ c. count-append c xs ys ∙ ap (λ k. count k ys) (m.counted_is c) ∙ n.counted_is (both c a) ∙ both_assoc c a b;
  to = λ c h within.
      let parts = within_parts c xs ys within in
      let first = m.to c h parts.0 in
      let P : Counts → Type 0 = λ k. IsWithin k ys in
      let second = n.to (both c a) first.0 (subst P (m.counted_is c) parts.1) in
      (allowed_as (both (both c a) b) (both c (both a b)) (both_assoc c a b) second.0, (first.1, second.1));
  from = λ c h fits.
      let P : Counts → Type 0 = λ k. IsWithin k ys in
      within_both c xs ys (m.from c (allowed_first c a b h) fits.0)
      (subst P (sym (m.counted_is c)) (n.from (both c a) (allowed_as (both c (both a b)) (both (both c a) b) (sym (both_assoc c a b)) h) fits.1));
}

-- cells, and a token behind them that begins nothing
pub measured_closed : {F : Type 0} (xs : List Cell) (t : Token) (a : Counts) → IsMeasured xs a F → IsMeasured (xs ++ plain t ∷ []) a F
measured_closed {F} xs t a m =
    measured_as (xs ++ plain t ∷ []) (both a none) a (measured_append xs (plain t ∷ []) a none m (measured_plain t [] none measured_none)) (both_none a) (λ (p : F × Unit {0}). p.0) (λ (p : F). (p, tt))

-- there is a first cell
abbrev pub IsFilled : List Cell → Type 0
IsFilled [] = ⊥
IsFilled (q ∷ qs) = Unit {0}

begun_parts : (c : Counts) (m : Mark) (q : Cell) (qs : List Cell) → IsWithin c (beginning m (q ∷ qs)) → (is_over c m ≡ false) × IsWithin (after_mark c m) (q ∷ qs)
begun_parts c m q qs h = let p = or_parts (is_over c m) (any_over (after_mark c m) q.marks) h.0 in (p.0, (p.1, h.1))

begun_both : (c : Counts) (m : Mark) (q : Cell) (qs : List Cell) → is_over c m ≡ false → IsWithin (after_mark c m) (q ∷ qs) → IsWithin c (beginning m (q ∷ qs))
begun_both c m q qs free h = (or_from (is_over c m) (any_over (after_mark c m) q.marks) free h.0, h.1)

-- cells of which the first begins something more
pub measured_beginning : {F M : Type 0} (m : Mark) (qs : List Cell) (a b : Counts) → IsFilled qs → IsMarked m a M → IsMeasured qs b F → IsMeasured (beginning m qs) (both a b) (M × F)
measured_beginning m [] a b filled mark rest = absurd filled
measured_beginning {F} {M} m (q ∷ qs) a b filled mark rest = record {
  counted_is = λ c. ap (λ k. count k (q ∷ qs)) (mark.counted_is c) ∙ rest.counted_is (both c a) ∙ both_assoc c a b;
  to = λ c h within.
      let parts = begun_parts c m q qs within in
      let first = mark.to c h parts.0 in
      let P : Counts → Type 0 = λ k. IsWithin k (q ∷ qs) in
      let second = rest.to (both c a) first.0 (subst P (mark.counted_is c) parts.1) in
      (allowed_as (both (both c a) b) (both c (both a b)) (both_assoc c a b) second.0, (first.1, second.1));
  from = λ c h fits.
      let P : Counts → Type 0 = λ k. IsWithin k (q ∷ qs) in
      begun_both c m q qs (mark.from c (allowed_first c a b h) fits.0)
      (subst P (sym (mark.counted_is c)) (rest.from (both c a) (allowed_as (both c (both a b)) (both (both c a) b) (sym (both_assoc c a b)) h) fits.1));
}

-- the same where what begins is not counted over the program
pub measured_begun : {F M : Type 0} (m : Mark) (qs : List Cell) (b : Counts) → IsFilled qs → IsMarked m none M → IsMeasured qs b F → IsMeasured (beginning m qs) b (M × F)
measured_begun {F} {M} m qs b filled mark rest =
    measured_as (beginning m qs) (both none b) b (measured_beginning m qs none b filled mark rest) (none_both b) (λ (p : M × F). p) (λ (p : M × F). p)
