-- A list that has to have a first, and readers that answer the same.
use Rattle.std.proofs.Common.{◌≡◌, ℕ, Bool, true, false, cond, List, [], ◌∷◌, ◌++◌, refl, sym, subst, ◌∙◌}
use Rattle.euclid_grammar.specs.declared.counts.Counts.{Counts}
use Rattle.euclid_lexer.specs.declared.token.Token.{Token}
use Rattle.euclid_grammar.specs.Marks.{Cell, tokens}
use Rattle.euclid_parser.specs.Reader.{Read, Reader, starts, unexpected, both, mapped, filled, many, give}
use Rattle.euclid_parser.specs.Reading.{joined}
use Rattle.euclid_parser.proofs.Written.{AllWritten}
use Rattle.euclid_parser.proofs.Explained.{Explained, swapped, by_first_explained}
use Rattle.euclid_parser.proofs.Walks.{by_first_walks_first}
use Rattle.euclid_parser.proofs.Readers.{IsReader, Opened, Apart, loose, joined_reads, starts-append}
use Rattle.euclid_parser.proofs.Many.{list_cells, AllFine, steps, many_reads, list_opened}
use Rattle.euclid_parser.proofs.ReadTokens.{or, within-left, within-right, within-same}
use Rattle.euclid_parser.proofs.Separated.{AllFilled}

pub same_reads : {X : Type 0} (p : X → List Cell) (g : X → Type 0) (m : Token → Bool) (P R : Reader X) → ((c : Counts) (ts : List Token) → R c ts ≡ P c ts) → IsReader p g m P → IsReader p g m R
same_reads p g m P R same a = record {
  some = a.some;
  some_fine = a.some_fine;
  some_written = a.some_written;
  explains = λ c ts.
      subst (λ (r : Read _). Explained (λ (x : _). tokens (p x)) g (R c) ts r) (sym (same c ts))
      (swapped (λ (x : _). tokens (p x)) g (P c) (R c) ts (P c ts) (λ u first. same c u) (a.explains c ts));
  walks = λ c x w fine e. same c (tokens (p x) ++ w) ∙ a.walks c x w fine e;
}

unexpected_explained : {X : Type 0} (s : X → List Token) (g : X → Type 0) (x : X) → g x → AllWritten (s x) → (c : Counts) (ts : List Token) → Explained s g (unexpected c) ts (unexpected c ts)
unexpected_explained s g x fine written c ts = record {
  before = [];
  from = ts;
  split = refl;
  left = refl;
  whole = x;
  fine = fine;
  after = s x;
  begins = refl;
  written = λ given. written;
  goes_on = λ is. absurd cc;
  local = λ r same. refl;
}

-- where it has to begin so, a reader of what begins so
pub begun_reads : {X : Type 0} (p : X → List Cell) (g : X → Type 0) (m opens : Token → Bool) (P : Reader X) → Opened p g opens → IsReader p g m P → IsReader p g m (filled opens P)
begun_reads p g m opens P opened a = record {
  some = a.some;
  some_fine = a.some_fine;
  some_written = a.some_written;
  explains = λ c ts.
      by_first_explained (λ (x : _). tokens (p x)) g opens P unexpected c ts (λ e. a.explains c ts)
      (λ e. unexpected_explained (λ (x : _). tokens (p x)) g a.some a.some_fine a.some_written c ts);
  walks = λ c x w fine e. by_first_walks_first p opens P unexpected c x w (starts-append opens (tokens (p x)) w (opened x fine)) (a.walks c x w fine e);
}

module _ {X : Type 0} (p : ℕ → X → List Cell) (g : X → Type 0) (m opens : Token → Bool) (P : ℕ → Reader X) (a : (i : ℕ) → IsReader (p i) g m (P i)) (opened : (i : ℕ) → Opened (p i) g opens) (apart : Apart opens m) where
  abbrev k : Token → Bool
  k = or opens m

  abbrev first_and_others : Reader (List X)
  first_and_others = mapped joined (both (P 0) (many opens P 1))

  joined_read : IsReader (list_cells p 0) (AllFilled g) k first_and_others
  joined_read =
      joined_reads (p 0) (list_cells p 1) g (AllFine g) k (both (P 0) (many opens P 1)) (list_cells p 0) (AllFilled g) joined
      (loose (p 0) g m (P 0) (list_cells p 1) (AllFine g) k (many opens P 1) k (a 0)
      (many_reads p g m opens k P a opened apart (within-right opens m) (within-left opens m) 1) opens
      (list_opened p g m opens k P a opened apart (within-right opens m) (within-left opens m) 1) apart (within-right opens m) (within-same k))
      (λ z. refl) (λ x xs. refl) (λ x xs f fs. (f, fs)) (λ x xs f. f) (λ e. e)

  filled_opened : Opened (list_cells p 0) (AllFilled g) opens
  filled_opened [] fine = absurd fine
  filled_opened (x ∷ xs) fine = at (p 0 x) (opened 0 x fine.0) (list_cells p 1 xs)
    where
      at : (qs : List Cell) → starts opens (tokens qs) ≡ true → (ws : List Cell) → starts opens (tokens (qs ++ ws)) ≡ true
      at [] e ws = absurd cc
      at (q ∷ qs) e ws = e

  turned : (c : Counts) (ts : List Token) → filled opens (many opens P 0) c ts ≡ filled opens first_and_others c ts
  turned c ts = rw (steps p g m opens k P a opened apart (within-right opens m) (within-left opens m) 0 c ts) (at (starts opens ts))
    where
      at : (b : Bool) → cond b (cond b (first_and_others c ts) (give [] c ts)) (unexpected c ts) ≡ cond b (first_and_others c ts) (unexpected c ts)
      at true = refl
      at false = refl

  pub filled_reads : IsReader (list_cells p 0) (AllFilled g) k (filled opens (many opens P 0))
  filled_reads =
      same_reads (list_cells p 0) (AllFilled g) k (filled opens first_and_others) (filled opens (many opens P 0)) turned
      (begun_reads (list_cells p 0) (AllFilled g) k opens first_and_others filled_opened joined_read)
