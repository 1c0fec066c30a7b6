-- Lists of items of any length, with a sign between two of them.
use Rattle.std.proofs.Common.{◌≡◌, ℕ, suc, Bool, true, false, ◌⊎◌, inl, inr, List, [], ◌∷◌, ◌++◌, refl, ap, arith}
use Rattle.euclid_lexer.specs.declared.token.Token.{Token}
use Rattle.euclid_lexer.specs.declared.token.Token.TheVariants as token
use Rattle.euclid_lexer.specs.declared.token.Sign.{Sign}
use Rattle.euclid_lexer.specs.declared.token.Sign.TheVariants.{Comma}
use Rattle.euclid_grammar.specs.Marks.{BeginsItem, Cell, tokens, beginning}
use Rattle.euclid_grammar.specs.Grammar.{sign, with_commas, behind_commas}
use Rattle.euclid_parser.specs.Reader.{Reader, starts, both, many}
use Rattle.euclid_parser.specs.Reading.{is_the_sign, sign_reader, joined, next_reader, separated, item_reader}
use Rattle.euclid_parser.proofs.Readers.{IsReader, Opened, Begun, loose, joined_reads, respelled_reads, limited_reads}
use Rattle.euclid_parser.proofs.Many.{list_cells, AllFine, many_reads}
use Rattle.euclid_parser.proofs.ReadTokens.{apart-sign, or, within-left, within-right, within-same, sign_reads, behind_reads}

abbrev pub next_cells : {X : Type 0} → Sign → (ℕ → X → List Cell) → ℕ → X → List Cell
next_cells s p i x = sign s ∷ p i x

abbrev pub separated_cells : {X : Type 0} → Sign → (ℕ → X → List Cell) → List X → List Cell
separated_cells s p [] = []
separated_cells s p (x ∷ xs) = p 0 x ++ list_cells (next_cells s p) 1 xs

-- there is a first, and g holds of each
abbrev pub AllFilled : {X : Type 0} → (X → Type 0) → List X → Type 0
AllFilled g [] = ⊥
AllFilled g (x ∷ xs) = g x × AllFine g xs

module _ {X : Type 0} (s : Sign) (p : ℕ → X → List Cell) (g : X → Type 0) (m : Token → Bool) (P : ℕ → Reader X) (a : (i : ℕ) → IsReader (p i) g m (P i)) (apart : m (token.Sign s) ≡ false) where
  abbrev k : Token → Bool
  k = or (is_the_sign s) m

  more_reads : IsReader (list_cells (next_cells s p) 1) (AllFine g) k (many (is_the_sign s) (next_reader s P) 1)
  more_reads =
      many_reads (next_cells s p) g m (is_the_sign s) k (next_reader s P) (λ i. behind_reads (p i) g m (P i) (sign s) (sign_reader s) (sign_reads s) (a i)) (λ i. opened i) (apart-sign s m apart) (within-right (is_the_sign s) m) (within-left (is_the_sign s) m) 1
    where
      opened : (i : ℕ) (x : X) → g x → is_the_sign s (token.Sign s) ≡ true
      opened i x fine = grind arith

  pub separated_reads : IsReader (separated_cells s p) (AllFilled g) k (separated s P)
  unfolding separated
  separated_reads =
      joined_reads (p 0) (list_cells (next_cells s p) 1) g (AllFine g) k (both (P 0) (many (is_the_sign s) (next_reader s P) 1)) (separated_cells s p) (AllFilled g) joined
      (loose (p 0) g m (P 0) (list_cells (next_cells s p) 1) (AllFine g) k (many (is_the_sign s) (next_reader s P) 1) k (a 0) more_reads (is_the_sign s) opened (apart-sign s m apart) (within-right (is_the_sign s) m) (within-same k))
      (λ z. refl) (λ x xs. refl) (λ x xs f fs. (f, fs)) (λ x xs f. f) (λ e. e)
    where
      opened : (xs : List X) → AllFine g xs → (tokens (list_cells (next_cells s p) 1 xs) ≡ []) ⊎ (starts (is_the_sign s) (tokens (list_cells (next_cells s p) 1 xs)) ≡ true)
      opened [] fine = inl refl
      opened (x ∷ xs) fine = inr (grind arith)

-- ---- items, of whom each has a number

module _ {X : Type 0} (item : X → List Cell) where
  abbrev pub numbered : ℕ → X → List Cell
  numbered i x = beginning (BeginsItem i) (item x)

  commas-list : (i : ℕ) (xs : List X) → behind_commas item i xs ≡ list_cells (next_cells Comma numbered) i xs
  commas-list i [] = refl
  commas-list i (x ∷ xs) = ap (λ (qs : List Cell). sign Comma ∷ (beginning (BeginsItem i) (item x) ++ qs)) (commas-list (suc i) xs)

  commas : (xs : List X) → with_commas item xs ≡ separated_cells Comma numbered xs
  commas [] = refl
  commas (x ∷ xs) = ap (λ (qs : List Cell). beginning (BeginsItem 0) (item x) ++ qs) (commas-list 1 xs)

  module _ (g : X → Type 0) (m opens : Token → Bool) (P : Reader X) (a : IsReader item g m P) (opened : Opened item g opens) (begun : Begun item g opens) where
    pub item_reads : (i : ℕ) → IsReader (numbered i) g m (item_reader opens P i)
    item_reads i = limited_reads item g m opens P (BeginsItem i) a opened begun

    -- a list with commas, that is not empty
    pub commas_read : m (token.Sign Comma) ≡ false → IsReader (with_commas item) (AllFilled g) (or (is_the_sign Comma) m) (separated Comma (item_reader opens P))
    commas_read apart =
        respelled_reads (separated_cells Comma numbered) (AllFilled g) (or (is_the_sign Comma) m) (separated Comma (item_reader opens P)) (with_commas item) commas
        (separated_reads Comma numbered g m (item_reader opens P) item_reads apart)

    pub commas_opened : Opened (with_commas item) (AllFilled g) opens
    commas_opened [] fine = absurd fine
    commas_opened (x ∷ xs) fine = at (item x) (opened x fine.0) (behind_commas item 1 xs)
      where
        at : (qs : List Cell) → starts opens (tokens qs) ≡ true → (ws : List Cell) → starts opens (tokens (beginning (BeginsItem 0) qs ++ ws)) ≡ true
        at [] e ws = absurd cc
        at (q ∷ qs) e ws = e
