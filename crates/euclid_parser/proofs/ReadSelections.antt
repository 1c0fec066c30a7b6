-- Accounts, shares and selections are read as they are spelled.
use Rattle.std.proofs.Common.{◌≡◌, ℕ, Bool, true, false, cond, ◌||◌, not, ◌⊎◌, inl, inr, List, [], ◌∷◌, ◌++◌, Option, Some, None, refl, sym, ap, ◌∙◌, bytes_eq, codes}
use Rattle.std.specs.Prelude.{ℤ, pos, negsuc, nat_le, int_le}
use Rattle.std.specs.List.{list_all}
use Rattle.std.proofs.lemmas.Bool.{and_parts}
use Rattle.std.proofs.lemmas.Slice.Eq.{bytes_eq-Decides}
use Rattle.euclid_lexer.specs.declared.token.Token.{Token}
use Rattle.euclid_lexer.specs.Pieces.{can_be_written}
use Rattle.euclid_lexer.specs.declared.token.Token.TheVariants as token
use Rattle.euclid_lexer.specs.declared.token.Sign.{Sign}
use Rattle.euclid_lexer.specs.declared.token.Sign.TheVariants.{SquareOpen, SquareClose, Comma, AtSign, Percent}
use Rattle.euclid_ast.specs.declared.selection.Account.{Account}
use Rattle.euclid_ast.specs.declared.selection.Share.{Share}
use Rattle.euclid_ast.specs.declared.selection.ThreeDs.TheVariants as secure
use Rattle.euclid_ast.specs.declared.selection.Selection.{Selection}
use Rattle.euclid_ast.specs.declared.selection.Selection.TheVariants.{Priority, Volume, SurchargeFixed, SurchargeRate, Auth, Nothing}
use Rattle.euclid_grammar.specs.Marks.{Cell, tokens}
use Rattle.euclid_grammar.specs.Grammar.{sign, word, number, number_cells, with_commas, account_cells, share_cells, selection_cells}
use Rattle.euclid_parser.specs.Reader.{Reader, starts, both, mapped, either, optional}
use Rattle.euclid_parser.specs.Reading.{is_the_sign, is_the_word, is_str_token, small_of, amount_of, small_reader, amount_reader, sign_reader, the_word_reader, str_reader, behind, closed, separated, item_reader, account_made, account_reader, account_item, share_made, share_item, list_of, listed_reader, Choices, selection_made, keyword, selection_reader}
use Rattle.euclid_parser.proofs.Written.{written_next, written_one, word_written, zero_written, sign_written}
use Rattle.euclid_parser.proofs.Readers.{IsReader, Opened, Begun, Apart, firm, mapped_reads, then_reads, either_reads, optional_reads, option_cells, OptionFine, sum_cells, SumFine}
use Rattle.euclid_parser.proofs.Many.{AllFine}
use Rattle.euclid_parser.proofs.ReadTokens.{Anything, never, or, apart-sign, within-left, within-right, within-never, within-same, sign_reads, the_word_reads, IsClass, class_reads, behind_reads, closed_reads, bytes_eq-same}
use Rattle.euclid_parser.proofs.Separated.{AllFilled, commas_read, commas_opened}
use Rattle.euclid_parser.proofs.ReadValues.{str_cells, str_reads}

-- ---- numbers in a range

abbrev pub IsSmall : ℕ → ℕ → Type 0
IsSmall most n = nat_le n most ≡ true

small_class : (most : ℕ) → nat_le 0 most ≡ true → IsClass (IsSmall most) (small_of most) (λ n. token.Number (pos n))
small_class most zero_fits = record { some = 0; fine = zero_fits; written = zero_written; made = λ n fine. rw fine refl; read = small_read }
  where
    at : (m n : ℕ) (b : Bool) → nat_le m most ≡ b → cond b (Some m) None ≡ Some n → IsSmall most n × (token.Number (pos m) ≡ token.Number (pos n))
    at m n true l e = let same : m ≡ n = cc in (ap (λ (k : ℕ). nat_le k most) (sym same) ∙ l, ap (λ (k : ℕ). token.Number (pos k)) same)
    at m n false l e = absurd cc

    small_read : (t : Token) (n : ℕ) → small_of most t ≡ Some n → IsSmall most n × (t ≡ token.Number (pos n))
    small_read (token.Number (pos m)) n e = at m n (nat_le m most) refl e
    small_read (token.Number (negsuc m)) n e = absurd cc
    small_read (token.Word w) n e = absurd cc
    small_read (token.Sign u) n e = absurd cc
    small_read (token.Str s) n e = absurd cc

abbrev small_cells : ℕ → List Cell
small_cells n = number (pos n) ∷ []

abbrev pub IsAmount : ℤ → Type 0
IsAmount z = int_le (pos 0) z ≡ true

amounts : IsClass IsAmount amount_of token.Number
amounts = record { some = pos 0; fine = refl; written = zero_written; made = λ z fine. rw fine refl; read = amount_read }
  where
    at : (y z : ℤ) (b : Bool) → int_le (pos 0) y ≡ b → cond b (Some y) None ≡ Some z → IsAmount z × (token.Number y ≡ token.Number z)
    at y z true l e = let same : y ≡ z = cc in (ap (λ (k : ℤ). int_le (pos 0) k) (sym same) ∙ l, ap token.Number same)
    at y z false l e = absurd cc

    amount_read : (t : Token) (z : ℤ) → amount_of t ≡ Some z → IsAmount z × (t ≡ token.Number z)
    amount_read (token.Number y) z e = at y z (int_le (pos 0) y) refl e
    amount_read (token.Word w) z e = absurd cc
    amount_read (token.Sign u) z e = absurd cc
    amount_read (token.Str s) z e = absurd cc

-- ---- accounts and shares

abbrev at_sign : Token → Bool
at_sign = is_the_sign AtSign

abbrev at_cells : List ℕ → List Cell
at_cells s = sign AtSign ∷ str_cells s

abbrev Parts : Type 0
Parts = List ℕ × Option (List ℕ)

account_reads : IsReader account_cells Anything at_sign account_reader
unfolding account_reader
account_reads =
    mapped_reads (λ (z : Parts). str_cells z.0 ++ option_cells at_cells z.1) (λ (z : Parts). Unit {0} × OptionFine Anything z.1) at_sign (both str_reader (optional at_sign (behind (sign_reader AtSign) str_reader))) account_cells Anything account_made
    (then_reads str_cells Anything str_reader (option_cells at_cells) (OptionFine Anything) at_sign (optional at_sign (behind (sign_reader AtSign) str_reader)) str_reads
    (optional_reads at_cells Anything never at_sign at_sign (behind (sign_reader AtSign) str_reader)
    (behind_reads str_cells Anything never str_reader (sign AtSign) (sign_reader AtSign) (sign_reads AtSign) str_reads)
    (λ n fine. refl) (within-never at_sign) (within-same at_sign)))
    (λ z fine. (tt, there z.0 z.1)) (λ a fine. ((a.connector, a.id), (tt, any a.id), refl))
  where
    there : (s : List ℕ) (o : Option (List ℕ)) → account_cells (account_made (s, o)) ≡ str_cells s ++ option_cells at_cells o
    there s None = refl
    there s (Some id) = refl

    any : (o : Option (List ℕ)) → OptionFine Anything o
    any None = tt
    any (Some id) = tt

account_opened : Opened account_cells Anything is_str_token
account_opened a fine = refl

account_begun : Begun account_cells Anything is_str_token
account_begun (token.Str s) e = (record { connector = s; id = None }, tt, [], refl, refl)
account_begun (token.Word w) e = absurd cc
account_begun (token.Sign u) e = absurd cc
account_begun (token.Number z) e = absurd cc

abbrev pub IsShare : Share → Type 0
IsShare s = IsSmall 255 s.split

abbrev percent_cells : ℕ → List Cell
percent_cells n = sign Percent ∷ small_cells n

abbrev percent_reader : Reader ℕ
percent_reader = behind (sign_reader Percent) (small_reader 255)

abbrev share_reader : Reader Share
share_reader = mapped share_made (both account_reader percent_reader)

share_reads : IsReader share_cells IsShare never share_reader
share_reads =
    mapped_reads (λ (z : Account × ℕ). account_cells z.0 ++ percent_cells z.1) (λ (z : Account × ℕ). Unit {0} × IsSmall 255 z.1) never (both account_reader percent_reader) share_cells IsShare share_made
    (firm account_cells Anything at_sign account_reader percent_cells (IsSmall 255) never percent_reader never account_reads
    (behind_reads small_cells (IsSmall 255) never (small_reader 255) (sign Percent) (sign_reader Percent) (sign_reads Percent) (class_reads (IsSmall 255) (small_of 255) (λ n. token.Number (pos n)) (small_class 255 refl)))
    (is_the_sign Percent) (λ n fine. refl) (apart-sign Percent at_sign refl) (within-same never))
    (λ z fine. (fine.1, refl)) (λ s fine. ((s.account, s.split), (tt, fine), refl))

share_opened : Opened share_cells IsShare is_str_token
share_opened s fine = refl

share_begun : Begun share_cells IsShare is_str_token
share_begun (token.Str s) e = (record { account = record { connector = s; id = None }; split = 0 }, refl, token.Sign Percent ∷ token.Number (pos 0) ∷ [], refl, written_next (token.Sign Percent) (token.Number (pos 0) ∷ []) (sign_written Percent) (written_one (token.Number (pos 0)) zero_written))
share_begun (token.Word w) e = absurd cc
share_begun (token.Sign u) e = absurd cc
share_begun (token.Number z) e = absurd cc

-- ---- lists in square brackets

abbrev pub listed_cells : {X : Type 0} → (X → List Cell) → List X → List Cell
listed_cells item xs = sign SquareOpen ∷ (with_commas item xs ++ sign SquareClose ∷ [])

module _ {X : Type 0} (item : X → List Cell) (g : X → Type 0) (m : Token → Bool) (P : Reader X) (a : IsReader item g m P) (opened : Opened item g is_str_token) (begun : Begun item g is_str_token) where
  abbrev more : Token → Bool
  more = or (is_the_sign Comma) m

  inside_reads : m (token.Sign Comma) ≡ false → IsReader (with_commas item) (AllFine g) (or is_str_token more) (mapped list_of (optional is_str_token (separated Comma (item_reader is_str_token P))))
  inside_reads comma =
      mapped_reads (option_cells (with_commas item)) (OptionFine (AllFilled g)) (or is_str_token more) (optional is_str_token (separated Comma (item_reader is_str_token P))) (with_commas item) (AllFine g) list_of
      (optional_reads (with_commas item) (AllFilled g) more is_str_token (or is_str_token more) (separated Comma (item_reader is_str_token P)) (commas_read item g m is_str_token P a opened begun comma) (commas_opened item g m is_str_token P a opened begun) (within-right is_str_token more) (within-left is_str_token more))
      there back
    where
      filled : (xs : List X) → AllFilled g xs → AllFine g xs
      filled [] fine = absurd fine
      filled (x ∷ xs) fine = fine

      there : (o : Option (List X)) → OptionFine (AllFilled g) o → AllFine g (list_of o) × (with_commas item (list_of o) ≡ option_cells (with_commas item) o)
      there None fine = (tt, refl)
      there (Some xs) fine = (filled xs fine, refl)

      back : (xs : List X) → AllFine g xs → (o : Option (List X)) × OptionFine (AllFilled g) o × (list_of o ≡ xs)
      back [] fine = (None, tt, refl)
      back (x ∷ xs) fine = (Some (x ∷ xs), fine, refl)

  pub listed_reads : m (token.Sign Comma) ≡ false → m (token.Sign SquareClose) ≡ false → IsReader (listed_cells item) (AllFine g) never (listed_reader (item_reader is_str_token P))
  unfolding listed_reader
  listed_reads comma close =
      behind_reads (λ (xs : List X). with_commas item xs ++ sign SquareClose ∷ []) (AllFine g) never (closed (mapped list_of (optional is_str_token (separated Comma (item_reader is_str_token P)))) SquareClose) (sign SquareOpen) (sign_reader SquareOpen) (sign_reads SquareOpen)
      (closed_reads (with_commas item) (AllFine g) (or is_str_token more) (mapped list_of (optional is_str_token (separated Comma (item_reader is_str_token P)))) SquareClose (inside_reads comma) close)

-- ---- a choice by keywords

-- one of these words
abbrev among : List (List ℕ) → Token → Bool
among [] t = false
among (k ∷ ks) t = is_the_word k t || among ks t

abbrev differs : List ℕ → List (List ℕ) → Bool
differs k ks = list_all (λ (j : List ℕ). not (bytes_eq j k)) ks

apart_among : (k : List ℕ) (ks : List (List ℕ)) → differs k ks ≡ true → Apart (among ks) (is_the_word k)
apart_among k ks h (token.Word w) e = at ks h e
  where
    one : (j : List ℕ) → not (bytes_eq j k) ≡ true → bytes_eq w j ≡ true → bytes_eq w k ≡ false
    one j d is = ap (λ (v : List ℕ). bytes_eq v k) ((bytes_eq-Decides w j).0 is) ∙ flip (bytes_eq j k) d
      where
        flip : (b : Bool) → not b ≡ true → b ≡ false
        flip false d = refl
        flip true d = absurd cc

    by : (j : List ℕ) (js : List (List ℕ)) (b : Bool) → bytes_eq w j ≡ b → not (bytes_eq j k) ≡ true → (among js (token.Word w) ≡ true → bytes_eq w k ≡ false) → (b || among js (token.Word w)) ≡ true → bytes_eq w k ≡ false
    by j js true is d later e = one j d is
    by j js false is d later e = later e

    at : (js : List (List ℕ)) → differs k js ≡ true → among js (token.Word w) ≡ true → bytes_eq w k ≡ false
    at [] h e = absurd cc
    at (j ∷ js) h e = let parts = and_parts (not (bytes_eq j k)) (differs k js) h in by j js (bytes_eq w j) refl parts.0 (at js parts.1) e
apart_among k ks h (token.Sign u) e = refl
apart_among k ks h (token.Str s) e = refl
apart_among k ks h (token.Number z) e = refl

among_no_sign : (s : Sign) (ks : List (List ℕ)) → Apart (among ks) (is_the_sign s)
among_no_sign s ks (token.Sign u) e = at ks e
  where
    at : (js : List (List ℕ)) → among js (token.Sign u) ≡ true → is_the_sign s (token.Sign u) ≡ false
    at [] e = absurd cc
    at (j ∷ js) e = at js e
among_no_sign s ks (token.Word w) e = refl
among_no_sign s ks (token.Str w) e = refl
among_no_sign s ks (token.Number z) e = refl

later_among : (k : List ℕ) (ks : List (List ℕ)) (ts : List Token) → starts (among ks) ts ≡ true → starts (among (k ∷ ks)) ts ≡ true
later_among k ks [] e = absurd cc
later_among k ks (t ∷ ts) e = at (is_the_word k t)
  where
    at : (b : Bool) → (b || among ks t) ≡ true
    at true = refl
    at false = e

-- a word alone
abbrev alone : List ℕ → Unit {0} → List Cell
alone k u = word k ∷ []

abbrev behind_word : {X : Type 0} → List ℕ → (X → List Cell) → X → List Cell
behind_word k p x = word k ∷ p x

module _ {Y : Type 0} (k : List ℕ) (q : Y → List Cell) (h : Y → Type 0) (Q : Reader Y) (ks : List (List ℕ)) (b : IsReader q h never Q) (others : Opened q h (among ks)) (new : differs k ks ≡ true) (written : can_be_written (token.Word k) ≡ true) where
  word_choice : IsReader (sum_cells (alone k) q) (SumFine Anything h) never (either (is_the_word k) (the_word_reader k) Q)
  word_choice = either_reads (alone k) Anything never (the_word_reader k) q h never Q never (is_the_word k) (among ks) (the_word_reads k written) b (λ u fine. bytes_eq-same k) others (apart_among k ks new) (within-same never) (within-same never)

  module _ {X : Type 0} (p : X → List Cell) (g : X → Type 0) (P : Reader X) where
    keyword_choice : IsReader p g never P → IsReader (sum_cells (behind_word k p) q) (SumFine g h) never (keyword k P Q)
    keyword_choice a =
        either_reads (behind_word k p) g never (behind (the_word_reader k) P) q h never Q never (is_the_word k) (among ks) (behind_reads p g never P (word k) (the_word_reader k) (the_word_reads k written) a) b (λ x fine. bytes_eq-same k) others (apart_among k ks new) (within-same never) (within-same never)

-- ---- selections, from the last choice to the first

abbrev End1 : Type 0
End1 = Unit {0} ⊎ Unit {0}

abbrev End2 : Type 0
End2 = Unit {0} ⊎ End1

abbrev End3 : Type 0
End3 = ℕ ⊎ End2

abbrev End4 : Type 0
End4 = ℤ ⊎ End3

abbrev End5 : Type 0
End5 = List Share ⊎ End4

abbrev words1 : List (List ℕ)
words1 = codes "none" ∷ []

abbrev words2 : List (List ℕ)
words2 = codes "no_three_ds" ∷ words1

abbrev words3 : List (List ℕ)
words3 = codes "three_ds" ∷ words2

abbrev words4 : List (List ℕ)
words4 = codes "rate" ∷ words3

abbrev words5 : List (List ℕ)
words5 = codes "surcharge" ∷ words4

abbrev words6 : List (List ℕ)
words6 = codes "split" ∷ words5

abbrev none_reader : Reader (Unit {0})
none_reader = the_word_reader (codes "none")

abbrev cells1 : End1 → List Cell
cells1 = sum_cells (alone (codes "no_three_ds")) (alone (codes "none"))

abbrev fine1 : End1 → Type 0
fine1 = SumFine Anything Anything

abbrev at1 : Reader End1
at1 = either (is_the_word (codes "no_three_ds")) (the_word_reader (codes "no_three_ds")) none_reader

none_opened : Opened (alone (codes "none")) Anything (among words1)
none_opened u fine = refl

reads1 : IsReader cells1 fine1 never at1
reads1 = word_choice (codes "no_three_ds") (alone (codes "none")) Anything none_reader words1 (the_word_reads (codes "none") (word_written (codes "none") refl refl)) none_opened refl (word_written (codes "no_three_ds") refl refl)

opened1 : Opened cells1 fine1 (among words2)
opened1 (inl u) fine = refl
opened1 (inr u) fine = refl

abbrev cells2 : End2 → List Cell
cells2 = sum_cells (alone (codes "three_ds")) cells1

abbrev fine2 : End2 → Type 0
fine2 = SumFine Anything fine1

abbrev at2 : Reader End2
at2 = either (is_the_word (codes "three_ds")) (the_word_reader (codes "three_ds")) at1

reads2 : IsReader cells2 fine2 never at2
reads2 = word_choice (codes "three_ds") cells1 fine1 at1 words2 reads1 opened1 refl (word_written (codes "three_ds") refl refl)

opened2 : Opened cells2 fine2 (among words3)
opened2 (inl u) fine = refl
opened2 (inr z) fine = later_among (codes "three_ds") words2 (tokens (cells1 z)) (opened1 z fine)

abbrev cells3 : End3 → List Cell
cells3 = sum_cells (behind_word (codes "rate") small_cells) cells2

abbrev fine3 : End3 → Type 0
fine3 = SumFine (IsSmall 10000) fine2

abbrev at3 : Reader End3
at3 = keyword (codes "rate") (small_reader 10000) at2

reads3 : IsReader cells3 fine3 never at3
reads3 =
    keyword_choice (codes "rate") cells2 fine2 at2 words3 reads2 opened2 refl (word_written (codes "rate") refl refl) small_cells (IsSmall 10000) (small_reader 10000)
    (class_reads (IsSmall 10000) (small_of 10000) (λ n. token.Number (pos n)) (small_class 10000 refl))

opened3 : Opened cells3 fine3 (among words4)
opened3 (inl n) fine = refl
opened3 (inr z) fine = later_among (codes "rate") words3 (tokens (cells2 z)) (opened2 z fine)

abbrev cells4 : End4 → List Cell
cells4 = sum_cells (behind_word (codes "surcharge") number_cells) cells3

abbrev fine4 : End4 → Type 0
fine4 = SumFine IsAmount fine3

abbrev at4 : Reader End4
at4 = keyword (codes "surcharge") amount_reader at3

reads4 : IsReader cells4 fine4 never at4
reads4 = keyword_choice (codes "surcharge") cells3 fine3 at3 words4 reads3 opened3 refl (word_written (codes "surcharge") refl refl) number_cells IsAmount amount_reader (class_reads IsAmount amount_of token.Number amounts)

opened4 : Opened cells4 fine4 (among words5)
opened4 (inl z) fine = refl
opened4 (inr z) fine = later_among (codes "surcharge") words4 (tokens (cells3 z)) (opened3 z fine)

shares_read : IsReader (listed_cells share_cells) (AllFine IsShare) never (listed_reader share_item)
unfolding share_item
shares_read = listed_reads share_cells IsShare never share_reader share_reads share_opened share_begun refl refl

accounts_read : IsReader (listed_cells account_cells) (AllFine Anything) never (listed_reader account_item)
unfolding account_item
accounts_read = listed_reads account_cells Anything at_sign account_reader account_reads account_opened account_begun refl refl

abbrev cells5 : End5 → List Cell
cells5 = sum_cells (behind_word (codes "split") (listed_cells share_cells)) cells4

abbrev fine5 : End5 → Type 0
fine5 = SumFine (AllFine IsShare) fine4

abbrev at5 : Reader End5
at5 = keyword (codes "split") (listed_reader share_item) at4

reads5 : IsReader cells5 fine5 never at5
reads5 = keyword_choice (codes "split") cells4 fine4 at4 words5 reads4 opened4 refl (word_written (codes "split") refl refl) (listed_cells share_cells) (AllFine IsShare) (listed_reader share_item) shares_read

opened5 : Opened cells5 fine5 (among words6)
opened5 (inl z) fine = refl
opened5 (inr z) fine = later_among (codes "split") words5 (tokens (cells4 z)) (opened4 z fine)

-- its numbers are in their ranges
abbrev pub IsSelection : Selection → Type 0
IsSelection (Volume shares) = AllFine IsShare shares
IsSelection (SurchargeFixed z) = IsAmount z
IsSelection (SurchargeRate n) = IsSmall 10000 n
IsSelection _ = Unit {0}

pub selection_reads : IsReader selection_cells IsSelection never selection_reader
unfolding selection_reader
selection_reads =
    mapped_reads (sum_cells (listed_cells account_cells) cells5) (SumFine (AllFine Anything) fine5) never (either (is_the_sign SquareOpen) (listed_reader account_item) at5) selection_cells IsSelection selection_made
    (either_reads (listed_cells account_cells) (AllFine Anything) never (listed_reader account_item) cells5 fine5 never at5 never (is_the_sign SquareOpen) (among words6) accounts_read reads5 (λ xs fine. refl) opened5 (among_no_sign SquareOpen words6) (within-same never) (within-same never))
    there back
  where
    there : (x : Choices) → SumFine (AllFine Anything) fine5 x → IsSelection (selection_made x) × (selection_cells (selection_made x) ≡ sum_cells (listed_cells account_cells) cells5 x)
    there (inl accounts) fine = (tt, refl)
    there (inr (inl shares)) fine = (fine, refl)
    there (inr (inr (inl z))) fine = (fine, refl)
    there (inr (inr (inr (inl n)))) fine = (fine, refl)
    there (inr (inr (inr (inr (inl u))))) fine = (tt, refl)
    there (inr (inr (inr (inr (inr (inl u)))))) fine = (tt, refl)
    there (inr (inr (inr (inr (inr (inr u)))))) fine = (tt, refl)

    all : (accounts : List Account) → AllFine {X = Account} Anything accounts
    all [] = tt
    all (a ∷ accounts) = (tt, all accounts)

    back : (s : Selection) → IsSelection s → (x : Choices) × SumFine (AllFine Anything) fine5 x × (selection_made x ≡ s)
    back (Priority accounts) fine = (inl accounts, all accounts, refl)
    back (Volume shares) fine = (inr (inl shares), fine, refl)
    back (SurchargeFixed z) fine = (inr (inr (inl z)), fine, refl)
    back (SurchargeRate n) fine = (inr (inr (inr (inl n))), fine, refl)
    back (Auth secure.ThreeDs) fine = (inr (inr (inr (inr (inl tt)))), tt, refl)
    back (Auth secure.NoThreeDs) fine = (inr (inr (inr (inr (inr (inl tt))))), tt, refl)
    back Nothing fine = (inr (inr (inr (inr (inr (inr tt))))), tt, refl)
