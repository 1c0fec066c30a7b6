-- Readers of one token, and what stands behind or before one.
use Rattle.std.proofs.Common.{◌≡◌, ℕ, zero, suc, Bool, true, false, ◌||◌, eqb, List, [], ◌∷◌, ◌++◌, Option, Some, None, refl, sym, ap, ◌∙◌, arith, bytes_eq}
use Rattle.std.specs.Prelude.{ℤ, pos, codes}
use Rattle.std.proofs.lemmas.Bool.{eqb-true}
use Rattle.std.proofs.lemmas.Slice.Eq.{bytes_eq-Decides}
use Rattle.key_table.specs.declared.atom.Op.{Op}
use Rattle.key_table.specs.declared.atom.Op.TheVariants as op
use Rattle.euclid_lexer.specs.declared.token.Token.{Token}
use Rattle.euclid_lexer.specs.declared.token.Token.TheVariants as token
use Rattle.euclid_lexer.specs.declared.token.Sign.{Sign}
use Rattle.euclid_lexer.specs.declared.token.Sign.TheVariants.{Colon, SquareOpen, SquareClose, CurlyOpen, CurlyClose, RoundOpen, RoundClose, Comma, Ampersand, AtSign, Percent, Equal, NotEqual, Less, LessEqual, Greater, GreaterEqual}
use Rattle.euclid_grammar.specs.Grammar.{op_sign}
use Rattle.euclid_grammar.specs.Marks.{Cell, plain}
use Rattle.euclid_grammar.specs.Grammar.{sign, word}
use Rattle.euclid_parser.specs.Reader.{Reader, one, both}
use Rattle.euclid_parser.specs.Reading.{sign_number, is_the_sign, is_the_word, word_of, str_of, number_of, op_of, is_there, is_word_token, passed, sign_reader, the_word_reader, first_of_both, second_of_both, behind, closed}
use Rattle.euclid_parser.proofs.Written.{AllWritten, word_written, empty_written, zero_written, sign_written}
use Rattle.euclid_lexer.specs.Pieces.{can_be_written}
use Rattle.euclid_parser.proofs.Readers.{IsReader, Opened, Begun, Within, Apart, both_reads, mapped_reads, one_reads, then_reads}

-- the sign with this number
sign_back : ℕ → Sign
sign_back zero = Colon
sign_back (suc zero) = SquareOpen
sign_back (suc (suc zero)) = SquareClose
sign_back (suc (suc (suc zero))) = CurlyOpen
sign_back (suc (suc (suc (suc zero)))) = CurlyClose
sign_back (suc (suc (suc (suc (suc zero))))) = RoundOpen
sign_back (suc (suc (suc (suc (suc (suc zero)))))) = RoundClose
sign_back (suc (suc (suc (suc (suc (suc (suc zero))))))) = Comma
sign_back (suc (suc (suc (suc (suc (suc (suc (suc zero)))))))) = Ampersand
sign_back (suc (suc (suc (suc (suc (suc (suc (suc (suc zero))))))))) = AtSign
sign_back (suc (suc (suc (suc (suc (suc (suc (suc (suc (suc zero)))))))))) = Percent
sign_back (suc (suc (suc (suc (suc (suc (suc (suc (suc (suc (suc zero))))))))))) = Equal
sign_back (suc (suc (suc (suc (suc (suc (suc (suc (suc (suc (suc (suc zero)))))))))))) = NotEqual
sign_back (suc (suc (suc (suc (suc (suc (suc (suc (suc (suc (suc (suc (suc zero))))))))))))) = Less
sign_back (suc (suc (suc (suc (suc (suc (suc (suc (suc (suc (suc (suc (suc (suc zero)))))))))))))) = LessEqual
sign_back (suc (suc (suc (suc (suc (suc (suc (suc (suc (suc (suc (suc (suc (suc (suc zero))))))))))))))) = Greater
sign_back (suc (suc (suc (suc (suc (suc (suc (suc (suc (suc (suc (suc (suc (suc (suc (suc n)))))))))))))))) = GreaterEqual

back-number : (s : Sign) → sign_back (sign_number s) ≡ s
unfolding sign_back
back-number Colon = refl
back-number SquareOpen = refl
back-number SquareClose = refl
back-number CurlyOpen = refl
back-number CurlyClose = refl
back-number RoundOpen = refl
back-number RoundClose = refl
back-number Comma = refl
back-number Ampersand = refl
back-number AtSign = refl
back-number Percent = refl
back-number Equal = refl
back-number NotEqual = refl
back-number Less = refl
back-number LessEqual = refl
back-number Greater = refl
back-number GreaterEqual = refl

eqb-same : (n : ℕ) → eqb n n ≡ true
eqb-same n = grind arith

pub bytes_eq-same : (w : List ℕ) → bytes_eq w w ≡ true
bytes_eq-same w = (bytes_eq-Decides w w).1 refl

pub is_the_sign-is : (s : Sign) (t : Token) → is_the_sign s t ≡ true → t ≡ token.Sign s
is_the_sign-is s (token.Sign u) e = ap token.Sign (sym (back-number u) ∙ ap sign_back (eqb-true _ _ e) ∙ back-number s)
is_the_sign-is s (token.Word w) e = absurd cc
is_the_sign-is s (token.Str w) e = absurd cc
is_the_sign-is s (token.Number z) e = absurd cc

pub is_the_word-is : (k : List ℕ) (t : Token) → is_the_word k t ≡ true → t ≡ token.Word k
is_the_word-is k (token.Word w) e = ap token.Word ((bytes_eq-Decides w k).0 e)
is_the_word-is k (token.Sign u) e = absurd cc
is_the_word-is k (token.Str w) e = absurd cc
is_the_word-is k (token.Number z) e = absurd cc

passed-is : (b : Bool) (x : Unit {0}) → passed b ≡ Some x → b ≡ true
passed-is true x e = refl
passed-is false x e = absurd cc

-- ---- which tokens a set of tokens holds

pub apart-sign : (s : Sign) (m : Token → Bool) → m (token.Sign s) ≡ false → Apart (is_the_sign s) m
apart-sign s m e t is = ap m (is_the_sign-is s t is) ∙ e

pub apart-word : (m : Token → Bool) → ((w : List ℕ) → m (token.Word w) ≡ false) → Apart is_word_token m
apart-word m e (token.Word w) is = e w
apart-word m e (token.Sign u) is = absurd cc
apart-word m e (token.Str w) is = absurd cc
apart-word m e (token.Number z) is = absurd cc

or-left : (a b : Bool) → (a || b) ≡ false → a ≡ false
or-left false b e = refl
or-left true b e = absurd cc

or-right : (a b : Bool) → (a || b) ≡ false → b ≡ false
or-right false b e = e
or-right true b e = absurd cc

-- either set
abbrev pub or : (Token → Bool) → (Token → Bool) → Token → Bool
or a b t = a t || b t

-- no token
abbrev pub never : Token → Bool
never t = false

pub within-left : (a b : Token → Bool) → Within a (or a b)
within-left a b t e = or-left (a t) (b t) e

pub within-right : (a b : Token → Bool) → Within b (or a b)
within-right a b t e = or-right (a t) (b t) e

pub within-never : (k : Token → Bool) → Within never k
within-never k t e = refl

pub within-same : (k : Token → Bool) → Within k k
within-same k t e = e

-- ---- one token

abbrev pub Anything : {X : Type 0} → X → Type 0
Anything x = Unit {0}

pub sign_reads : (s : Sign) → IsReader (λ (x : Unit {0}). sign s ∷ []) Anything never (sign_reader s)
sign_reads s =
    one_reads (λ (x : Unit {0}). sign s ∷ []) Anything (λ t. passed (is_the_sign s t)) (λ x. token.Sign s) tt tt (sign_written s) (λ x. refl)
    (λ t x e. (tt, is_the_sign-is s t (passed-is (is_the_sign s t) x e)))
    (λ x fine. ap passed (eqb-same (sign_number s)))

pub the_word_reads : (k : List ℕ) → can_be_written (token.Word k) ≡ true → IsReader (λ (x : Unit {0}). word k ∷ []) Anything never (the_word_reader k)
the_word_reads k written =
    one_reads (λ (x : Unit {0}). word k ∷ []) Anything (λ t. passed (is_the_word k t)) (λ x. token.Word k) tt tt written (λ x. refl)
    (λ t x e. (tt, is_the_word-is k t (passed-is (is_the_word k t) x e)))
    (λ x fine. ap passed (bytes_eq-same k))

-- a class of tokens that have a value, of which g holds
pub record IsClass {X : Type 0} (g : X → Type 0) (value : Token → Option X) (make : X → Token) : Type 0 where
  pub some : X
  pub fine : g some
  pub written : can_be_written (make some) ≡ true
  pub made : (x : X) → g x → value (make x) ≡ Some x
  pub read : (t : Token) (x : X) → value t ≡ Some x → g x × (t ≡ make x)

pub words : IsClass Anything word_of token.Word
words = record { some = codes "a"; fine = tt; written = word_written (codes "a") refl refl; made = λ w fine. refl; read = word_read }
  where
    word_read : (t : Token) (w : List ℕ) → word_of t ≡ Some w → Unit {0} × (t ≡ token.Word w)
    word_read (token.Word v) w e = (tt, cc)
    word_read (token.Sign u) w e = absurd cc
    word_read (token.Str v) w e = absurd cc
    word_read (token.Number z) w e = absurd cc

pub strs : IsClass Anything str_of token.Str
strs = record { some = []; fine = tt; written = empty_written; made = λ w fine. refl; read = str_read }
  where
    str_read : (t : Token) (w : List ℕ) → str_of t ≡ Some w → Unit {0} × (t ≡ token.Str w)
    str_read (token.Str v) w e = (tt, cc)
    str_read (token.Sign u) w e = absurd cc
    str_read (token.Word v) w e = absurd cc
    str_read (token.Number z) w e = absurd cc

pub numbers : IsClass Anything number_of token.Number
numbers = record { some = pos 0; fine = tt; written = zero_written; made = λ z fine. refl; read = number_read }
  where
    number_read : (t : Token) (z : ℤ) → number_of t ≡ Some z → Unit {0} × (t ≡ token.Number z)
    number_read (token.Number y) z e = (tt, cc)
    number_read (token.Sign u) z e = absurd cc
    number_read (token.Str v) z e = absurd cc
    number_read (token.Word v) z e = absurd cc

pub ops : IsClass Anything op_of (λ o. token.Sign (op_sign o))
ops = record { some = op.Equal; fine = tt; written = sign_written Equal; made = again; read = op_read }
  where
    again : (o : Op) → Unit {0} → op_of (token.Sign (op_sign o)) ≡ Some o
    again op.Equal fine = refl
    again op.NotEqual fine = refl
    again op.Less fine = refl
    again op.LessEqual fine = refl
    again op.Greater fine = refl
    again op.GreaterEqual fine = refl

    op_read : (t : Token) (o : Op) → op_of t ≡ Some o → Unit {0} × (t ≡ token.Sign (op_sign o))
    op_read (token.Sign Equal) o e = let is : op.Equal ≡ o = cc in (tt, ap (λ o. token.Sign (op_sign o)) is)
    op_read (token.Sign NotEqual) o e = let is : op.NotEqual ≡ o = cc in (tt, ap (λ o. token.Sign (op_sign o)) is)
    op_read (token.Sign Less) o e = let is : op.Less ≡ o = cc in (tt, ap (λ o. token.Sign (op_sign o)) is)
    op_read (token.Sign LessEqual) o e = let is : op.LessEqual ≡ o = cc in (tt, ap (λ o. token.Sign (op_sign o)) is)
    op_read (token.Sign Greater) o e = let is : op.Greater ≡ o = cc in (tt, ap (λ o. token.Sign (op_sign o)) is)
    op_read (token.Sign GreaterEqual) o e = let is : op.GreaterEqual ≡ o = cc in (tt, ap (λ o. token.Sign (op_sign o)) is)
    op_read (token.Sign _) o e = absurd cc
    op_read (token.Word w) o e = absurd cc
    op_read (token.Str w) o e = absurd cc
    op_read (token.Number z) o e = absurd cc

module _ {X : Type 0} (g : X → Type 0) (value : Token → Option X) (make : X → Token) (is : IsClass g value make) where
  abbrev pub class_cells : X → List Cell
  class_cells x = plain (make x) ∷ []

  pub class_reads : IsReader class_cells g never (one value)
  class_reads = one_reads class_cells g value make is.some is.fine is.written (λ x. refl) is.read is.made

  pub class_opened : Opened class_cells g (λ t. is_there (value t))
  class_opened x fine = ap is_there (is.made x fine)

  pub class_begun : Begun class_cells g (λ t. is_there (value t))
  class_begun t e = at (value t) refl e
    where
      at : (o : Option X) → value t ≡ o → is_there o ≡ true → (x : X) × g x × (v : List Token) × (make x ∷ [] ≡ t ∷ v) × AllWritten v
      at (Some x) v e = let a = is.read t x v in (x, a.0, [], ap (λ (u : Token). u ∷ []) (sym a.1), refl)
      at None v e = absurd cc

-- ---- what stands behind a token, or before a sign

pub behind_reads : {X : Type 0} (p : X → List Cell) (g : X → Type 0) (m : Token → Bool) (P : Reader X) (t : Cell) (S : Reader (Unit {0})) → IsReader (λ (x : Unit {0}). t ∷ []) Anything never S → IsReader p g m P
    → IsReader (λ (x : X). t ∷ p x) g m (behind S P)
behind_reads p g m P t S s a =
    mapped_reads (λ (z : Unit {0} × _). t ∷ p z.1) (λ (z : Unit {0} × _). Unit {0} × g z.1) m (both S P) (λ (x : _). t ∷ p x) g second_of_both
    (then_reads (λ (x : Unit {0}). t ∷ []) Anything S p g m P s a) (λ z fine. (fine.1, refl)) (λ x fine. ((tt, x), (tt, fine), refl))

pub closed_reads : {X : Type 0} (p : X → List Cell) (g : X → Type 0) (m : Token → Bool) (P : Reader X) (s : Sign) → IsReader p g m P → m (token.Sign s) ≡ false
    → IsReader (λ (x : X). p x ++ sign s ∷ []) g never (closed P s)
closed_reads p g m P s a apart =
    mapped_reads (λ (z : _ × Unit {0}). p z.0 ++ sign s ∷ []) (λ (z : _ × Unit {0}). g z.0 × Unit {0}) never (both P (sign_reader s)) (λ (x : _). p x ++ sign s ∷ []) g first_of_both
    (both_reads p g m P (λ (x : Unit {0}). sign s ∷ []) Anything never (sign_reader s) never a (sign_reads s) (λ y w fine e. apart) (λ t e. refl))
    (λ z fine. (fine.0, refl)) (λ x fine. ((x, tt), (fine, tt), refl))
