-- Values, comparisons and conditions are read as they are spelled.
use Rattle.std.proofs.Common.{◌≡◌, ℕ, suc, Bool, true, false, ◌||◌, ◌⊎◌, inl, inr, List, [], ◌∷◌, ◌++◌, Option, Some, None, refl, ap}
use Rattle.std.specs.Prelude.{ℤ, pos}
use Rattle.key_table.specs.declared.atom.Op.{Op}
use Rattle.key_table.specs.declared.atom.Op.TheVariants as op
use Rattle.euclid_lexer.specs.declared.token.Token.{Token}
use Rattle.euclid_lexer.specs.declared.token.Token.TheVariants as token
use Rattle.euclid_lexer.specs.declared.token.Sign.TheVariants.{Colon, RoundOpen, RoundClose, Comma, Ampersand, Equal}
use Rattle.euclid_ast.specs.declared.statement.NumberTest.{NumberTest}
use Rattle.euclid_ast.specs.declared.statement.ValueForm.{ValueForm}
use Rattle.euclid_ast.specs.declared.statement.ValueForm.TheVariants.{Number, Variant, Metadata, Str, Numbers, Variants, NumberTests}
use Rattle.euclid_ast.specs.declared.statement.Comparison.{Comparison}
use Rattle.euclid_grammar.specs.Grammar.{op_sign}
use Rattle.euclid_grammar.specs.Marks.{BeginsComparison, Cell, tokens}
use Rattle.euclid_grammar.specs.Grammar.{sign, word, str, number_cells, word_cells, test_cells, with_commas, value_cells, comparison_cells, behind_ampersands, condition_cells}
use Rattle.euclid_parser.specs.Reader.{Reader, starts, both, mapped, either, optional}
use Rattle.euclid_parser.specs.Reading.{is_the_sign, is_word_token, is_str_token, is_number_token, is_op_token, word_of, str_of, number_of, op_of, sign_reader, word_reader, str_reader, number_reader, op_reader, behind, closed, separated, number_item, word_item, test_item, test_made, text_made, text_reader, array_made, items_reader, array_reader, value_made, value_reader, comparison_made, comparison_reader, condition_reader}
use Rattle.euclid_parser.proofs.Written.{written_next, written_one, zero_written, sign_written}
use Rattle.euclid_parser.proofs.Readers.{IsReader, Opened, Begun, Apart, mapped_reads, limited_reads, then_reads, either_reads, optional_reads, option_cells, OptionFine, sum_cells, SumFine, respelled_reads}
use Rattle.euclid_parser.proofs.Many.{list_cells}
use Rattle.euclid_parser.proofs.ReadTokens.{Anything, never, or, apart-sign, within-never, within-same, sign_reads, words, strs, numbers, ops, class_reads, class_opened, class_begun, behind_reads, closed_reads}
use Rattle.euclid_parser.proofs.Separated.{AllFilled, next_cells, separated_cells, separated_reads, commas_read, commas_opened}

abbrev pub str_cells : List ℕ → List Cell
str_cells s = str s ∷ []

abbrev op_cells : Op → List Cell
op_cells o = sign (op_sign o) ∷ []

pub number_reads : IsReader number_cells Anything never number_reader
number_reads = class_reads Anything number_of token.Number numbers

pub word_reads : IsReader word_cells Anything never word_reader
word_reads = class_reads Anything word_of token.Word words

pub str_reads : IsReader str_cells Anything never str_reader
str_reads = class_reads Anything str_of token.Str strs

op_reads : IsReader op_cells Anything never op_reader
op_reads = class_reads Anything op_of (λ o. token.Sign (op_sign o)) ops

-- ---- arrays

abbrev comma : Token → Bool
comma = or (is_the_sign Comma) never

numbers_read : IsReader (with_commas number_cells) (AllFilled Anything) comma (separated Comma number_item)
unfolding number_item
numbers_read = commas_read number_cells Anything never is_number_token number_reader number_reads (class_opened Anything number_of token.Number numbers) (class_begun Anything number_of token.Number numbers) refl

words_read : IsReader (with_commas word_cells) (AllFilled Anything) comma (separated Comma word_item)
unfolding word_item
words_read = commas_read word_cells Anything never is_word_token word_reader word_reads (class_opened Anything word_of token.Word words) (class_begun Anything word_of token.Word words) refl

abbrev test_reader : Reader NumberTest
test_reader = mapped test_made (both op_reader number_reader)

test_reads : IsReader test_cells Anything never test_reader
test_reads =
    mapped_reads (λ (z : Op × ℤ). op_cells z.0 ++ number_cells z.1) (λ (z : Op × ℤ). Unit {0} × Unit {0}) never (both op_reader number_reader) test_cells Anything test_made
    (then_reads op_cells Anything op_reader number_cells Anything never number_reader op_reads number_reads)
    (λ z fine. (tt, refl)) (λ t fine. ((t.op, t.number), (tt, tt), refl))

test_opened : Opened test_cells Anything is_op_token
test_opened t fine = class_opened Anything op_of (λ o. token.Sign (op_sign o)) ops t.op tt

test_begun : Begun test_cells Anything is_op_token
test_begun t e =
    let b = class_begun Anything op_of (λ o. token.Sign (op_sign o)) ops t e in
    (record { op = b.0; number = pos 0 }, tt, token.Number (pos 0) ∷ [], first (token.Sign (op_sign b.0)) b.2 b.3, written_one (token.Number (pos 0)) zero_written)
  where
    first : (a : Token) (v : List Token) → a ∷ [] ≡ t ∷ v → a ∷ token.Number (pos 0) ∷ [] ≡ t ∷ token.Number (pos 0) ∷ []
    first a v e = let same : a ≡ t = cc in ap (λ (u : Token). u ∷ token.Number (pos 0) ∷ []) same

tests_read : IsReader (with_commas test_cells) (AllFilled Anything) comma (separated Comma test_item)
unfolding test_item
tests_read = commas_read test_cells Anything never is_op_token test_reader test_reads test_opened test_begun refl

abbrev Array : Type 0
Array = List ℤ ⊎ (List (List ℕ) ⊎ List NumberTest)

abbrev array_cells : Array → List Cell
array_cells = sum_cells (with_commas number_cells) (sum_cells (with_commas word_cells) (with_commas test_cells))

abbrev ArrayFine : Array → Type 0
ArrayFine = SumFine (AllFilled Anything) (SumFine (AllFilled Anything) (AllFilled Anything))

abbrev late_reader : Reader (List (List ℕ) ⊎ List NumberTest)
late_reader = either is_word_token (separated Comma word_item) (separated Comma test_item)

op_apart : Apart is_op_token is_word_token
op_apart (token.Word w) e = absurd cc
op_apart (token.Sign s) e = refl
op_apart (token.Str w) e = refl
op_apart (token.Number z) e = refl

word_or_op : Token → Bool
word_or_op = or is_word_token is_op_token

later_apart : Apart word_or_op is_number_token
unfolding word_or_op
later_apart (token.Number z) e = absurd cc
later_apart (token.Word w) e = refl
later_apart (token.Sign s) e = refl
later_apart (token.Str w) e = refl

late_reads : IsReader (sum_cells (with_commas word_cells) (with_commas test_cells)) (SumFine (AllFilled Anything) (AllFilled Anything)) comma late_reader
late_reads =
    either_reads (with_commas word_cells) (AllFilled Anything) comma (separated Comma word_item) (with_commas test_cells) (AllFilled Anything) comma (separated Comma test_item) comma is_word_token is_op_token words_read tests_read
    (λ ws fine. words_opened ws fine) (λ ts fine. commas_opened test_cells Anything never is_op_token test_reader test_reads test_opened test_begun ts fine) op_apart (within-same comma) (within-same comma)
  where
    words_opened : Opened (with_commas word_cells) (AllFilled Anything) is_word_token
    words_opened [] fine = absurd fine
    words_opened (w ∷ ws) fine = refl

late_opened : Opened (sum_cells (with_commas word_cells) (with_commas test_cells)) (SumFine (AllFilled Anything) (AllFilled Anything)) word_or_op
unfolding word_or_op
late_opened (inl []) fine = absurd fine
late_opened (inl (w ∷ ws)) fine = refl
late_opened (inr []) fine = absurd fine
late_opened (inr (t ∷ ts)) fine = test_opened t tt

either_read : IsReader array_cells ArrayFine comma (either is_number_token (separated Comma number_item) late_reader)
either_read =
    either_reads (with_commas number_cells) (AllFilled Anything) comma (separated Comma number_item) (sum_cells (with_commas word_cells) (with_commas test_cells)) (SumFine (AllFilled Anything) (AllFilled Anything)) comma late_reader comma is_number_token word_or_op numbers_read late_reads
    numbers_opened late_opened later_apart (within-same comma) (within-same comma)
  where
    numbers_opened : Opened (with_commas number_cells) (AllFilled Anything) is_number_token
    numbers_opened [] fine = absurd fine
    numbers_opened (z ∷ zs) fine = refl

-- a value is an array that is not empty; the cells between its brackets
abbrev IsArray : ValueForm → Type 0
IsArray (Numbers zs) = AllFilled Anything zs
IsArray (Variants ws) = AllFilled Anything ws
IsArray (NumberTests ts) = AllFilled Anything ts
IsArray _ = ⊥

abbrev items_cells : ValueForm → List Cell
items_cells (Numbers zs) = with_commas number_cells zs
items_cells (Variants ws) = with_commas word_cells ws
items_cells (NumberTests ts) = with_commas test_cells ts
items_cells _ = []

items_read : IsReader items_cells IsArray comma items_reader
unfolding items_reader
items_read = mapped_reads array_cells ArrayFine comma (either is_number_token (separated Comma number_item) late_reader) items_cells IsArray array_made either_read there back
  where
    there : (a : Array) → ArrayFine a → IsArray (array_made a) × (items_cells (array_made a) ≡ array_cells a)
    there (inl zs) fine = (fine, refl)
    there (inr (inl ws)) fine = (fine, refl)
    there (inr (inr ts)) fine = (fine, refl)

    back : (v : ValueForm) → IsArray v → (a : Array) × ArrayFine a × (array_made a ≡ v)
    back (Numbers zs) fine = (inl zs, fine, refl)
    back (Variants ws) fine = (inr (inl ws), fine, refl)
    back (NumberTests ts) fine = (inr (inr ts), fine, refl)
    back (Number z) fine = absurd fine
    back (Variant w) fine = absurd fine
    back (Metadata k v) fine = absurd fine
    back (Str s) fine = absurd fine

abbrev bracketed : ValueForm → List Cell
bracketed v = sign RoundOpen ∷ (items_cells v ++ sign RoundClose ∷ [])

array_reads : IsReader bracketed IsArray never array_reader
unfolding array_reader
array_reads =
    behind_reads (λ (v : ValueForm). items_cells v ++ sign RoundClose ∷ []) IsArray never (closed items_reader RoundClose) (sign RoundOpen) (sign_reader RoundOpen) (sign_reads RoundOpen)
    (closed_reads items_cells IsArray comma items_reader RoundClose items_read refl)

-- ---- texts

abbrev pub colon : Token → Bool
colon = is_the_sign Colon

abbrev colon_cells : List ℕ → List Cell
colon_cells s = sign Colon ∷ str_cells s

abbrev Texts : Type 0
Texts = List ℕ × Option (List ℕ)

abbrev texts_cells : Texts → List Cell
texts_cells z = str_cells z.0 ++ option_cells colon_cells z.1

abbrev TextsFine : Texts → Type 0
TextsFine z = Unit {0} × OptionFine Anything z.1

abbrev IsText : ValueForm → Type 0
IsText (Str s) = Unit {0}
IsText (Metadata k v) = Unit {0}
IsText _ = ⊥

text_reads : IsReader value_cells IsText colon text_reader
unfolding text_reader
text_reads =
    mapped_reads texts_cells TextsFine colon (both str_reader (optional colon (behind (sign_reader Colon) str_reader))) value_cells IsText text_made
    (then_reads str_cells Anything str_reader (option_cells colon_cells) (OptionFine Anything) colon (optional colon (behind (sign_reader Colon) str_reader)) str_reads
    (optional_reads colon_cells Anything never colon colon (behind (sign_reader Colon) str_reader)
    (behind_reads str_cells Anything never str_reader (sign Colon) (sign_reader Colon) (sign_reads Colon) str_reads)
    (λ n fine. refl) (within-never colon) (within-same colon)))
    (λ z fine. there z.0 z.1) back
  where
    there : (k : List ℕ) (o : Option (List ℕ)) → IsText (text_made (k, o)) × (value_cells (text_made (k, o)) ≡ texts_cells (k, o))
    there k None = (tt, refl)
    there k (Some v) = (tt, refl)

    back : (v : ValueForm) → IsText v → (z : Texts) × TextsFine z × (text_made z ≡ v)
    back (Str s) fine = ((s, None), (tt, tt), refl)
    back (Metadata k v) fine = ((k, Some v), (tt, tt), refl)
    back (Number z) fine = absurd fine
    back (Variant w) fine = absurd fine
    back (Numbers zs) fine = absurd fine
    back (Variants ws) fine = absurd fine
    back (NumberTests ts) fine = absurd fine

-- ---- values

-- no array is empty
abbrev pub IsValue : ValueForm → Type 0
IsValue (Numbers zs) = AllFilled Anything zs
IsValue (Variants ws) = AllFilled Anything ws
IsValue (NumberTests ts) = AllFilled Anything ts
IsValue _ = Unit {0}

abbrev str_or_round : Token → Bool
str_or_round = or is_str_token (is_the_sign RoundOpen)

abbrev word_or_later : Token → Bool
word_or_later = or is_word_token str_or_round

abbrev Last : Type 0
Last = ValueForm ⊎ ValueForm

abbrev last_cells : Last → List Cell
last_cells = sum_cells value_cells bracketed

abbrev LastFine : Last → Type 0
LastFine = SumFine IsText IsArray

abbrev last_reader : Reader Last
last_reader = either is_str_token text_reader array_reader

last_reads : IsReader last_cells LastFine colon last_reader
last_reads =
    either_reads value_cells IsText colon text_reader bracketed IsArray never array_reader colon is_str_token (is_the_sign RoundOpen) text_reads array_reads
    opened (λ v fine. refl) (apart-sign RoundOpen is_str_token refl) (within-same colon) (within-never colon)
  where
    opened : (v : ValueForm) → IsText v → starts is_str_token (tokens (value_cells v)) ≡ true
    opened (Str s) fine = refl
    opened (Metadata k v) fine = refl
    opened (Number z) fine = absurd fine
    opened (Variant w) fine = absurd fine
    opened (Numbers zs) fine = absurd fine
    opened (Variants ws) fine = absurd fine
    opened (NumberTests ts) fine = absurd fine

last_opened : Opened last_cells LastFine str_or_round
last_opened (inl (Str s)) fine = refl
last_opened (inl (Metadata k v)) fine = refl
last_opened (inl (Number z)) fine = absurd fine
last_opened (inl (Variant w)) fine = absurd fine
last_opened (inl (Numbers zs)) fine = absurd fine
last_opened (inl (Variants ws)) fine = absurd fine
last_opened (inl (NumberTests ts)) fine = absurd fine
last_opened (inr v) fine = refl

middle_reads : IsReader (sum_cells word_cells last_cells) (SumFine Anything LastFine) colon (either is_word_token word_reader last_reader)
middle_reads =
    either_reads word_cells Anything never word_reader last_cells LastFine colon last_reader colon is_word_token str_or_round word_reads last_reads
    (λ w fine. refl) last_opened apart (within-never colon) (within-same colon)
  where
    apart : Apart str_or_round is_word_token
    apart (token.Word w) e = absurd cc
    apart (token.Str w) e = refl
    apart (token.Sign s) e = refl
    apart (token.Number z) e = refl

middle_opened : Opened (sum_cells word_cells last_cells) (SumFine Anything LastFine) word_or_later
middle_opened (inl w) fine = refl
middle_opened (inr z) fine = or-right-true (λ t. is_word_token t) str_or_round (tokens (last_cells z)) (last_opened z fine)
  where
    or-true : (a : Bool) → (a || true) ≡ true
    or-true true = refl
    or-true false = refl

    or-right-true : (a b : Token → Bool) (ts : List Token) → starts b ts ≡ true → starts (or a b) ts ≡ true
    or-right-true a b [] e = absurd cc
    or-right-true a b (t ∷ ts) e = rw e (or-true (a t))

abbrev Any : Type 0
Any = ℤ ⊎ (List ℕ ⊎ Last)

abbrev any_cells : Any → List Cell
any_cells = sum_cells number_cells (sum_cells word_cells last_cells)

abbrev AnyFine : Any → Type 0
AnyFine = SumFine Anything (SumFine Anything LastFine)

any_reads : IsReader any_cells AnyFine colon (either is_number_token number_reader (either is_word_token word_reader last_reader))
any_reads =
    either_reads number_cells Anything never number_reader (sum_cells word_cells last_cells) (SumFine Anything LastFine) colon (either is_word_token word_reader last_reader) colon is_number_token word_or_later number_reads middle_reads
    (λ z fine. refl) middle_opened apart (within-never colon) (within-same colon)
  where
    apart : Apart word_or_later is_number_token
    apart (token.Number z) e = absurd cc
    apart (token.Word w) e = refl
    apart (token.Str w) e = refl
    apart (token.Sign s) e = refl

pub value_reads : IsReader value_cells IsValue colon value_reader
unfolding value_reader
value_reads = mapped_reads any_cells AnyFine colon (either is_number_token number_reader (either is_word_token word_reader last_reader)) value_cells IsValue value_made any_reads there back
  where
    text : (v : ValueForm) → IsText v → IsValue v × (value_cells v ≡ value_cells v)
    text (Str s) fine = (tt, refl)
    text (Metadata k v) fine = (tt, refl)
    text (Number z) fine = absurd fine
    text (Variant w) fine = absurd fine
    text (Numbers zs) fine = absurd fine
    text (Variants ws) fine = absurd fine
    text (NumberTests ts) fine = absurd fine

    array : (v : ValueForm) → IsArray v → IsValue v × (value_cells v ≡ bracketed v)
    array (Numbers zs) fine = (fine, refl)
    array (Variants ws) fine = (fine, refl)
    array (NumberTests ts) fine = (fine, refl)
    array (Number z) fine = absurd fine
    array (Variant w) fine = absurd fine
    array (Metadata k v) fine = absurd fine
    array (Str s) fine = absurd fine

    there : (x : Any) → AnyFine x → IsValue (value_made x) × (value_cells (value_made x) ≡ any_cells x)
    there (inl z) fine = (tt, refl)
    there (inr (inl w)) fine = (tt, refl)
    there (inr (inr (inl v))) fine = text v fine
    there (inr (inr (inr v))) fine = array v fine

    back : (v : ValueForm) → IsValue v → (x : Any) × AnyFine x × (value_made x ≡ v)
    back (Number z) fine = (inl z, tt, refl)
    back (Variant w) fine = (inr (inl w), tt, refl)
    back (Metadata k v) fine = (inr (inr (inl (Metadata k v))), tt, refl)
    back (Str s) fine = (inr (inr (inl (Str s))), tt, refl)
    back (Numbers zs) fine = (inr (inr (inr (Numbers zs))), fine, refl)
    back (Variants ws) fine = (inr (inr (inr (Variants ws))), fine, refl)
    back (NumberTests ts) fine = (inr (inr (inr (NumberTests ts))), fine, refl)

-- ---- comparisons

abbrev pub IsComparison : Comparison → Type 0
IsComparison c = IsValue c.value

abbrev bare_cells : Comparison → List Cell
bare_cells c = word c.lhs ∷ (sign (op_sign c.op) ∷ value_cells c.value)

abbrev bare_reader : Reader Comparison
bare_reader = mapped comparison_made (both word_reader (both op_reader value_reader))

bare_reads : IsReader bare_cells IsComparison colon bare_reader
bare_reads =
    mapped_reads (λ (z : List ℕ × (Op × ValueForm)). word_cells z.0 ++ (op_cells z.1.0 ++ value_cells z.1.1)) (λ (z : List ℕ × (Op × ValueForm)). Unit {0} × (Unit {0} × IsValue z.1.1)) colon (both word_reader (both op_reader value_reader)) bare_cells IsComparison comparison_made
    (then_reads word_cells Anything word_reader (λ (z : Op × ValueForm). op_cells z.0 ++ value_cells z.1) (λ (z : Op × ValueForm). Unit {0} × IsValue z.1) colon (both op_reader value_reader) word_reads
    (then_reads op_cells Anything op_reader value_cells IsValue colon value_reader op_reads value_reads))
    (λ z fine. (fine.1.1, refl)) (λ c fine. ((c.lhs, (c.op, c.value)), (tt, (tt, fine)), refl))

bare_begun : Begun bare_cells IsComparison is_word_token
bare_begun (token.Word w) is = (record { lhs = w; op = op.Equal; value = Number (pos 0) }, tt, token.Sign Equal ∷ token.Number (pos 0) ∷ [], refl, written_next (token.Sign Equal) (token.Number (pos 0) ∷ []) (sign_written Equal) (written_one (token.Number (pos 0)) zero_written))
bare_begun (token.Sign s) is = absurd cc
bare_begun (token.Str s) is = absurd cc
bare_begun (token.Number s) is = absurd cc

pub comparison_reads : (i : ℕ) → IsReader comparison_cells IsComparison colon (comparison_reader i)
unfolding comparison_reader
comparison_reads i = limited_reads bare_cells IsComparison colon is_word_token bare_reader BeginsComparison bare_reads (λ c fine. refl) bare_begun

-- ---- conditions

abbrev pub and_or_colon : Token → Bool
and_or_colon = or (is_the_sign Ampersand) colon

abbrev each_cells : ℕ → Comparison → List Cell
each_cells i c = comparison_cells c

ands-list : (i : ℕ) (cs : List Comparison) → behind_ampersands cs ≡ list_cells (next_cells Ampersand each_cells) i cs
ands-list i [] = refl
ands-list i (c ∷ cs) = ap (λ (qs : List Cell). sign Ampersand ∷ (comparison_cells c ++ qs)) (ands-list (suc i) cs)

ands : (cs : List Comparison) → condition_cells cs ≡ separated_cells Ampersand each_cells cs
ands [] = refl
ands (c ∷ cs) = ap (λ (qs : List Cell). comparison_cells c ++ qs) (ands-list 1 cs)

pub condition_reads : IsReader condition_cells (AllFilled IsComparison) and_or_colon condition_reader
unfolding condition_reader
condition_reads =
    respelled_reads (separated_cells Ampersand each_cells) (AllFilled IsComparison) and_or_colon (separated Ampersand comparison_reader) condition_cells ands
    (separated_reads Ampersand each_cells IsComparison colon comparison_reader comparison_reads refl)
