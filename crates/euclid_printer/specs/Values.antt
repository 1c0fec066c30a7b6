-- Values and selections as they are printed: their tokens, and the white space between them.
use Rattle.std.specs.Prelude.{ℕ, ℤ, pos, List, [], ◌∷◌, ◌++◌, codes, Option, Some, None}
use Rattle.std.specs.List.{flat_map}
use Rattle.euclid_lexer.specs.declared.token.Sign.{Sign}
use Rattle.euclid_lexer.specs.declared.token.Sign.TheVariants.{Colon, SquareOpen, SquareClose, RoundOpen, RoundClose, Comma, AtSign, Percent}
use Rattle.euclid_lexer.specs.declared.token.Token.TheVariants as token
use Rattle.euclid_lexer.specs.Pieces.{Piece, Spelled, White}
use Rattle.euclid_ast.specs.declared.statement.NumberTest.{NumberTest}
use Rattle.euclid_ast.specs.declared.statement.ValueForm.{ValueForm}
use Rattle.euclid_ast.specs.declared.statement.ValueForm.TheVariants.{Number, Variant, Metadata, Str, Numbers, Variants, NumberTests}
use Rattle.euclid_ast.specs.declared.selection.Account.{Account}
use Rattle.euclid_ast.specs.declared.selection.Share.{Share}
use Rattle.euclid_ast.specs.declared.selection.Selection.{Selection}
use Rattle.euclid_ast.specs.declared.selection.Selection.TheVariants.{Priority, Volume, SurchargeFixed, SurchargeRate, Auth, Nothing}
use Rattle.euclid_grammar.specs.Grammar.{op_sign, secure_word}

-- ---- parts of a text

-- a sign alone
abbrev pub sign_piece : Sign → Piece
sign_piece s = Spelled (token.Sign s)

-- a word alone
abbrev pub word_piece : List ℕ → Piece
word_piece w = Spelled (token.Word w)

-- a text in quotes
abbrev pub str_piece : List ℕ → Piece
str_piece s = Spelled (token.Str s)

-- a number in decimal digits, behind a `-` where it is negative
abbrev pub number_piece : ℤ → Piece
number_piece z = Spelled (token.Number z)

-- one space
abbrev pub space : Piece
space = White (32 ∷ [])

-- items with a separator between two of them
abbrev pub joined : {X : Type 0} → List Piece → (X → List Piece) → List X → List Piece
joined separator item [] = []
joined separator item (x ∷ xs) = item x ++ flat_map (λ x. separator ++ item x) xs

-- a comma and a space
abbrev pub comma : List Piece
comma = sign_piece Comma ∷ space ∷ []

-- ---- values

-- an entry of a number array
abbrev pub number_item : ℤ → List Piece
number_item z = number_piece z ∷ []

-- an entry of a variant array
abbrev pub variant_item : List ℕ → List Piece
variant_item w = word_piece w ∷ []

-- an entry of a number comparison array: an operator and a number
abbrev pub test_item : NumberTest → List Piece
test_item t = sign_piece (op_sign t.op) ∷ space ∷ number_piece t.number ∷ []

-- items in round brackets
abbrev pub in_brackets : {X : Type 0} → (X → List Piece) → List X → List Piece
in_brackets item xs = sign_piece RoundOpen ∷ (joined comma item xs ++ sign_piece RoundClose ∷ [])

-- what a key is compared with: a single value, or an array in round brackets
abbrev pub value_pieces : ValueForm → List Piece
value_pieces (Number z) = number_piece z ∷ []
value_pieces (Variant w) = word_piece w ∷ []
value_pieces (Metadata key value) = str_piece key ∷ space ∷ sign_piece Colon ∷ space ∷ str_piece value ∷ []
value_pieces (Str s) = str_piece s ∷ []
value_pieces (Numbers zs) = in_brackets number_item zs
value_pieces (Variants ws) = in_brackets variant_item ws
value_pieces (NumberTests ts) = in_brackets test_item ts

-- ---- selections

-- an account's id behind `@`, where it has one
abbrev pub id_pieces : Option (List ℕ) → List Piece
id_pieces None = []
id_pieces (Some id) = space ∷ sign_piece AtSign ∷ space ∷ str_piece id ∷ []

-- a connector in quotes, and the account's id
abbrev pub account_item : Account → List Piece
account_item a = str_piece a.connector ∷ id_pieces a.id

-- an account, and its part behind `%`
abbrev pub share_item : Share → List Piece
share_item s = account_item s.account ++ space ∷ sign_piece Percent ∷ space ∷ number_piece (pos s.split) ∷ []

-- items in square brackets
abbrev pub listed : {X : Type 0} → (X → List Piece) → List X → List Piece
listed item xs = sign_piece SquareOpen ∷ (joined comma item xs ++ sign_piece SquareClose ∷ [])

-- what a rule or the default gives
abbrev pub selection_pieces : Selection → List Piece
selection_pieces (Priority accounts) = listed account_item accounts
selection_pieces (Volume shares) = word_piece (codes "split") ∷ space ∷ listed share_item shares
selection_pieces (SurchargeFixed z) = word_piece (codes "surcharge") ∷ space ∷ number_piece z ∷ []
selection_pieces (SurchargeRate n) = word_piece (codes "rate") ∷ space ∷ number_piece (pos n) ∷ []
selection_pieces (Auth decision) = word_piece (secure_word decision) ∷ []
selection_pieces Nothing = word_piece (codes "none") ∷ []
