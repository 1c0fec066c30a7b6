-- The signs, as they are written.
use Rattle.std.specs.Prelude.{ℕ, List, [], ◌∷◌, codes}
use Rattle.euclid_lexer.specs.declared.token.Sign.{Sign}
use Rattle.euclid_lexer.specs.declared.token.Sign.TheVariants.{Colon, SquareOpen, SquareClose, CurlyOpen, CurlyClose, RoundOpen, RoundClose, Comma, Ampersand, AtSign, Percent, Equal, NotEqual, Less, LessEqual, Greater, GreaterEqual}

-- a sign as it is written
abbrev pub sign_text : Sign → List ℕ
sign_text Colon = codes ":"
sign_text SquareOpen = codes "["
sign_text SquareClose = codes "]"
sign_text CurlyOpen = codes "{"
sign_text CurlyClose = codes "}"
sign_text RoundOpen = codes "("
sign_text RoundClose = codes ")"
sign_text Comma = codes ","
sign_text Ampersand = codes "&"
sign_text AtSign = codes "@"
sign_text Percent = codes "%"
sign_text Equal = codes "="
sign_text NotEqual = codes "/="
sign_text Less = codes "<"
sign_text LessEqual = codes "<="
sign_text Greater = codes ">"
sign_text GreaterEqual = codes ">="

-- all of them, one that begins another behind that
abbrev pub signs : List Sign
signs =
    Colon ∷ SquareOpen ∷ SquareClose ∷ CurlyOpen ∷ CurlyClose ∷ RoundOpen ∷ RoundClose ∷ Comma ∷ Ampersand ∷ AtSign ∷ Percent
    ∷ Equal ∷ NotEqual ∷ LessEqual ∷ Less ∷ GreaterEqual ∷ Greater ∷ []
