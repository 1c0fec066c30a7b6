-- Readers of tokens from the left, with one token of look-ahead and the first fault that is met.
use Rattle.std.specs.Prelude.{ℕ, zero, suc, Bool, true, false, List, [], ◌∷◌, length, Option, Some, None, Result, Ok, Err, if◌then◌else◌, ◌⊎◌}
use Rattle.std.proofs.Common.{inl, inr}
use Rattle.euclid_grammar.specs.declared.counts.Counts.{Counts}
use Rattle.euclid_lexer.specs.declared.token.Token.{Token}
use Rattle.euclid_parser.specs.declared.fault.Code.TheVariants.{Unexpected, TooMuch}
use Rattle.euclid_parser.specs.declared.fault.Fault.{Fault}
use Rattle.key_table.specs.Answers.{◌>>=◌}
use Rattle.euclid_grammar.specs.Marks.{Mark}
use Rattle.euclid_grammar.specs.Fits.{is_over, after_mark}

-- What is read, what was begun by then, and the tokens behind it; or the first fault.
abbrev pub Read : Type 0 → Type 0
Read X = Result (X × Counts × List Token) Fault

-- What reads from the first of some tokens, where so much was begun before them.
abbrev pub Reader : Type 0 → Type 0
Reader X = Counts → List Token → Read X

-- whether there is a first token that passes the test
abbrev pub starts : (Token → Bool) → List Token → Bool
starts test [] = false
starts test (t ∷ ts) = test t

-- a fault at the first token, which cannot stand there
abbrev pub unexpected : {X : Type 0} → Reader X
unexpected c ts = Err (record { code = Unexpected; left = length ts })

-- a fault at the first token, which begins one too many
abbrev pub too_much : {X : Type 0} → Reader X
too_much c ts = Err (record { code = TooMuch; left = length ts })

-- a value that takes no token
abbrev pub give : {X : Type 0} → X → Reader X
give x c ts = Ok (x, c, ts)

-- a token that has a value, or a fault there
abbrev pub taken : {X : Type 0} → Option X → Counts → Token → List Token → Read X
taken (Some x) c t ts = Ok (x, c, ts)
taken None c t ts = unexpected c (t ∷ ts)

-- one token that has a value
abbrev pub one : {X : Type 0} → (Token → Option X) → Reader X
one value c [] = unexpected c []
one value c (t ∷ ts) = taken (value t) c t ts

-- one thing and then another
abbrev pub both : {X Y : Type 0} → Reader X → Reader Y → Reader (X × Y)
both P Q c ts = P c ts >>= λ a. Q a.1 a.2 >>= λ b. Ok ((a.0, b.0), b.1, b.2)

-- the same, seen otherwise
abbrev pub mapped : {X Y : Type 0} → (X → Y) → Reader X → Reader Y
mapped to P c ts = P c ts >>= λ a. Ok (to a.0, a.1, a.2)

-- the first thing where the first token passes the test, and else the second
abbrev pub by_first : {X : Type 0} → (Token → Bool) → Reader X → Reader X → Reader X
by_first opens P Q c ts = if starts opens ts then P c ts else Q c ts

-- one of two things, by the first token
abbrev pub either : {X Y : Type 0} → (Token → Bool) → Reader X → Reader Y → Reader (X ⊎ Y)
either opens P Q = by_first opens (mapped inl P) (mapped inr Q)

-- a thing that may be left out, by the first token
abbrev pub optional : {X : Type 0} → (Token → Bool) → Reader X → Reader (Option X)
optional opens P = by_first opens (mapped Some P) (give None)

-- where there has to be one that begins so
abbrev pub filled : {X : Type 0} → (Token → Bool) → Reader X → Reader X
filled opens P = by_first opens P unexpected

-- at most so many things one behind another, of which the first is number i
unfoldable pub many_at : {X : Type 0} → (Token → Bool) → (ℕ → Reader X) → ℕ → ℕ → Reader (List X)
many_at opens P zero i c ts = Ok ([], c, ts)
many_at opens P (suc n) i c ts =
    if starts opens ts then (P i c ts >>= λ a. many_at opens P n (suc i) a.1 a.2 >>= λ b. Ok (a.0 ∷ b.0, b.1, b.2)) else Ok ([], c, ts)

-- as many things one behind another as there are, of which the first is number i; each takes a token, so that there are no more of them than tokens
unfoldable pub many : {X : Type 0} → (Token → Bool) → (ℕ → Reader X) → ℕ → Reader (List X)
many opens P i c ts = many_at opens P (length ts) i c ts

-- what stands behind this mark
abbrev pub marked : {X : Type 0} → Mark → Reader X → Reader X
marked m P c ts = P (after_mark c m) ts

-- what begins with this mark, unless that is one too many
abbrev pub limited : {X : Type 0} → Mark → (Token → Bool) → Reader X → Reader X
limited m opens P c ts = if is_over c m then by_first opens too_much (marked m P) c ts else marked m P c ts

-- all of the tokens
abbrev pub ended : {X : Type 0} → X × Counts × List Token → Result X Fault
ended a = if starts (λ _. true) a.2 then Err (record { code = Unexpected; left = length a.2 }) else Ok a.0
