-- What the tests on bytes say.
use Rattle.std.proofs.Common.{◌≡◌, ℕ, ◌<◌, Bool, true, Some, None, slice_get, List, [], ◌∷◌, length, get_or, refl, arith}
use Rattle.std.proofs.lemmas.Bool.Decides.{nat_tests}
use Rattle.key_table.specs.Names.{is_letter_or_digit}
use Rattle.euclid_lexer.specs.Tokens.{is_white, is_digit, next_is}

pub letter_or_digit_ascii : (b : ℕ) → is_letter_or_digit b ≡ true → b < 128
letter_or_digit_ascii b e = grind (arith, nat_tests)

pub digit_ascii : (b : ℕ) → is_digit b ≡ true → b < 128
digit_ascii b e = grind (arith, nat_tests)

pub record IsNext (p : ℕ → Bool) (bs : List ℕ) : Type 0 where
  pub there : 0 < length bs
  pub passes : p (get_or bs 0 0) ≡ true

-- a byte comes, and passes
pub next-true : (p : ℕ → Bool) (bs : List ℕ) → next_is p bs ≡ true → IsNext p bs
next-true p [] e = cc
next-true p (b ∷ bs) e = record { there = omega arith; passes = e }

pub white_ascii : (b : ℕ) → is_white b ≡ true → b < 128
white_ascii b e = grind (arith, nat_tests)

-- the first byte, where there is one
pub record IsFirst (bs : List ℕ) (b : ℕ) : Type 0 where
  pub there : 0 < length bs
  pub same : b ≡ get_or bs 0 0

pub first_there : (bs : List ℕ) (b : ℕ) → Some b ≡ slice_get bs 0 → IsFirst bs b
first_there [] b e = cc
first_there (c ∷ cs) b e = record { there = omega arith; same = cc }

pub first_missing : (bs : List ℕ) → None ≡ slice_get bs 0 → length bs ≡ 0
first_missing [] e = refl
first_missing (c ∷ cs) e = cc
