-- What a search for something that passes a test answers.
use Rattle.std.specs.Prelude.{◌≡◌, ℕ, ◌≤◌, ℤ, ◌≤ℤ◌, Bool, true, false, Option, Some, None}
use Rattle.std.specs.Bool.{MatchBool}

-- It tells whether something passes the test.
abbrev pub Tells : {X : Type 0} → (X → Bool) → Bool → Type 0
Tells {X} p found = MatchBool found ((x : X) × (p x ≡ true)) ((x : X) → p x ≡ false)

-- The least number that passes the test, or nothing where none passes it.
abbrev pub FindsLeast : (ℕ → Bool) → Option ℕ → Type 0
FindsLeast p None = (n : ℕ) → p n ≡ false
FindsLeast p (Some n) = (p n ≡ true) × ((m : ℕ) → p m ≡ true → n ≤ m)

-- the same of signed numbers
abbrev pub FindsLeastNumber : (ℤ → Bool) → Option ℤ → Type 0
FindsLeastNumber p None = (x : ℤ) → p x ≡ false
FindsLeastNumber p (Some x) = (p x ≡ true) × ((y : ℤ) → p y ≡ true → x ≤ℤ y)

-- A number up to which each number from a first one on passes the test, or nothing where the first doesn't pass it.
abbrev pub IsReach : (ℤ → Bool) → ℤ → Option ℤ → Type 0
IsReach p from None = p from ≡ false
IsReach p from (Some reach) = (from ≤ℤ reach) × ((x : ℤ) → from ≤ℤ x → x ≤ℤ reach → p x ≡ true)
