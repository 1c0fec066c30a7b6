-- Draws: numbers that come one after another from a seed, by the linear congruential generator with Knuth's constants for MMIX.
use Rattle.std.specs.Prelude.{ℕ, zero, suc, ◌+◌, ◌*◌, ◌/◌, ◌%◌, ◌^◌, List, map}
use Rattle.std.specs.List.{range_with_len}

-- the state after a state
unfoldable pub next : ℕ → ℕ
next x = (x * 6364136223846793005 + 1442695040888963407) % 2 ^ 64

-- the state after so many draws from a seed, which is the first state
unfoldable pub state : ℕ → ℕ → ℕ
state seed zero = seed
state seed (suc n) = next (state seed n)

-- what a state draws below a bound
unfoldable pub drawn : ℕ → ℕ → ℕ
drawn bound x = (x / 2 ^ 33) % bound

-- the draw from a seed after so many others, below a bound
abbrev pub draw : ℕ → ℕ → ℕ → ℕ
draw seed others bound = drawn bound (state seed (others + 1))

-- So many draws from a seed after so many others, each below a bound.
abbrev pub draws_from : ℕ → ℕ → ℕ → ℕ → List ℕ
draws_from seed others bound count = map (λ k. draw seed (others + k) bound) (range_with_len 0 count)
