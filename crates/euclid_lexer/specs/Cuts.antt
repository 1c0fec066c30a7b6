-- Where a text may be cut behind a token.
use Rattle.std.specs.Prelude.{ℕ, ◌<◌, List}
use Rattle.std.specs.Str.{IsCharBoundary}

-- There are so many bytes, at least one, and behind them no character goes on.
pub record IsWhole (n : ℕ) (bytes : List ℕ) : Type 0 where
  pub some : 0 < n
  pub cut : IsCharBoundary bytes n
