-- The real files, as a shelf.
use Rattle.std.specs.Prelude.{ℕ, Option, None}
use Rattle.shelf_io.specs.Seen.{Name, ShelfSeen}

-- How often it failed, and the name that it last failed on.
pub record DirState : Type 0 where
  pub faults : ℕ
  pub last : Option Name

-- What it shows as a shelf. It does not tell what it holds.
abbrev pub dir_seen : DirState → ShelfSeen
dir_seen shelf = record { holds = None; faults = shelf.faults; last = shelf.last }
