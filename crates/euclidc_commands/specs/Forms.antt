-- A program in both forms.
use Rattle.std.specs.Prelude.{◌≡◌, ◌≤◌, ℕ, List, length, Some}
use Rattle.shelf_io.specs.Seen.{Name, Files}
use Rattle.euclidc_commands.specs.TableFiles.{TableSource}
use Rattle.euclidc_commands.specs.Decide.{run}

-- On every table and payment, `decide` ends alike for a file that holds the one text and for a file that holds the other, where each is within the limit of a file.
abbrev pub DecideAlike : List ℕ → List ℕ → Type 0
DecideAlike text other =
    (source : TableSource) (text_name other_name payment_name : Name) (files : Files) → files text_name ≡ Some text → files other_name ≡ Some other
    → length text ≤ 1048576 → length other ≤ 1048576 → (run source text_name payment_name files).end ≡ (run source other_name payment_name files).end
