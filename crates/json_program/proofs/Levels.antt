-- A statement by the levels that are left.
use Rattle.std.proofs.Common.{◌≡◌, ℕ, zero, suc, ◌-◌, List, Err, refl, ap, arith}
use Rattle.serde_json.specs.Data.{Data}
use Rattle.json_shape.specs.Paths.{fault}
use Rattle.json_program.specs.declared.counts.Counts.{Counts}
use Rattle.json_program.specs.Statements.{statement_of, body_of}

pub no_level : (levels : ℕ) (path : List ℕ) (d : Data) (n : Counts) → levels ≡ 0 → statement_of levels path d n ≡ Err (fault 5 path)
unfolding statement_of
no_level zero path d n none = refl
no_level (suc k) path d n none = absurd (omega arith)

pub one_level : (levels : ℕ) (path : List ℕ) (d : Data) (n : Counts) → (levels ≡ 0 → ⊥) → statement_of levels path d n ≡ body_of (statement_of (levels - 1)) path d n
unfolding statement_of
one_level zero path d n some = absurd (some refl)
one_level (suc k) path d n some = ap (λ m. body_of (statement_of m) path d n) (omega arith)
