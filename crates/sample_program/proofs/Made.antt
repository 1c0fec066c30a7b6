-- What the rules of samples are made of.
use Rattle.std.proofs.Common.{◌≡◌, ℕ, zero, suc, ◌+◌, ◌*◌, ◌≤◌, ◌<◌, List, [], ◌∷◌, length, slice_get, map, true, ⊎_elim, refl, subst, le-leb, arith}
use Rattle.std.specs.Fmt.{decimal, digits}
use Rattle.std.specs.List.{AllByRecursion, range_with_len}
use Rattle.std.proofs.lemmas.Bool.{cases_lt}
use Rattle.std.proofs.lemmas.Fmt.{length-decimal-le_succ}
use Rattle.std.proofs.lemmas.List.FromFn.{length-map-range_with_len}
use Rattle.euclid_ast.specs.declared.statement.Comparison.{Comparison}
use Rattle.euclid_ast.specs.declared.program.Rule.{Rule}
use Rattle.euclid_ast.specs.Limits.{is_short}
use Rattle.sample_program.specs.Draws.{drawn, draw, draws_from, state}
use Rattle.sample_program.specs.Comparisons.{comparisons}
use Rattle.sample_program.specs.Programs.{output, condition, statement, rule, rules}
use Rattle.sample_program.proofs.Alls.{length_picked}
use Rattle.sample_program.proofs.Fine.{IsFine, condition_fine}

-- A rule with one statement of at most three of the comparisons, one of the outputs, and a short name.
pub record IsMade (r : Rule) : Type 0 where
  pub comparisons : List Comparison
  pub statements : r.statements ≡ statement comparisons ∷ []
  pub fine : AllByRecursion IsFine comparisons
  pub few : length comparisons ≤ 3
  pub number : ℕ
  pub selection : r.selection ≡ output number
  pub below : number < 4
  pub name : is_short r.name ≡ true

-- the numbers whose length is not at most one more
shorter : (length (decimal 254) ≤ 254) × (length (decimal 255) ≤ 254)
unfolding digits
shorter = (omega arith, omega arith)

short_decimal : (n : ℕ) → n < 256 → length (decimal n) ≤ 254
short_decimal n below =
    let P : ℕ → Type 0 = λ m. length (decimal m) ≤ 254 in
    ⊎_elim
    (λ (low : n < 254). let long = length-decimal-le_succ n (omega arith) in omega arith)
    (λ (high : 254 ≤ n).
    ⊎_elim
    (λ (one : n < 255). let same : 254 ≡ n = omega arith in subst P same shorter.0)
    (λ (other : 255 ≤ n). let same : 255 ≡ n = omega arith in subst P same shorter.1)
    (cases_lt n 255))
    (cases_lt n 254)

-- a letter and a number up to 255
pub short_name : (letter n : ℕ) → n < 256 → is_short (letter ∷ decimal n) ≡ true
short_name letter n below = let short = short_decimal n below in le-leb (suc (length (decimal n))) 255 (omega arith)

drawn_below : (bound x : ℕ) → 0 < bound → drawn bound x < bound
unfolding drawn
drawn_below bound x above = omega arith

pub rule_made : (seed i : ℕ) → i < 256 → IsMade (rule seed i)
rule_made seed i within = record {
  comparisons = condition (draws_from seed (4 * i) 8 3);
  statements = refl;
  fine = condition_fine (draws_from seed (4 * i) 8 3);
  few = length_picked (slice_get comparisons) (draws_from seed (4 * i) 8 3);
  number = draw seed (4 * i + 3) 4;
  selection = refl;
  below = drawn_below 4 (state seed (4 * i + 3 + 1)) (omega arith);
  name = short_name 114 i within;
}

all_made : (seed first count : ℕ) → first + count ≤ 256 → AllByRecursion IsMade (map (rule seed) (range_with_len first count))
all_made seed first zero within = tt
all_made seed first (suc count) within = (rule_made seed first (omega arith), all_made seed (first + 1) count (omega arith))

pub rules_made : (seed count : ℕ) → count ≤ 256 → AllByRecursion IsMade (rules seed count)
unfolding rules
rules_made seed count within = all_made seed 0 count (omega arith)

pub rules_count : (seed count : ℕ) → length (rules seed count) ≡ count
unfolding rules
rules_count seed count = length-map-range_with_len (rule seed) 0 count
