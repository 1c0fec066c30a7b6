-- How deep a statement nests.
use Rattle.std.proofs.Common.{◌≡◌, ℕ, ◌+◌, ◌≤◌, max, true, leb, fold, List, [], ◌∷◌, map, Option, Some, None, refl, arith}
use Rattle.std.specs.List.{list_all}
use Rattle.std.proofs.lemmas.Bool.{and_parts, and_from, leb-true, le-leb}
use Rattle.euclid_ast.specs.declared.statement.Comparison.{Comparison}
use Rattle.euclid_ast.specs.declared.statement.Statement.{Statement, roll-Statement}
use Rattle.euclid_ast.specs.declared.statement.Statement.TheFolds.{fold-roll-Statement, fold_out-Statement}
use Rattle.euclid_ast.specs.Limits.{levels_step, levels_of}

-- the most of some numbers is at most so much where each of them is
largest_fits : {X : Type 0} (f : X → ℕ) (most a : ℕ) (xs : List X) → a ≤ most → list_all (λ x. leb (f x) most) xs ≡ true → fold max a (map f xs) ≤ most
largest_fits f most a [] h each = h
largest_fits f most a (x ∷ xs) h each =
    let parts = and_parts (leb (f x) most) (list_all (λ y. leb (f y) most) xs) each in
    let first = leb-true (f x) most parts.0 in
    largest_fits f most (max a (f x)) xs (omega (arith, h, first)) parts.1

-- so many and each of these
record AreBelow {X : Type 0} (f : X → ℕ) (most a : ℕ) (xs : List X) : Type 0 where
  first : a ≤ most
  each : list_all (λ x. leb (f x) most) xs ≡ true

largest_parts : {X : Type 0} (f : X → ℕ) (most a : ℕ) (xs : List X) → fold max a (map f xs) ≤ most → AreBelow f most a xs
largest_parts f most a [] h = record { first = h; each = refl }
largest_parts f most a (x ∷ xs) h =
    let rest = largest_parts f most (max a (f x)) xs h in
    record {
      first = omega (arith, rest.first);
      each = and_from (leb (f x) most) (list_all (λ y. leb (f y) most) xs) (le-leb (f x) most (omega (arith, rest.first))) rest.each;
    }

-- how deep the nested statements are
abbrev pub levels_below : Option (List Statement) → ℕ
levels_below None = 0
levels_below (Some ss) = fold max 0 (map levels_of ss)

pub levels-roll : (cs : List Comparison) (nested : Option (List Statement)) → levels_of (roll-Statement (record { condition = cs; nested = nested })) ≡ levels_below nested + 1
levels-roll cs None = fold-roll-Statement ℕ levels_step (record { condition = cs; nested = None })
levels-roll cs (Some ss) = fold-roll-Statement ℕ levels_step (record { condition = cs; nested = Some ss })

-- each statement takes a level
pub levels_some : (s : Statement) → 1 ≤ levels_of s
levels_some s = let e = fold_out-Statement ℕ levels_step s in omega (arith, e)

pub levels_fit : (most : ℕ) (ss : List Statement) → list_all (λ s. leb (levels_of s) most) ss ≡ true → levels_below (Some ss) ≤ most
levels_fit most ss each = largest_fits levels_of most 0 ss (omega arith) each

pub levels_each : (most : ℕ) (ss : List Statement) → levels_below (Some ss) ≤ most → list_all (λ s. leb (levels_of s) most) ss ≡ true
levels_each most ss h = (largest_parts levels_of most 0 ss h).each
