use Rattle.std.proofs.Common.{◌≡◌, ◌==◌, ◌<◌, ◌^◌, ℕ, List, length, true, sym, subst, arith}
use Rattle.std.specs.List.{list_any, AllByRecursion}
use Rattle.rule_search.specs.Naming.{numbers_of}
use Rattle.rule_search.proofs.Names.{each_stands, length-firsts}
use Rattle.rule_search.proofs.naming.spelled.Goals as goal

pub renumbered-requires-clause-few : goal.renumbered-requires-clause-few
renumbered-requires-clause-few c =
    let h = length-firsts (numbers_of c.args.items.now) in
    subst (λ (names : List ℕ). length names < 2 ^ 32) (sym c.in_ok-numbers.ensures) (omega (arith, h, c.requires.few))

pub renumbered-requires-clause-named : goal.renumbered-requires-clause-named
renumbered-requires-clause-named c =
    subst (λ (names : List ℕ). AllByRecursion (λ x. list_any (λ y. x == y) names ≡ true) (numbers_of c.args.items.now)) (sym c.in_ok-numbers.ensures) (each_stands (numbers_of c.args.items.now))
