-- The limits of a certificate.
use Rattle.std.specs.Prelude.{◌≡◌, ◌≤◌, length, Bool, true, false}
use Rattle.std.specs.List.{list_all}
use Rattle.rule_problem.specs.declared.certificate.Item.{Item}
use Rattle.rule_problem.specs.declared.certificate.Item.TheVariants.{Todo}
use Rattle.rule_problem.specs.declared.certificate.Certificate.{Certificate}

-- whether an item may stand in a certificate
abbrev pub is_step : Item → Bool
is_step Todo = false
is_step _ = true

-- There are at most 65,536 atoms and 131,073 items, none of which is `todo`.
pub record IsWithinLimits (c : Certificate) : Type 0 where
  pub few_atoms : length c.atoms ≤ 65536
  pub few_items : length c.items ≤ 131073
  pub steps : list_all is_step c.items ≡ true
