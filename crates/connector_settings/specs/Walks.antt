-- Whether a payment meets demands, for the plain walk over the settings.
use Rattle.std.specs.Prelude.{List, Bool}
use Rattle.std.specs.List.{list_all}
use Rattle.key_table.specs.Payments.{Entries}
use Rattle.key_table.specs.Options.{holds_on}
use Rattle.constraint_graph.specs.Logics.{two_valued}
use Rattle.connector_settings.specs.declared.demand.Demand.{Demand}
use Rattle.connector_settings.specs.Takes.{demanded}

-- whether a payment meets a demand
abbrev pub is_met : Entries → Demand → Bool
is_met payment demand = demanded two_valued (λ atom. holds_on atom payment) demand

-- whether it meets each of these
abbrev pub are_met : Entries → List Demand → Bool
are_met payment demands = list_all (is_met payment) demands
