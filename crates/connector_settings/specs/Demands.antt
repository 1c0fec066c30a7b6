-- What a type entry asks of a payment.
use Rattle.std.specs.Prelude.{ℕ, ℤ, List, [], ◌∷◌, ◌++◌, map, true, false, Option, Some, None}
use Rattle.key_table.specs.declared.atom.Op.{Op}
use Rattle.key_table.specs.declared.atom.Op.TheVariants.{GreaterEqual, LessEqual}
use Rattle.key_table.specs.declared.atom.Test.{Test}
use Rattle.key_table.specs.declared.atom.Test.TheVariants.{Variant, Number}
use Rattle.key_table.specs.declared.atom.Atom.{Atom}
use Rattle.key_table.specs.Slots.{at}
use Rattle.constraint_graph.specs.Graphs.{set_atom}
use Rattle.connector_settings.specs.declared.keys.Keys.{Keys}
use Rattle.connector_settings.specs.declared.demand.Demand.{Demand}
use Rattle.connector_settings.specs.declared.settings.Accept.{Accept}
use Rattle.connector_settings.specs.declared.settings.Accept.TheVariants.{All, Only, Except}
use Rattle.connector_settings.specs.declared.settings.TypeEntry.{TypeEntry}

-- The atom of a demand: that its key is there and some test is true of it.
abbrev pub demand_atom : Demand → Atom
demand_atom demand = set_atom (at demand.key None) demand.tests

-- that the atom is true
abbrev pub asked : ℕ → List Test → Demand
asked key tests = record { key = key; tests = tests; truth = true }

-- that it is false
abbrev pub barred : ℕ → List Test → Demand
barred key tests = record { key = key; tests = tests; truth = false }

-- one test for each word
abbrev pub word_tests : List ℕ → List Test
word_tests variants = map (λ v. Variant v) variants

-- A list of networks asks for one of them, an empty list for nothing.
abbrev pub network_demands : ℕ → List ℕ → List Demand
network_demands key [] = []
network_demands key (w ∷ ws) = asked key (word_tests (w ∷ ws)) ∷ []

-- what a list of the words that alone are accepted asks
abbrev pub only_demands : ℕ → Accept → List Demand
only_demands key All = []
only_demands key (Only ws) = asked key (word_tests ws) ∷ []
only_demands key (Except ws) = []

-- what a list of the words that are not accepted asks
abbrev pub except_demands : ℕ → Accept → List Demand
except_demands key All = []
except_demands key (Only ws) = []
except_demands key (Except ws) = barred key (word_tests ws) ∷ []

-- what a bound asks, where it is given
abbrev pub bound_demands : ℕ → Op → Option ℤ → List Demand
bound_demands key op None = []
bound_demands key op (Some n) = asked key (Number op n ∷ []) ∷ []

-- What a type entry asks: its method and its type; one of its networks; the currencies and the countries that alone are accepted; the bounds of the amount; and none of the currencies and the countries that are not accepted.
abbrev pub demands_of : Keys → ℕ → TypeEntry → List Demand
demands_of keys method entry =
    asked keys.method (word_tests (method ∷ []))
    ∷ asked keys.method_type (word_tests (entry.method_type ∷ []))
    ∷ (network_demands keys.network entry.networks
    ++ (only_demands keys.currency entry.currencies
    ++ (only_demands keys.country entry.countries
    ++ (bound_demands keys.amount GreaterEqual entry.minimum
    ++ (bound_demands keys.amount LessEqual entry.maximum
    ++ (except_demands keys.currency entry.currencies
    ++ except_demands keys.country entry.countries))))))
