-- Which payments settings take, in two values and in three.
use Rattle.std.specs.Prelude.{ℕ, List, [], map, Bool, if◌then◌else◌}
use Rattle.std.specs.List.{flat_map}
use Rattle.key_table.specs.declared.atom.Atom.{Atom}
use Rattle.key_table.specs.declared.atom.Verdict3.{Verdict3}
use Rattle.key_table.specs.Tables.{Table}
use Rattle.key_table.specs.Payments.{Entries}
use Rattle.key_table.specs.Options.{holds_on}
use Rattle.constraint_graph.specs.Logics.{Logic, every, some, two_valued, three_valued}
use Rattle.connector_settings.specs.declared.keys.Keys.{Keys}
use Rattle.connector_settings.specs.declared.demand.Demand.{Demand}
use Rattle.connector_settings.specs.declared.settings.TypeEntry.{TypeEntry}
use Rattle.connector_settings.specs.declared.settings.Method.{Method}
use Rattle.connector_settings.specs.declared.settings.Connector.{Connector}
use Rattle.connector_settings.specs.declared.settings.Settings.{Settings}
use Rattle.connector_settings.specs.Keys.{keys_of}
use Rattle.connector_settings.specs.Demands.{demand_atom, demands_of}

-- a demand: its atom, which has to be true, or the opposite where it has to be false
abbrev pub demanded : {V : Type 0} → Logic V → (Atom → V) → Demand → V
demanded logic says demand = if demand.truth then says (demand_atom demand) else logic.opposite (says (demand_atom demand))

-- a type entry accepts: all that it asks
abbrev pub accepted : {V : Type 0} → Logic V → (Atom → V) → Keys → ℕ → TypeEntry → V
accepted logic says keys method entry = every logic (demanded logic says) (demands_of keys method entry)

-- a connector takes: it is not disabled, and some type entry of some of its methods accepts
abbrev pub taken_by : {V : Type 0} → Logic V → (Atom → V) → Keys → Connector → V
taken_by logic says keys connector =
    if connector.disabled then logic.no
    else some logic (λ (m : Method). some logic (accepted logic says keys m.method) m.types) connector.methods

-- the settings take: some connector does
abbrev pub taken : {V : Type 0} → Logic V → (Atom → V) → Keys → Settings → V
taken logic says keys settings = some logic (taken_by logic says keys) settings.connectors

-- whether a connector takes a payment
abbrev pub connector_takes : Table → Entries → Connector → Bool
connector_takes table payment = taken_by two_valued (λ atom. holds_on atom payment) (keys_of table)

-- Whether the settings take a payment.
abbrev pub takes : Table → Settings → Entries → Bool
takes table settings payment = taken two_valued (λ atom. holds_on atom payment) (keys_of table) settings

-- what is known of whether a connector takes, by what is known of the atoms
abbrev pub connector_verdict : Table → (Atom → Verdict3) → Connector → Verdict3
connector_verdict table says = taken_by three_valued says (keys_of table)

-- What is known of whether the settings take, by what is known of the atoms.
abbrev pub takes_verdict : Table → Settings → (Atom → Verdict3) → Verdict3
takes_verdict table settings says = taken three_valued says (keys_of table) settings

-- the atoms of a type entry
abbrev pub entry_atoms : Keys → ℕ → TypeEntry → List Atom
entry_atoms keys method entry = map demand_atom (demands_of keys method entry)

-- the atoms of a connector's type entries, none where it is disabled
abbrev pub connector_atoms : Keys → Connector → List Atom
connector_atoms keys connector =
    if connector.disabled then []
    else flat_map (λ (m : Method). flat_map (entry_atoms keys m.method) m.types) connector.methods

-- The atoms of all entries of connectors that are not disabled.
abbrev pub atoms_of_settings : Table → Settings → List Atom
atoms_of_settings table settings = flat_map (connector_atoms (keys_of table)) settings.connectors
