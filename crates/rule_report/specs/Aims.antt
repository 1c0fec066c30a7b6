-- What targets are of.
use Rattle.dir_typing.specs.Typed.{Typed}
use Rattle.connector_settings.specs.declared.layout.ConnectorGraph.{ConnectorGraph}

-- a program, whose rules and default are the targets, and a connector graph
pub record Aims : Type 0 where
  pub program : Typed
  pub connectors : ConnectorGraph

abbrev pub aims : Typed → ConnectorGraph → Aims
aims program connectors = record { program = program; connectors = connectors }
