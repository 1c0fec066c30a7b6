-- Which payments satisfy the problem of a target.
use Rattle.std.specs.Prelude.{◌≡◌, ◌↔◌, length, true}
use Rattle.key_table.specs.Payments.{Entries, is_legal}
use Rattle.euclid_ast.specs.declared.meaning.Choice as decided
use Rattle.euclid_ast.specs.Meaning.{choice, IsWithin}
use Rattle.dir_typing.specs.Typed.{Typed, IsTyped}
use Rattle.constraint_graph.specs.Values.{holds}
use Rattle.connector_settings.specs.declared.settings.Settings.{Settings}
use Rattle.connector_settings.specs.declared.layout.ConnectorGraph.{ConnectorGraph}
use Rattle.connector_settings.specs.Takes.{takes}
use Rattle.connector_settings.specs.GraphOf.{IsGraphOf}
use Rattle.rule_problem.specs.declared.problem.Problem.{Problem}
use Rattle.rule_problem.specs.Problems.{sat}
use Rattle.rule_report.specs.Paths.{paths_of}
use Rattle.rule_report.specs.Targets.{IsProblemOf}

-- A payment comes through a connector graph to a target: it is legal, the graph's goal holds of it, and on it the source program chooses the target.
pub record ComesTo (p : Typed) (connectors : ConnectorGraph) (target : decided.Choice) (payment : Entries) : Type 0 where
  pub legal : is_legal p.table payment ≡ true
  pub goal_holds : holds connectors.graph payment connectors.goal ≡ true
  pub chosen : choice p.table payment p.source ≡ target

-- Exactly such payments satisfy the problem.
abbrev pub IsMetWhere : Typed → ConnectorGraph → decided.Choice → Problem → Type 0
IsMetWhere p connectors target problem = (payment : Entries) → (sat p.table problem payment ≡ true) ↔ ComesTo p connectors target payment

-- A payment reaches a target of a program under settings: it is legal, the settings take it, and on it the target decides.
pub record Reaches (p : Typed) (settings : Settings) (target : decided.Choice) (payment : Entries) : Type 0 where
  pub legal : is_legal p.table payment ≡ true
  pub taken : takes p.table settings payment ≡ true
  pub decides : choice p.table payment p.source ≡ target

-- The problem of a target over the graph of settings is satisfied exactly by the payments that reach the target.
abbrev pub ReachesLaw : Type 0
ReachesLaw = (p : Typed) (settings : Settings) (connectors : ConnectorGraph) (target : decided.Choice) (problem : Problem)
    → IsTyped p → IsWithin target (length p.source.rules) → IsGraphOf p.table settings connectors
    → IsProblemOf (paths_of p) connectors.graph connectors.goal target problem
    → (payment : Entries) → (sat p.table problem payment ≡ true) ↔ Reaches p settings target payment
