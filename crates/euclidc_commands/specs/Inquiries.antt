-- Inquiries: a program under settings, and the problems of its targets.
use Rattle.std.specs.Prelude.{◌≡◌, length, true}
use Rattle.key_table.specs.Payments.{Entries}
use Rattle.euclid_ast.specs.declared.meaning.Choice as decided
use Rattle.euclid_ast.specs.Meaning.{IsWithin}
use Rattle.dir_typing.specs.Typed.{Typed, IsTyped}
use Rattle.connector_settings.specs.declared.settings.Settings.{Settings}
use Rattle.connector_settings.specs.declared.layout.ConnectorGraph.{ConnectorGraph}
use Rattle.connector_settings.specs.GraphOf.{IsGraphOf}
use Rattle.rule_problem.specs.declared.problem.Problem.{Problem}
use Rattle.rule_problem.specs.Problems.{problem_fits}
use Rattle.rule_report.specs.Paths.{paths_of}
use Rattle.rule_report.specs.Reaching.{Reaches}
use Rattle.rule_report.specs.Targets.{IsProblemOf}

-- what is read: a typed program, and settings
pub record Inquiry : Type 0 where
  pub program : Typed
  pub settings : Settings

abbrev pub inquiry : Typed → Settings → Inquiry
inquiry program settings = record { program = program; settings = settings }

-- A problem of a target over a connector graph of the settings.
pub record IsProblemFor (i : Inquiry) (target : decided.Choice) (connectors : ConnectorGraph) (problem : Problem) : Type 0 where
  pub typed : IsTyped i.program
  pub within : IsWithin target (length i.program.source.rules)
  pub graph : IsGraphOf i.program.table i.settings connectors
  pub of_target : IsProblemOf (paths_of i.program) connectors.graph connectors.goal target problem
  pub fits : problem_fits i.program.table problem ≡ true

-- Some payment reaches the target.
abbrev pub IsReached : Inquiry → decided.Choice → Type 0
IsReached i target = (payment : Entries) × Reaches i.program i.settings target payment

-- No payment whatever reaches the target.
abbrev pub IsNeverReached : Inquiry → decided.Choice → Type 0
IsNeverReached i target = (payment : Entries) → Reaches i.program i.settings target payment → ⊥
