-- Laws of samples: their programs and settings are read and typed, and the problems of their targets are small.
use Rattle.std.specs.Prelude.{◌≡◌, ◌≤◌, ℕ, [], length, Ok}
use Rattle.key_table.specs.BuiltIn.{built_in}
use Rattle.euclid_ast.specs.Limits.{IsWithinLimits}
use Rattle.euclid_ast.specs.declared.meaning.Choice as decided
use Rattle.dir_typing.specs.Faults.{faults}
use Rattle.dir_typing.specs.Typed.{Typed, typed}
use Rattle.connector_settings.specs.declared.layout.ConnectorGraph.{ConnectorGraph}
use Rattle.connector_settings.specs.GraphOf.{IsGraphOf}
use Rattle.connector_settings.specs.Reading.{settings_of}
use Rattle.rule_problem.specs.declared.problem.Problem.{Problem}
use Rattle.rule_report.specs.Paths.{paths_of}
use Rattle.rule_report.specs.Targets.{IsProblemOf}
use Rattle.sample_program.specs.Programs.{program}
use Rattle.sample_program.specs.SettingsTexts.{settings_text, settings}

-- The program of each seed is within the limits.
abbrev pub WithinLaw : Type 0
WithinLaw = (seed : ℕ) → IsWithinLimits (program seed)

-- It has 256 rules.
abbrev pub CountLaw : Type 0
CountLaw = (seed : ℕ) → length (program seed).rules ≡ 256

-- By the built-in table it has no fault.
abbrev pub TypedLaw : Type 0
TypedLaw = (seed : ℕ) → faults built_in (program seed) ≡ []

-- By the built-in table the text of the settings is the settings.
abbrev pub SettingsLaw : Type 0
SettingsLaw = settings_of built_in settings_text ≡ Ok settings

-- the program of a seed, typed by the built-in table
abbrev pub sample : ℕ → Typed
sample seed = typed built_in (program seed)

-- At most 11 atoms, one want and 256 bars.
pub record IsSmall (problem : Problem) : Type 0 where
  pub atoms : length problem.atoms ≤ 11
  pub wants : length problem.wants ≤ 1
  pub bars : length problem.bars ≤ 256

-- The problem of each target of each seed's program under the settings is small.
abbrev pub SmallLaw : Type 0
SmallLaw = (seed : ℕ) (connectors : ConnectorGraph) (target : decided.Choice) (problem : Problem)
    → IsGraphOf built_in settings connectors → IsProblemOf (paths_of (sample seed)) connectors.graph connectors.goal target problem → IsSmall problem
