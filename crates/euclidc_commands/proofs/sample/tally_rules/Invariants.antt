use Rattle.std.proofs.Common.{◌≡◌, ◌+◌}
use Rattle.connector_settings.specs.declared.settings.Settings.{Settings}
use Rattle.connector_settings.specs.GraphOf.{IsGraphOf}
use Rattle.euclidc_commands.specs.Sample.{Counts, rules_up_to}
use Rattle.euclidc_commands.proofs.sample.tally_rules.Given as goal

abbrev pub invariant-loop-rule : goal.invariant-loop-rule
invariant-loop-rule l =
    (l.tally.reached + l.tally.never ≡ l.rule)
    × ((s : Settings) → IsGraphOf l.table s l.targets.connectors → Counts l.targets.program s (rules_up_to l.rule) l.tally.reached l.tally.never)
