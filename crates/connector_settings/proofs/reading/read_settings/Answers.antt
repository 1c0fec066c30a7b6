use Rattle.std.proofs.Common.{◌≤◌}
use Rattle.std.specs.List.{sum_by}
use Rattle.std.proofs.lemmas.Bool.{le-leb}
use Rattle.std.proofs.lemmas.Result.{IfOk-at_ok}
use Rattle.connector_settings.specs.declared.settings.Settings.{Settings}
use Rattle.connector_settings.specs.Fit.{entry_count}
use Rattle.connector_settings.proofs.Counts.{read_few}
use Rattle.connector_settings.proofs.reading.read_settings.Goals as goal

-- what is read has few connectors with few type entries, and each of them fits
pub returns-in-Ok-clause-fits : goal.returns-in-Ok-clause-fits
returns-in-Ok-clause-fits c =
    let few = IfOk-at_ok (λ (s : Settings). sum_by entry_count s.connectors ≤ 4096) c.in-Ok.ensures.settings (read_few c.args.table.now c.args.bytes.now) in
    rw (c.in-Ok.ensures.few, le-leb (sum_by entry_count c.in-Ok.settings.connectors) 4096 few, c.in-Ok.ensures.fit)
