-- The file of connector settings.
use Rattle.std.specs.Prelude.{ℕ, List, codes}
use Rattle.serde_json.specs.Data.{string}
use Rattle.serde_json.specs.Written.{compact_text}
use Rattle.shelf_io.specs.Seen.{Name, Files}
use Rattle.key_table.specs.Tables.{Table}
use Rattle.connector_settings.specs.declared.error.SettingsError.{SettingsError}
use Rattle.connector_settings.specs.declared.settings.Settings.{Settings}
use Rattle.connector_settings.specs.Reading.{settings_of}
use Rattle.euclidc_commands.specs.declared.role.Role.TheVariants as role
use Rattle.euclidc_commands.specs.Refusals.{refusal}
use Rattle.euclidc_commands.specs.Runs.{Run, file}

-- the line of a refusal, with the path as a JSON string
abbrev pub settings_refusal : SettingsError → List ℕ
settings_refusal error = refusal (codes "settings") error.code (compact_text (string error.path))

abbrev pub settings_file : Table → Name → Files → Run Settings
settings_file table = file role.Settings settings_refusal (settings_of table)
