-- The file of a payment.
use Rattle.std.specs.Prelude.{ℕ, List, codes}
use Rattle.serde_json.specs.Data.{string}
use Rattle.serde_json.specs.Written.{compact_text}
use Rattle.shelf_io.specs.Seen.{Name, Files}
use Rattle.key_table.specs.Tables.{Table}
use Rattle.key_table.specs.Payments.{Entries}
use Rattle.payment_reader.specs.declared.error.PaymentError.{PaymentError}
use Rattle.payment_reader.specs.Reading.{payment_of}
use Rattle.euclidc_commands.specs.declared.role.Role.TheVariants as role
use Rattle.euclidc_commands.specs.Refusals.{refusal}
use Rattle.euclidc_commands.specs.Runs.{Run, file}

-- the line of a refusal, with the path as a JSON string
abbrev pub payment_refusal : PaymentError → List ℕ
payment_refusal error = refusal (codes "payment") error.code (compact_text (string error.path))

abbrev pub payment_file : Table → Name → Files → Run Entries
payment_file table = file role.Payment payment_refusal (payment_of table)
