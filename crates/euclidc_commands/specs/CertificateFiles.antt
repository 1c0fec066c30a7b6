-- The file of a certificate.
use Rattle.std.specs.Prelude.{ℕ, List, codes, decimal}
use Rattle.shelf_io.specs.Seen.{Name, Files}
use Rattle.key_table.specs.Tables.{Table}
use Rattle.rule_problem.specs.declared.certificate.Certificate.{Certificate}
use Rattle.certificate_text.specs.declared.error.CertError.{CertError}
use Rattle.certificate_text.specs.Reading.{certificate_of}
use Rattle.euclidc_commands.specs.declared.role.Role.TheVariants as role
use Rattle.euclidc_commands.specs.Refusals.{refusal}
use Rattle.euclidc_commands.specs.Runs.{Run, file}

-- the line of a refusal, with the number of a line
abbrev pub certificate_refusal : CertError → List ℕ
certificate_refusal error = refusal (codes "certificate") error.code (decimal error.line)

abbrev pub certificate_file : Table → Name → Files → Run Certificate
certificate_file table = file role.Certificate certificate_refusal (certificate_of table)
