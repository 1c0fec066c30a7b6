-- What is found on a target, and its text.
use Rattle.std.specs.Prelude.{◌≡◌, ℕ, List, ◌++◌, length, codes, Bool, true, false, Ok, if◌then◌else◌}
use Rattle.std.specs.List.{list_all}
use Rattle.key_table.specs.Atoms.{atom_fits}
use Rattle.key_table.specs.Payments.{is_legal}
use Rattle.key_table.specs.Tables.{Table}
use Rattle.euclid_ast.specs.declared.meaning.Choice as decided
use Rattle.euclid_ast.specs.Meaning.{IsWithin}
use Rattle.dir_typing.specs.Typed.{IsTyped}
use Rattle.connector_settings.specs.declared.layout.ConnectorGraph.{ConnectorGraph}
use Rattle.connector_settings.specs.GraphOf.{IsGraphOf}
use Rattle.rule_problem.specs.declared.certificate.Report.{Report}
use Rattle.rule_problem.specs.declared.certificate.Report.TheVariants.{Reach, Never, Spent}
use Rattle.rule_report.specs.Aims.{aims}
use Rattle.rule_report.specs.Answers.{IsAnswerOn}
use Rattle.payment_reader.specs.Reading.{payment_of}
use Rattle.payment_reader.specs.Written.{payment_text, HasFewSubs}
use Rattle.certificate_text.specs.Limits.{IsWithinLimits}
use Rattle.certificate_text.specs.Reading.{certificate_of}
use Rattle.certificate_text.specs.Texts.{certificate_text, trace_text}
use Rattle.euclidc_commands.specs.declared.status.Verdict.{Verdict}
use Rattle.euclidc_commands.specs.declared.status.Verdict.TheVariants as verdict
use Rattle.euclidc_commands.specs.Inquiries.{Inquiry}

-- A payment as one line, or the text of a certificate, or that of a trace.
abbrev pub report_text : Table → Report → List ℕ
report_text table (Reach payment) = payment_text table payment ++ codes "\n"
report_text table (Never certificate) = certificate_text table certificate
report_text table (Spent trace) = trace_text table trace

-- A target is left open where the answer is a trace.
abbrev pub is_open : Report → Bool
is_open (Spent trace) = true
is_open _ = false

-- what is answered where some target is left open, and where none is
abbrev pub verdict_where : Bool → Verdict
verdict_where is_left = if is_left then verdict.No else verdict.Done

-- Within the limits of files, the text of a payment or of a certificate reads back as the same.
abbrev pub ReadsBack : Table → Report → Type 0
ReadsBack table (Reach payment) = HasFewSubs payment → payment_of table (payment_text table payment) ≡ Ok payment
ReadsBack table (Never certificate) = IsWithinLimits certificate → certificate_of table (certificate_text table certificate) ≡ Ok certificate
ReadsBack table (Spent trace) = Unit {0}

-- A text can be made of it: the payment is legal, and each atom fits the table.
abbrev pub IsWritable : Table → Report → Type 0
IsWritable table (Reach payment) = is_legal table payment ≡ true
IsWritable table (Never certificate) = list_all (atom_fits table) certificate.atoms ≡ true
IsWritable table (Spent trace) = list_all (atom_fits table) trace.atoms ≡ true

-- What is found on a target: an answer that the search may give on it over a connector graph of the settings, with this budget.
pub record IsFound (i : Inquiry) (budget : ℕ) (target : decided.Choice) (report : Report) : Type 0 where
  pub connectors : ConnectorGraph
  pub typed : IsTyped i.program
  pub within : IsWithin target (length i.program.source.rules)
  pub graph : IsGraphOf i.program.table i.settings connectors
  pub answer : IsAnswerOn (aims i.program connectors) budget target report
  pub reads_back : ReadsBack i.program.table report
