-- What the answers of `report` and `prove` mean.
use Rattle.std.specs.Prelude.{◌≡◌, ◌≤◌, ℕ, length, Some}
use Rattle.shelf_io.specs.Seen.{Name, Files}
use Rattle.key_table.specs.Payments.{Entries}
use Rattle.euclid_ast.specs.declared.meaning.Choice as decided
use Rattle.rule_problem.specs.declared.certificate.Certificate.{Certificate}
use Rattle.rule_problem.specs.declared.certificate.Report.TheVariants.{Reach, Never, Spent}
use Rattle.rule_problem.specs.declared.certificate.Trace.{Trace}
use Rattle.rule_report.specs.Reaching.{Reaches}
use Rattle.payment_reader.specs.Written.{payment_text, HasFewSubs}
use Rattle.certificate_text.specs.Texts.{certificate_text}
use Rattle.euclid_ast.specs.Meaning.{choice}
use Rattle.euclidc_commands.specs.Budgets.{IsEnough}
use Rattle.euclidc_commands.specs.Runs.{goes}
use Rattle.euclidc_commands.specs.TableFiles.{TableSource}
use Rattle.euclidc_commands.specs.Decide as decide
use Rattle.euclidc_commands.specs.Check as check
use Rattle.euclidc_commands.specs.Prove as prove
use Rattle.euclidc_commands.specs.Report as report
use Rattle.euclidc_commands.specs.Findings.{IsFound}
use Rattle.euclidc_commands.specs.Inquiries.{Inquiry, IsNeverReached}

-- A payment that is found reaches the target.
abbrev pub ReachedLaw : Type 0
ReachedLaw = (i : Inquiry) (budget : ℕ) (target : decided.Choice) (payment : Entries) → IsFound i budget target (Reach payment) → Reaches i.program i.settings target payment

-- Where a certificate is found, no payment whatever reaches the target.
abbrev pub NeverLaw : Type 0
NeverLaw = (i : Inquiry) (budget : ℕ) (target : decided.Choice) (certificate : Certificate) → IsFound i budget target (Never certificate) → IsNeverReached i target

-- With a budget that is enough no trace is found.
abbrev pub EnoughLaw : Type 0
EnoughLaw = (i : Inquiry) (budget : ℕ) (target : decided.Choice) (trace : Trace) → IsEnough i budget target → IsFound i budget target (Spent trace) → ⊥

-- The files under these names say this inquiry, as `report` reads them.
abbrev pub AreRead : TableSource → Name → Name → Files → Inquiry → Type 0
AreRead source program_name settings_name files i = (report.run source program_name settings_name files).end ≡ goes i

-- What `prove` reads, `report` reads alike.
abbrev pub SameReadLaw : Type 0
SameReadLaw = (source : TableSource) (program_name settings_name : Name) (target : decided.Choice) (files : Files) (i : Inquiry) → (prove.run source program_name settings_name target files).end ≡ goes i → AreRead source program_name settings_name files i

-- A payment that is found on a target, put in a file, is read by `decide` as itself, and the program decides by that target on it.
abbrev pub PaymentLaw : Type 0
PaymentLaw = (source : TableSource) (program_name settings_name payment_name : Name) (files : Files) (i : Inquiry) (budget : ℕ) (target : decided.Choice) (payment : Entries)
    → AreRead source program_name settings_name files i → IsFound i budget target (Reach payment) → HasFewSubs payment
    → files payment_name ≡ Some (payment_text i.program.table payment) → length (payment_text i.program.table payment) ≤ 1048576
    → ((decide.run source program_name payment_name files).end ≡ goes (i.program, payment)) × (choice i.program.table payment i.program.source ≡ target)

-- A certificate that is found on a target with a budget of at most 65,536, put in a file, is good for `check` on that target of the same program under the same settings, so that it is accepted.
abbrev pub CertificateLaw : Type 0
CertificateLaw = (source : TableSource) (program_name settings_name certificate_name : Name) (files : Files) (i : Inquiry) (budget : ℕ) (target : decided.Choice) (certificate : Certificate)
    → AreRead source program_name settings_name files i → budget ≤ 65536 → IsFound i budget target (Never certificate)
    → files certificate_name ≡ Some (certificate_text i.program.table certificate) → length (certificate_text i.program.table certificate) ≤ 16777216
    → check.IsGood source program_name settings_name target certificate_name files
