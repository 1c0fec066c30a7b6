-- A certificate that was written reads back, it has one spelling, and no proper prefix of its text reads.
use Rattle.std.specs.Prelude.{◌≡◌, ◌≢◌, ◌+◌, ◌==◌, List, ℕ, [], ◌++◌, true, Ok, Err}
use Rattle.std.specs.List.{list_all, count_by}
use Rattle.key_table.specs.Tables.{Table, is_table}
use Rattle.key_table.specs.Atoms.{atom_fits}
use Rattle.rule_problem.specs.declared.certificate.Certificate.{Certificate}
use Rattle.certificate_text.specs.CodeValues.{IsCertificate}
use Rattle.certificate_text.specs.Limits.{IsWithinLimits}
use Rattle.certificate_text.specs.Texts.{certificate_text}
use Rattle.certificate_text.specs.Reading.{fault, certificate_of}

-- What was written within the limits reads back as the same.
abbrev pub ReadsBackLaw : Type 0
ReadsBackLaw = (table : Table) (c : Certificate) → is_table table ≡ true → list_all (atom_fits table) c.atoms ≡ true → IsCertificate c → IsWithinLimits c → certificate_of table (certificate_text table c) ≡ Ok c

-- What reads as a certificate is the text of that certificate.
abbrev pub OneSpellingLaw : Type 0
OneSpellingLaw = (table : Table) (bytes : List ℕ) (c : Certificate) → certificate_of table bytes ≡ Ok c → bytes ≡ certificate_text table c

-- A proper prefix of what reads is unended, on the line after its last line feed.
abbrev pub PrefixLaw : Type 0
PrefixLaw = (table : Table) (front rest : List ℕ) (c : Certificate) → certificate_of table (front ++ rest) ≡ Ok c → rest ≢ [] → certificate_of table front ≡ Err (fault (count_by (λ b. b == 10) front + 1) 3)

-- So is a proper prefix of what was written within the limits.
abbrev pub WrittenPrefixLaw : Type 0
WrittenPrefixLaw = (table : Table) (front rest : List ℕ) (c : Certificate) → is_table table ≡ true → list_all (atom_fits table) c.atoms ≡ true → IsCertificate c → IsWithinLimits c → front ++ rest ≡ certificate_text table c → rest ≢ []
    → certificate_of table front ≡ Err (fault (count_by (λ b. b == 10) front + 1) 3)
