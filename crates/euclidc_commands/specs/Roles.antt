-- What a file is to a command: its word in answers, and the most bytes that it may have.
use Rattle.std.specs.Prelude.{ℕ, List, codes}
use Rattle.euclidc_commands.specs.declared.role.Role.{Role}
use Rattle.euclidc_commands.specs.declared.role.Role.TheVariants as role

abbrev pub word_of : Role → List ℕ
word_of role.Table = codes "table"
word_of role.Program = codes "program"
word_of role.Payment = codes "payment"
word_of role.Settings = codes "settings"
word_of role.Certificate = codes "certificate"

abbrev pub limit_of : Role → ℕ
limit_of role.Table = 1048576
limit_of role.Program = 1048576
limit_of role.Payment = 1048576
limit_of role.Settings = 1048576
limit_of role.Certificate = 16777216
