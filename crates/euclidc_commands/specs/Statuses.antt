-- Statuses, their numbers, and the status of an answer.
use Rattle.std.specs.Prelude.{ℕ}
use Rattle.euclidc_commands.specs.declared.status.Verdict.{Verdict}
use Rattle.euclidc_commands.specs.declared.status.Verdict.TheVariants as verdict
use Rattle.euclidc_commands.specs.declared.status.Status.{Status}
use Rattle.euclidc_commands.specs.declared.status.Status.TheVariants.{Done, No, Usage, Refused, TooLong, ReadFault, WriteFault, NoMemory}

abbrev pub number_of : Status → ℕ
number_of Done = 0
number_of No = 1
number_of Usage = 2
number_of Refused = 3
number_of TooLong = 4
number_of ReadFault = 5
number_of WriteFault = 6
number_of NoMemory = 7

-- the status of an answer that was put whole
abbrev pub status_of : Verdict → Status
status_of verdict.Done = Done
status_of verdict.No = No
status_of verdict.Refused = Refused
status_of verdict.TooLong = TooLong
