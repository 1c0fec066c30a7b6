use Rattle.euclidc_commands.proofs.Faults.{failed_read}
use Rattle.euclidc_commands.proofs.file.read_file.Goals as goal

pub returns-in-Err-Failed-clause-stage : goal.returns-in-Err-Failed-clause-stage
returns-in-Err-Failed-clause-stage g c = failed_read _ _ _ _ _ _ c.in-Err-Failed.is c.in-Err-Failed.field-0-is c.read_up_to.ensures
