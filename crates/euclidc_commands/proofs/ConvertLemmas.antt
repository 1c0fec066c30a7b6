-- What the command `convert` reaches.
use Rattle.std.proofs.Common.{inl, refl}
use Rattle.shelf_io.specs.Seen.{Name, Files}
use Rattle.euclidc_commands.specs.declared.command.Form.{Form}
use Rattle.euclidc_commands.specs.declared.role.Role.TheVariants as role
use Rattle.euclidc_commands.specs.Runs.{ending}
use Rattle.euclidc_commands.specs.ProgramFiles.{program_refusal, program_of, program_file}
use Rattle.euclidc_commands.specs.Convert.{converted, run, names}
use Rattle.euclidc_commands.proofs.Names.{AllAmong, none_among}
use Rattle.euclidc_commands.proofs.RunLemmas.{LacksMissing, ending-lacks, bind-lacks, file-lacks, bind-asks, file-asks}

-- where its file is not held, the run lacks it
pub convert-lacks : (form : Form) (program_name : Name) (files : Files) → LacksMissing files (run form program_name files)
convert-lacks form program_name files =
    bind-lacks files (program_file program_name files) (λ program. ending (converted form program)) (file-lacks role.Program program_refusal program_of program_name files)
    (λ program. ending-lacks files (converted form program))

-- it reaches its file alone
pub convert-asks : (form : Form) (program_name : Name) (files : Files) → AllAmong (names program_name) (run form program_name files).asked
convert-asks form program_name files =
    bind-asks (names program_name) (program_file program_name files) (λ program. ending (converted form program))
    (file-asks (names program_name) role.Program program_refusal program_of program_name files (inl refl)) (λ program. none_among (names program_name))
