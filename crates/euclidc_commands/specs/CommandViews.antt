-- Words and commands of the code as those of the definitions.
use Rattle.std.specs.Prelude.{List, Option, map, String, string_bytes}
use Rattle.std.specs.declared.alloc.Global.{Global}
use Rattle.euclidc_commands.specs.declared.command.Command as code
use Rattle.euclidc_commands.specs.declared.command.Command.TheVariants as code_command
use Rattle.euclidc_commands.specs.declared.command.TableSource as code_source
use Rattle.euclidc_commands.specs.declared.command.TableSource.TheVariants as source
use Rattle.euclidc_commands.specs.TableFiles.{TableSource, known, under}
use Rattle.euclidc_commands.specs.Commands.{Command, Decide, Report, Prove, Check, Convert, Sample, command_of}

abbrev pub source_view : code_source.TableSource → TableSource
source_view source.BuiltIn = known
source_view (source.File name) = under name.now

abbrev pub command_view : code.Command → Command
command_view (code_command.Decide source program_name payment_name) = Decide (source_view source) program_name.now payment_name.now
command_view (code_command.Report source program_name settings_name budget) = Report (source_view source) program_name.now settings_name.now budget
command_view (code_command.Prove source program_name settings_name target budget) = Prove (source_view source) program_name.now settings_name.now target budget
command_view (code_command.Check source program_name settings_name target certificate_name) = Check (source_view source) program_name.now settings_name.now target certificate_name.now
command_view (code_command.Convert form program_name) = Convert form program_name.now
command_view (code_command.Sample seed) = Sample seed

-- The command that words of the code are.
abbrev pub command_in : List (String Global) → Option Command
command_in words = command_of (map (λ (word : String Global). string_bytes word) words)
