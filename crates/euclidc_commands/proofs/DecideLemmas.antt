-- What the command `decide` reaches.
use Rattle.std.proofs.Common.{List, [], ◌∷◌, ◌++◌, inl, inr, refl}
use Rattle.shelf_io.specs.Seen.{Name, Files}
use Rattle.key_table.specs.Tables.{Table}
use Rattle.key_table.specs.Payments.{Entries}
use Rattle.key_table.specs.BuiltIn.{built_in}
use Rattle.key_table.specs.TableFiles.{table_of}
use Rattle.dir_typing.specs.Typed.{Typed}
use Rattle.payment_reader.specs.Reading.{payment_of}
use Rattle.euclidc_commands.specs.declared.role.Role.TheVariants as role
use Rattle.euclidc_commands.specs.Runs.{Run, goes, ◌>>=◌, ending, judged}
use Rattle.euclidc_commands.specs.Stages.{Among}
use Rattle.euclidc_commands.specs.ProgramFiles.{program_refusal, program_of, program_file}
use Rattle.euclidc_commands.specs.TypedFiles.{type_refusal, typed_of, typed_file}
use Rattle.euclidc_commands.specs.PaymentFiles.{payment_refusal, payment_file}
use Rattle.euclidc_commands.specs.TableFiles.{TableSource, known, under, table_refusal, table_in, table_names}
use Rattle.euclidc_commands.specs.Decide.{run_by, run, names}
use Rattle.euclidc_commands.proofs.Names.{among-right, AllAmong, none_among}
use Rattle.euclidc_commands.proofs.RunLemmas.{LacksMissing, ending-lacks, bind-lacks, file-lacks, bind-asks, file-asks}

all_read : Typed → Entries → Run (Typed × Entries)
all_read program payment = ending (goes (program, payment))

pub typed_file-lacks : (table : Table) (name : Name) (files : Files) → LacksMissing files (typed_file table name files)
typed_file-lacks table name files =
    bind-lacks files (program_file name files) (λ program. ending (judged type_refusal (typed_of table program))) (file-lacks role.Program program_refusal program_of name files)
    (λ program. ending-lacks files (judged type_refusal (typed_of table program)))

pub typed_file-asks : (names : List Name) (table : Table) (name : Name) (files : Files) → Among name names → AllAmong names (typed_file table name files).asked
typed_file-asks names table name files h =
    bind-asks names (program_file name files) (λ program. ending (judged type_refusal (typed_of table program))) (file-asks names role.Program program_refusal program_of name files h) (λ program. none_among names)

pub table_in-lacks : (source : TableSource) (files : Files) → LacksMissing files (table_in source files)
table_in-lacks known files = ending-lacks files (goes built_in)
table_in-lacks (under name) files = file-lacks role.Table table_refusal table_of name files

run_by-lacks : (table : Table) (program_name payment_name : Name) (files : Files) → LacksMissing files (run_by table program_name payment_name files)
unfolding all_read
run_by-lacks table program_name payment_name files =
    bind-lacks files (typed_file table program_name files) (λ program. payment_file table payment_name files >>= all_read program) (typed_file-lacks table program_name files)
    (λ program. bind-lacks files (payment_file table payment_name files) (all_read program) (file-lacks role.Payment payment_refusal (payment_of table) payment_name files)
    (λ payment. ending-lacks files (goes (program, payment))))

-- where a file that is reached is not held, the run lacks it
pub decide-lacks : (source : TableSource) (program_name payment_name : Name) (files : Files) → LacksMissing files (run source program_name payment_name files)
decide-lacks source program_name payment_name files =
    bind-lacks files (table_in source files) (λ table. run_by table program_name payment_name files) (table_in-lacks source files) (λ table. run_by-lacks table program_name payment_name files)

pub table_in-asks : (source : TableSource) (others : List Name) (files : Files) → AllAmong (table_names source ++ others) (table_in source files).asked
table_in-asks known others files = none_among others
table_in-asks (under name) others files = file-asks (name ∷ others) role.Table table_refusal table_of name files (inl refl)

run_by-asks : (table : Table) (program_name payment_name : Name) (names : List Name) (files : Files) → Among program_name names → Among payment_name names → AllAmong names (run_by table program_name payment_name files).asked
unfolding all_read
run_by-asks table program_name payment_name names files h k =
    bind-asks names (typed_file table program_name files) (λ program. payment_file table payment_name files >>= all_read program)
    (typed_file-asks names table program_name files h)
    (λ program. bind-asks names (payment_file table payment_name files) (all_read program) (file-asks names role.Payment payment_refusal (payment_of table) payment_name files k) (λ payment. none_among names))

-- it reaches its files alone
pub decide-asks : (source : TableSource) (program_name payment_name : Name) (files : Files) → AllAmong (names source program_name payment_name) (run source program_name payment_name files).asked
decide-asks source program_name payment_name files =
    let others = program_name ∷ payment_name ∷ [] in
    bind-asks (names source program_name payment_name) (table_in source files) (λ table. run_by table program_name payment_name files) (table_in-asks source others files)
    (λ table. run_by-asks table program_name payment_name (names source program_name payment_name) files
    (among-right program_name (table_names source) others (inl refl)) (among-right payment_name (table_names source) others (inr (inl refl))))
