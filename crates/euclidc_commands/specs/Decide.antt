-- The command `decide`.
use Rattle.std.specs.Prelude.{◌≡◌, ℕ, List, [], ◌∷◌, ◌++◌}
use Rattle.shelf_io.specs.Seen.{Name, Files}
use Rattle.key_table.specs.Payments.{Entries}
use Rattle.key_table.specs.Tables.{Table}
use Rattle.euclid_ast.specs.Meaning.{choice}
use Rattle.dir_typing.specs.Typed.{Typed}
use Rattle.euclidc_commands.specs.declared.status.Verdict.{Verdict}
use Rattle.euclidc_commands.specs.declared.status.Verdict.TheVariants as verdict
use Rattle.euclidc_commands.specs.Runs.{Run, goes, ◌>>=◌, ending}
use Rattle.euclidc_commands.specs.Stages.{Answering, Ending}
use Rattle.euclidc_commands.specs.TableFiles.{TableSource, table_in, table_names}
use Rattle.euclidc_commands.specs.TypedFiles.{typed_file}
use Rattle.euclidc_commands.specs.PaymentFiles.{payment_file}
use Rattle.euclidc_commands.specs.Decisions.{decision_text}

-- the payment for a program
abbrev pub run_on : Table → Typed → Name → Files → Run (Typed × Entries)
run_on table program payment_name files = payment_file table payment_name files >>= λ payment. ending (goes (program, payment))

-- the program, typed by the table, and then the payment
abbrev pub run_by : Table → Name → Name → Files → Run (Typed × Entries)
run_by table program_name payment_name files = typed_file table program_name files >>= λ program. run_on table program payment_name files

-- the table, the program, and then the payment
abbrev pub run : TableSource → Name → Name → Files → Run (Typed × Entries)
run source program_name payment_name files = table_in source files >>= λ table. run_by table program_name payment_name files

-- The answer is the decision of the program on the payment.
abbrev pub Decides : Typed × Entries → List ℕ → Verdict → Type 0
Decides read text v = (text ≡ decision_text read.0.source (choice read.0.table read.1 read.0.source)) × (v ≡ verdict.Done)

-- the answers over these files
abbrev pub MayAnswer : TableSource → Name → Name → Answering
MayAnswer source program_name payment_name files = Ending Decides (run source program_name payment_name files).end

-- the names of the files that are reached
abbrev pub asked : TableSource → Name → Name → Files → List Name
asked source program_name payment_name files = (run source program_name payment_name files).asked

-- the names of its files
abbrev pub names : TableSource → Name → Name → List Name
names source program_name payment_name = table_names source ++ program_name ∷ payment_name ∷ []

-- Its files are held, within their limits, and good, so that there is a decision.
abbrev pub IsGood : TableSource → Name → Name → Files → Type 0
IsGood source program_name payment_name files = (read : Typed × Entries) × ((run source program_name payment_name files).end ≡ goes read)
