-- Typed programs: a source program without a fault, with the table that types it.
use Rattle.std.specs.Prelude.{◌≡◌, ℕ, ◌+◌, List, [], ◌∷◌, length, Result, Ok, Err, true}
use Rattle.key_table.specs.Tables.{Table, is_table}
use Rattle.euclid_ast.specs.declared.statement.Comparison.{Comparison}
use Rattle.euclid_ast.specs.declared.program.Program.{Program}
use Rattle.euclid_ast.specs.Limits.{IsWithinLimits}
use Rattle.dir_typing.specs.declared.fault.TypeFault.{TypeFault}
use Rattle.dir_typing.specs.Faults.{numbered, comparison_faults, faults}

-- a value, where there is no fault, and else the first fault
abbrev pub judged : {X : Type 0} → List TypeFault → X → Result X TypeFault
judged [] x = Ok x
judged (fault ∷ faults) x = Err fault

-- what is made of some comparisons of a rule, the first of which has this number, and the number past them, or their first fault
abbrev pub counted : {X : Type 0} → Table → ℕ → ℕ → List Comparison → X → Result (X × ℕ) TypeFault
counted {X} table rule n comparisons x = judged {X = X × ℕ} (numbered (comparison_faults table rule) n comparisons) (x, n + length comparisons)

-- a table, and a program that it types
pub record Typed : Type 0 where
  pub table : Table
  pub source : Program

abbrev pub typed : Table → Program → Typed
typed table source = record { table = table; source = source }

-- The table is well made, and the program is within the limits and has no fault.
pub record IsTyped (p : Typed) : Type 0 where
  pub table : is_table p.table ≡ true
  pub within : IsWithinLimits p.source
  pub well_typed : faults p.table p.source ≡ []
