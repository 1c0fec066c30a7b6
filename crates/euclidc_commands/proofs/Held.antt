-- Runs that end with a value, and files that are held.
use Rattle.std.proofs.Common.{◌≡◌, ◌≤◌, ℕ, List, [], ◌∷◌, Some, Result, Ok, Err, length, refl, sym, ap, ◌∙◌, arith}
use Rattle.shelf_io.specs.Seen.{Name, Files}
use Rattle.key_table.specs.Tables.{Table}
use Rattle.euclid_ast.specs.declared.program.Program.{Program}
use Rattle.dir_typing.specs.declared.fault.TypeFault.{TypeFault}
use Rattle.dir_typing.specs.Faults.{faults}
use Rattle.dir_typing.specs.Typed as typing
use Rattle.dir_typing.specs.Typed.{Typed, typed}
use Rattle.euclidc_commands.specs.declared.role.Role.{Role}
use Rattle.euclidc_commands.specs.declared.role.Role.TheVariants as role
use Rattle.euclidc_commands.specs.Roles.{limit_of}
use Rattle.euclidc_commands.specs.Runs.{Run, End, goes, ends, lacks, after, ◌>>=◌, ending, judged, bytes_of, bytes_in, file}
use Rattle.euclidc_commands.specs.ProgramFiles.{program_file}
use Rattle.euclidc_commands.specs.TypedFiles.{type_refusal, typed_of, typed_file}

after-went : {A B : Type 0} (asked : List Name) (end : End A) (next : A → Run B) (b : B) → (after asked end next).end ≡ goes b → (a : A) × (end ≡ goes a) × ((next a).end ≡ goes b)
after-went asked (goes a) next b is = (a, refl, is)
after-went asked (ends text v) next b is = absurd (cc is)
after-went asked lacks next b is = absurd (cc is)

-- where a run and what follows end with a value, each of them does
pub bind-went : {A B : Type 0} (run : Run A) (next : A → Run B) (b : B) → (run >>= next).end ≡ goes b → (a : A) × (run.end ≡ goes a) × ((next a).end ≡ goes b)
bind-went run next b is = after-went run.asked run.end next b is

-- where a run ends with a value, it and what follows end as that does
pub bind-goes : {A B : Type 0} (run : Run A) (next : A → Run B) (a : A) → run.end ≡ goes a → (run >>= next).end ≡ (next a).end
bind-goes run next a is = ap (λ end. (after run.asked end next).end) is

judged-went : {A E : Type 0} (refusal : E → List ℕ) (r : Result A E) (a : A) → judged refusal r ≡ goes a → r ≡ Ok a
judged-went refusal (Ok x) a is = cc is
judged-went refusal (Err e) a is = absurd (cc is)

within-limit : (role : Role) (bytes : List ℕ) → length bytes ≤ limit_of role → bytes_of role (Some bytes) ≡ goes bytes
within-limit role.Table bytes short = grind (arith, short)
within-limit role.Program bytes short = grind (arith, short)
within-limit role.Payment bytes short = grind (arith, short)
within-limit role.Settings bytes short = grind (arith, short)
within-limit role.Certificate bytes short = grind (arith, short)

-- what a file that is held within its limit is read as
pub file-held : {A E : Type 0} (role : Role) (refusal : E → List ℕ) (read : List ℕ → Result A E) (name : Name) (files : Files) (bytes : List ℕ) (a : A)
    → files name ≡ Some bytes → length bytes ≤ limit_of role → read bytes ≡ Ok a → (file role refusal read name files).end ≡ goes a
file-held role refusal read name files bytes a held short is =
    let next = λ (bytes : List ℕ). ending (judged refusal (read bytes)) in
    let here : (bytes_in role name files).end ≡ goes bytes = ap (bytes_of role) held ∙ within-limit role bytes short in
    ap (λ end. (after (name ∷ []) end next).end) here ∙ ap (judged refusal) is

typed-is : (table : Table) (program : Program) (fs : List TypeFault) (p : Typed) → typing.judged fs (typed table program) ≡ Ok p → p.table ≡ table
typed-is table program [] p is = let same : typed table program ≡ p = cc is in ap (λ (x : Typed). x.table) (sym same)
typed-is table program (f ∷ fs) p is = absurd (cc is)

-- a program in a file is typed by the table
pub typed-by : (table : Table) (name : Name) (files : Files) (p : Typed) → (typed_file table name files).end ≡ goes p → p.table ≡ table
typed-by table name files p is =
    let (program, read, judging) = bind-went (program_file name files) (λ program. ending (judged type_refusal (typed_of table program))) p is in
    typed-is table program (faults table program) p (judged-went type_refusal (typed_of table program) p judging)
