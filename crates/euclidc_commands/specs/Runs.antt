-- A command's run over the files: which names it asks for, and how it ends.
use Rattle.std.specs.Prelude.{ℕ, List, [], ◌∷◌, ◌++◌, Option, Some, None, Result, Ok, Err, length, nat_lt, if◌then◌else◌}
use Rattle.shelf_io.specs.Seen.{Name, Files}
use Rattle.euclidc_commands.specs.declared.role.Role.{Role}
use Rattle.euclidc_commands.specs.declared.status.Verdict.{Verdict}
use Rattle.euclidc_commands.specs.declared.status.Verdict.TheVariants.{Refused, TooLong}
use Rattle.euclidc_commands.specs.Roles.{limit_of}
use Rattle.euclidc_commands.specs.Refusals.{too_long}

-- A run goes on with a value, or its answer is decided, or a file that it asks for is not held.
pub data End (A : Type 0) : Type 0 where
  goes : A → End A
  ends : List ℕ → Verdict → End A
  lacks : End A

-- how it ends, with the names that it asks for
pub record Run (A : Type 0) : Type 0 where
  pub asked : List Name
  pub end : End A

abbrev pub after : {A B : Type 0} → List Name → End A → (A → Run B) → Run B
after asked (goes a) next = record { asked = asked ++ (next a).asked; end = (next a).end }
after asked (ends text verdict) next = record { asked = asked; end = ends text verdict }
after asked lacks next = record { asked = asked; end = lacks }

-- A run that goes on is followed by the next. One that ends or lacks a file asks for nothing more.
infixl 10 ◌>>=◌
abbrev pub ◌>>=◌ : {A B : Type 0} → Run A → (A → Run B) → Run B
run >>= next = after run.asked run.end next

-- a run that asks for nothing
abbrev pub ending : {A : Type 0} → End A → Run A
ending end = record { asked = []; end = end }

abbrev pub bytes_of : Role → Option (List ℕ) → End (List ℕ)
bytes_of role None = lacks
bytes_of role (Some bytes) = if nat_lt (limit_of role) (length bytes) then ends (too_long role) TooLong else goes bytes

-- The bytes of a file, of which there may be as many as its role allows.
abbrev pub bytes_in : Role → Name → Files → Run (List ℕ)
bytes_in role name files = record { asked = name ∷ []; end = bytes_of role (files name) }

-- what was read, or the text that refuses its fault
abbrev pub judged : {A E : Type 0} → (E → List ℕ) → Result A E → End A
judged refusal (Ok a) = goes a
judged refusal (Err error) = ends (refusal error) Refused

-- What is read from a file, or the text that refuses it.
abbrev pub file : {A E : Type 0} → Role → (E → List ℕ) → (List ℕ → Result A E) → Name → Files → Run A
file role refusal read name files = bytes_in role name files >>= λ bytes. ending (judged refusal (read bytes))
