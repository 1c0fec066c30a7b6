-- What is left of a file reads from a place on, and a call takes it to another place.
use Rattle.std.specs.Prelude.{◌≡◌, ℕ, ◌+◌, List, [], ◌∷◌, ◌++◌, Option, Some, None, Result, Ok, Err}
use Rattle.key_table.specs.declared.stop.Stop.{Stop}
use Rattle.key_table.specs.declared.atom.Atom.{Atom}
use Rattle.key_table.specs.Tables.{Table}
use Rattle.key_table.specs.Answers.{Fails}
use Rattle.rule_problem.specs.declared.certificate.Item.{Item}
use Rattle.rule_problem.specs.declared.certificate.Certificate.{Certificate}
use Rattle.certificate_text.specs.declared.error.CertError.{CertError}
use Rattle.certificate_text.specs.Lines.{lines_of}
use Rattle.certificate_text.specs.Reading.{Place, proving, closed, reading}

-- what the bytes are from a place on, after so many lines
unfoldable pub from : Table → Place → ℕ → List ℕ → Result Certificate CertError
from table place read bytes = reading table place (read + 1) (lines_of bytes).ended (lines_of bytes).rest

-- A call took the file from its start to what is next, or met its fault.
abbrev pub GoesOn : {X : Type 0} → Result X CertError → Result Certificate CertError → (X → Result Certificate CertError) → Type 0
GoesOn (Ok x) start next = start ≡ next x
GoesOn (Err e) start next = start ≡ Err e

-- The same, or there was no memory.
abbrev pub Goes : {X : Type 0} → Result X (Stop CertError) → Result Certificate CertError → (X → Result Certificate CertError) → Type 0
Goes (Ok x) start next = start ≡ next x
Goes (Err stop) start next = Fails stop start

-- the place after an item, or after `end`
abbrev pub after_item : List Atom → List Item → Option Item → Place
after_item atoms items None = closed (record { atoms = atoms; items = items })
after_item atoms items (Some item) = proving atoms (items ++ item ∷ [])
