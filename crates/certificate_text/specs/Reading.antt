-- Reading a certificate line by line: what the place of a line asks for, and the first fault.
use Rattle.std.specs.Prelude.{ℕ, zero, suc, ◌+◌, nat_le, nat_lt, List, [], ◌∷◌, ◌++◌, length, codes, bytes_eq, option_and_then, Result, Ok, Err, ⊤, if◌then◌else◌}
use Rattle.key_table.specs.declared.atom.Atom.{Atom}
use Rattle.key_table.specs.Tables.{Table}
use Rattle.key_table.specs.Answers.{◌>>=◌, or_fault, provided}
use Rattle.rule_problem.specs.declared.certificate.Item.{Item}
use Rattle.rule_problem.specs.declared.certificate.Certificate.{Certificate}
use Rattle.certificate_text.specs.declared.error.CertError.{CertError}
use Rattle.certificate_text.specs.Lines.{lines_of}
use Rattle.certificate_text.specs.Spelled.{number_of}
use Rattle.certificate_text.specs.Named.{after, atom_of, is_within}
use Rattle.certificate_text.specs.Items.{item_of}
use Rattle.certificate_text.specs.Numbered.{numbered}
use Rattle.certificate_text.specs.Texts.{certificate_line, trace_line, end_line}

-- ---- what stands on a line, or the code of its fault

abbrev pub first_of : List ℕ → Result ⊤ ℕ
first_of line = if bytes_eq line trace_line then Err 6 else (if bytes_eq line certificate_line then Ok tt else Err 1)

unfoldable pub count_of : List ℕ → Result ℕ ℕ
count_of line = do
  n ← or_fault 1 (option_and_then number_of (after (codes "atoms ") line))
  _ ← provided 5 (nat_le n 65536)
  Ok n

-- the form of the line, then the limits, then what the table has
unfoldable pub atom_in : Table → List ℕ → Result Atom ℕ
atom_in table line = do
  atom ← or_fault 1 (atom_of line)
  _ ← provided 5 (is_within atom)
  or_fault 2 (numbered table atom)

-- an item after so many
abbrev pub item_in : ℕ → List ℕ → Result Item ℕ
item_in count line = do
  item ← or_fault 1 (item_of line)
  _ ← provided 5 (nat_lt count 131073)
  Ok item

-- ---- from line to line

-- What the place of the next line asks for: the first line, the number of atoms, one of so many atoms after these, an
-- item or `end` after these items, or that no byte follows.
pub data Place : Type 0 where
  opening : Place
  counting : Place
  naming : ℕ → List Atom → Place
  proving : List Atom → List Item → Place
  closed : Certificate → Place

abbrev pub item_step : List Atom → List Item → List ℕ → Result Place ℕ
item_step atoms items line =
    if bytes_eq line end_line then Ok (closed (record { atoms = atoms; items = items }))
    else (item_in (length items) line >>= λ item. Ok (proving atoms (items ++ item ∷ [])))

-- the place after a line, or the code of the line's fault
abbrev pub step : Table → Place → List ℕ → Result Place ℕ
step table opening line = first_of line >>= λ _. Ok counting
step table counting line = count_of line >>= λ n. Ok (naming n [])
step table (naming zero atoms) line = item_step atoms [] line
step table (naming (suc n) atoms) line = atom_in table line >>= λ atom. Ok (naming n (atoms ++ atom ∷ []))
step table (proving atoms items) line = item_step atoms items line
step table (closed c) line = Err 4

abbrev pub fault : ℕ → ℕ → CertError
fault line code = record { line = line; code = code }

abbrev pub on_line : {A : Type 0} → ℕ → Result A ℕ → Result A CertError
on_line n (Ok x) = Ok x
on_line n (Err code) = Err (fault n code)

-- what bytes without a line feed are on the line with this number: nothing after `end`, or a fault
abbrev pub close : Place → ℕ → List ℕ → Result Certificate CertError
close (closed c) n [] = Ok c
close (closed c) n (b ∷ rest) = Err (fault n 4)
close _ n rest = Err (fault n 3)

-- the certificate that the lines from this one on are, and the bytes after them
abbrev pub reading : Table → Place → ℕ → List (List ℕ) → List ℕ → Result Certificate CertError
reading table place n [] rest = close place n rest
reading table place n (line ∷ lines) rest = on_line n (step table place line) >>= λ next. reading table next (n + 1) lines rest

-- The certificate that the bytes are, or the first fault.
abbrev pub certificate_of : Table → List ℕ → Result Certificate CertError
certificate_of table bytes = reading table opening 1 (lines_of bytes).ended (lines_of bytes).rest
