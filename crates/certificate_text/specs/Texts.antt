-- The text of a certificate and of a trace.
use Rattle.std.specs.Prelude.{ℕ, List, [], ◌∷◌, ◌++◌, length, map, codes}
use Rattle.std.specs.Fmt.{decimal}
use Rattle.key_table.specs.declared.atom.Atom.{Atom}
use Rattle.key_table.specs.Tables.{Table}
use Rattle.rule_problem.specs.declared.certificate.Item.{Item}
use Rattle.rule_problem.specs.declared.certificate.Certificate.{Certificate}
use Rattle.rule_problem.specs.declared.certificate.Trace.{Trace}
use Rattle.certificate_text.specs.Lines.{text_of_lines}
use Rattle.certificate_text.specs.Named.{atom_text}
use Rattle.certificate_text.specs.Items.{item_text}
use Rattle.certificate_text.specs.Numbered.{named}

abbrev pub certificate_line : List ℕ
certificate_line = codes "euclid certificate 1"

abbrev pub trace_line : List ℕ
trace_line = codes "euclid trace 1"

abbrev pub end_line : List ℕ
end_line = codes "end"

abbrev pub count_line : ℕ → List ℕ
count_line n = codes "atoms " ++ decimal n

unfoldable pub atom_line : Table → Atom → List ℕ
atom_line table atom = atom_text (named table atom)

-- the lines after the first: the number of atoms, the atoms, the items, and `end`
abbrev pub body : Table → List Atom → List Item → List (List ℕ)
body table atoms items = count_line (length atoms) ∷ (map (atom_line table) atoms ++ (map item_text items ++ end_line ∷ []))

abbrev pub certificate_lines : Table → Certificate → List (List ℕ)
certificate_lines table c = certificate_line ∷ body table c.atoms c.items

abbrev pub certificate_text : Table → Certificate → List ℕ
certificate_text table c = text_of_lines (certificate_lines table c)

abbrev pub trace_text : Table → Trace → List ℕ
trace_text table t = text_of_lines (trace_line ∷ body table t.atoms t.items)
