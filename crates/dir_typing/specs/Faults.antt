-- The typing faults of a program.
use Rattle.std.specs.Prelude.{ℕ, ◌+◌, List, [], ◌∷◌, ◌++◌, true, false, Option, Some, None}
use Rattle.key_table.specs.Tables.{Table}
use Rattle.euclid_ast.specs.declared.selection.Selection.{Selection}
use Rattle.euclid_ast.specs.declared.statement.Comparison.{Comparison}
use Rattle.euclid_ast.specs.declared.program.Rule.{Rule}
use Rattle.euclid_ast.specs.declared.program.Program.{Program}
use Rattle.euclid_ast.specs.Limits.{comparisons_in}
use Rattle.dir_typing.specs.declared.fault.Place.{Place}
use Rattle.dir_typing.specs.declared.fault.Place.TheVariants as place
use Rattle.dir_typing.specs.declared.fault.TypeFault.{TypeFault}
use Rattle.dir_typing.specs.declared.selection.Family.{Family}
use Rattle.dir_typing.specs.Comparisons.{comparison_code}
use Rattle.dir_typing.specs.Selections.{selection_code, outputs_of, first_family}

-- the fault with this code at a place, where there is a code
abbrev pub fault_at : Option ℕ → Place → Option ℕ → List TypeFault
fault_at rule place None = []
fault_at rule place (Some code) = record { rule = rule; place = place; code = code } ∷ []

-- the faults of things in a row, the first of which has this number
unfoldable pub numbered : {X : Type 0} → (ℕ → X → List TypeFault) → ℕ → List X → List TypeFault
numbered faults n [] = []
numbered faults n (x ∷ xs) = faults n x ++ numbered faults (n + 1) xs

-- the fault of a rule's comparison with a number, where there is one
abbrev pub comparison_faults : Table → ℕ → ℕ → Comparison → List TypeFault
comparison_faults table rule n c = fault_at (Some rule) (place.Comparison n) (comparison_code table c)

-- A rule's faults: that of its selection, and then those of its comparisons in preorder, with numbers from 0.
abbrev pub rule_faults : Table → Option Family → ℕ → Rule → List TypeFault
rule_faults table first n rule =
    fault_at (Some n) place.Selection (selection_code true first rule.selection)
    ++ numbered (comparison_faults table n) 0 (comparisons_in rule.statements)

-- the fault of the default's selection, where there is one
abbrev pub default_faults : Option Family → Selection → List TypeFault
default_faults first selection = fault_at None place.Selection (selection_code false first selection)

-- All faults of a program: the default's, and then those of each rule. A selection or a comparison has at most one.
abbrev pub faults : Table → Program → List TypeFault
faults table program =
    let first = first_family (outputs_of program) in
    default_faults first program.default_selection ++ numbered (rule_faults table first) 0 program.rules
