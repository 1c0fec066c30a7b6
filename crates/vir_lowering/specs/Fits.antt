-- The atoms of a valued program, and that each fits its table.
use Rattle.std.specs.Prelude.{◌≡◌, List, [], ◌++◌, true}
use Rattle.std.specs.List.{list_all, flat_map}
use Rattle.std.specs.Option.{option_map_or}
use Rattle.key_table.specs.declared.atom.Atom.{Atom}
use Rattle.key_table.specs.Atoms.{atom_fits}
use Rattle.dir_typing.specs.Typed.{Typed, IsTyped}
use Rattle.vir_lowering.specs.declared.vir.VirStatement.{VirStatement}
use Rattle.vir_lowering.specs.declared.vir.VirStatement.TheOpen.{VirStatement-F}
use Rattle.vir_lowering.specs.declared.vir.VirStatement.TheFolds.{fold-VirStatement}
use Rattle.vir_lowering.specs.declared.vir.VirRule.{VirRule}
use Rattle.vir_lowering.specs.Valued.{valued_rules}

-- what stands in a statement: its own atoms, and then for each nested statement what stands there
abbrev pub atoms_step : VirStatement-F (List Atom) → List Atom
atoms_step s = s.condition ++ option_map_or (flat_map (λ nested. nested)) s.nested []

-- The atoms of a statement in preorder: its own, then those of its nested statements.
abbrev pub atoms_of : VirStatement → List Atom
atoms_of = fold-VirStatement (List Atom) atoms_step

-- The atoms of rules, those of the first rule first.
abbrev pub atoms_in : List VirRule → List Atom
atoms_in rules = flat_map (λ (rule : VirRule). flat_map atoms_of rule.statements) rules

-- Each atom of a valued program fits its table.
abbrev pub AllFit : Typed → Type 0
AllFit p = list_all (atom_fits p.table) (atoms_in (valued_rules p)) ≡ true

-- So it is for every typed program.
abbrev pub FitsLaw : Type 0
FitsLaw = (p : Typed) → IsTyped p → AllFit p
