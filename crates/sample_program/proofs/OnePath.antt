-- A rule that is made so has one path, whose atoms are few.
use Rattle.std.proofs.Common.{◌≡◌, List, [], ◌∷◌, ◌++◌, append-nil, map, Bool, true, false, cond, None, ap, ◌∙◌}
use Rattle.std.specs.List.{AllByRecursion, flat_map, filter}
use Rattle.key_table.specs.declared.atom.Atom.{Atom}
use Rattle.key_table.specs.declared.slot.Slot.{Slot}
use Rattle.key_table.specs.BuiltIn.{built_in}
use Rattle.euclid_ast.specs.declared.statement.Comparison.{Comparison}
use Rattle.euclid_ast.specs.declared.statement.Statement.TheFolds.{fold-roll-Statement}
use Rattle.euclid_ast.specs.declared.program.Rule.{Rule}
use Rattle.dir_typing.specs.declared.dir.DirStatement.{DirStatement}
use Rattle.dir_typing.specs.declared.dir.DirStatement.TheFolds.{fold-roll-DirStatement}
use Rattle.dir_typing.specs.Numbered.{comparison_of, statement_step, statement_of, rule_of}
use Rattle.vir_lowering.specs.declared.vir.VirStatement.{VirStatement, roll-VirStatement}
use Rattle.vir_lowering.specs.declared.vir.VirStatement.TheFolds.{fold-roll-VirStatement}
use Rattle.vir_lowering.specs.Atoms.{atom_of}
use Rattle.vir_lowering.specs.Grouped.{is_slot, atoms_at, slots_of, grouped}
use Rattle.vir_lowering.specs.Valued.{valued_step, valued_statement, valued_rule}
use Rattle.rule_report.specs.Paths.{Path, paths_step, statement_paths, rule_paths}
use Rattle.sample_program.specs.Programs.{statement}
use Rattle.sample_program.proofs.Alls.{Among, all_joined, all_append}
use Rattle.sample_program.proofs.Fine.{IsFine, atoms}
use Rattle.sample_program.proofs.Made.{IsMade}

-- Paths of which there is one, whose atoms are few.
pub record IsOnePath (paths : List Path) : Type 0 where
  pub path : Path
  pub one : paths ≡ path ∷ []
  pub few : AllByRecursion (Among atoms) path

-- the atoms of comparisons, and these by their slots
abbrev atoms_of_all : List Comparison → List Atom
atoms_of_all cs = map atom_of (map (comparison_of built_in) cs)

valued_alone : (cs : List Comparison) → valued_statement (statement_of built_in (statement cs)) ≡ roll-VirStatement (record { condition = grouped (atoms_of_all cs); nested = None })
valued_alone cs =
    ap valued_statement (fold-roll-Statement DirStatement (statement_step built_in) (record { condition = cs; nested = None }))
    ∙ fold-roll-DirStatement VirStatement valued_step (record { condition = map (comparison_of built_in) cs; nested = None })

paths_alone : (cs : List Comparison) → statement_paths (valued_statement (statement_of built_in (statement cs))) ≡ (grouped (atoms_of_all cs) ++ []) ∷ []
paths_alone cs = ap statement_paths (valued_alone cs) ∙ fold-roll-VirStatement (List Path) paths_step (record { condition = grouped (atoms_of_all cs); nested = None })

all_filtered : {X : Type 0} (P : X → Type 0) (p : X → Bool) (xs : List X) → AllByRecursion P xs → AllByRecursion P (filter p xs)
all_filtered P p [] all = tt
all_filtered P p (x ∷ xs) all = elim (p x) as (λ (b : Bool). AllByRecursion P (cond b (x ∷ filter p xs) (filter p xs))) [
  | true ↦ (all.0, all_filtered P p xs all.1)
  | false ↦ all_filtered P p xs all.1
]

each_slot : (P : Atom → Type 0) (xs : List Atom) (slots : List Slot) → AllByRecursion P xs → AllByRecursion (λ slot. AllByRecursion P (atoms_at xs slot)) slots
each_slot P xs [] all = tt
each_slot P xs (s ∷ slots) all = (all_filtered P (λ (a : Atom). is_slot a.slot s) xs all, each_slot P xs slots all)

all_grouped : (P : Atom → Type 0) (xs : List Atom) → AllByRecursion P xs → AllByRecursion P (grouped xs)
all_grouped P xs all = all_joined P (atoms_at xs) (slots_of xs) (each_slot P xs (slots_of xs) all)

fine_few : (cs : List Comparison) → AllByRecursion IsFine cs → AllByRecursion (Among atoms) (atoms_of_all cs)
fine_few [] fine = tt
fine_few (c ∷ cs) fine = (fine.0.atom, fine_few cs fine.1)

pub one_path : (r : Rule) → IsMade r → IsOnePath (rule_paths (valued_rule (rule_of built_in r)))
one_path r made = record {
  path = grouped (atoms_of_all made.comparisons) ++ [];
  one =
      ap (λ ss. flat_map statement_paths (map valued_statement (map (statement_of built_in) ss))) made.statements
      ∙ append-nil (statement_paths (valued_statement (statement_of built_in (statement made.comparisons))))
      ∙ paths_alone made.comparisons;
  few = all_append (Among atoms) (grouped (atoms_of_all made.comparisons)) [] (all_grouped (Among atoms) (atoms_of_all made.comparisons) (fine_few made.comparisons made.fine)) tt;
}

pub one_path_each : (rs : List Rule) → AllByRecursion IsMade rs → AllByRecursion IsOnePath (map rule_paths (map valued_rule (map (rule_of built_in) rs)))
one_path_each [] made = tt
one_path_each (r ∷ rs) made = (one_path r made.0, one_path_each rs made.1)
