-- What the problems of all targets share.
use Rattle.std.specs.Prelude.{◌≡◌, ◌<◌, List, length, map, true}
use Rattle.std.specs.List.{All}
use Rattle.key_table.specs.declared.atom.Atom.{Atom}
use Rattle.rule_problem.specs.Distinct.{are_distinct}
use Rattle.rule_report.specs.declared.shared.Shared.{Shared}
use Rattle.rule_report.specs.Paths.{Path}
use Rattle.rule_report.specs.Numbered.{rule_numbers, atoms_at, AreWithin}

-- the paths of each rule, by the atoms with the numbers
abbrev pub shared_paths : Shared → List (List Path)
shared_paths shared = map (λ rule. map (atoms_at shared.atoms.keys) (rule_numbers rule)) shared.rules

-- No atom stands twice, and each number is that of an atom.
pub record IsSound (shared : Shared) : Type 0 where
  pub distinct : are_distinct shared.atoms.keys ≡ true
  pub rules_within : All (λ rule. AreWithin shared.atoms.keys (rule_numbers rule)) shared.rules
  pub graph_within : All (λ number. number < length shared.atoms.keys) shared.graph_atoms

-- Rules with these paths and a graph with these atoms share it.
pub record IsSharedBy (rules : List (List Path)) (graph_atoms : List Atom) (shared : Shared) : Type 0 where
  pub sound : IsSound shared
  pub rules_are : shared_paths shared ≡ rules
  pub graph_is : atoms_at shared.atoms.keys shared.graph_atoms ≡ graph_atoms
