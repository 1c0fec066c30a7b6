use Rattle.std.proofs.Common.{◌≡◌, ◌++◌, ◌∷◌, [], take, drop, string_bytes}
use Rattle.std.specs.List.{flat_map, AllByRecursion}
use Rattle.certificate_text.specs.CodeValues.{IsAtom}
use Rattle.certificate_text.specs.Texts.{atom_line}
use Rattle.certificate_text.proofs.write.put_atoms.Given as goal

abbrev pub invariant-loop-atom : goal.invariant-loop-atom
invariant-loop-atom l = (string_bytes l.out ++ flat_map (λ a. atom_line l.table a ++ 10 ∷ []) (drop l.atom-index l.atoms) ≡ string_bytes l.fn.out ++ flat_map (λ a. atom_line l.table a ++ 10 ∷ []) l.atoms) × AllByRecursion IsAtom (take l.atom-index l.atoms)
