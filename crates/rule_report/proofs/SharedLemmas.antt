-- What is shared, as it is made.
use Rattle.std.proofs.Common.{◌≡◌, ℕ, ◌<◌, List, [], ◌∷◌, length, map, true, Some, refl, ap, sym, ◌∙◌, subst, slice_get}
use Rattle.std.specs.List.{All, cons_option}
use Rattle.std.proofs.lemmas.Option.{slice_get_within}
use Rattle.key_table.specs.declared.atom.Atom.{Atom}
use Rattle.rule_problem.specs.Distinct.{are_distinct}
use Rattle.rule_report.specs.declared.shared.Shared.{Shared}
use Rattle.rule_report.specs.Paths.{Path}
use Rattle.rule_report.specs.Numbered.{rule_numbers, atoms_at, AreWithin, AreNumbersOf, ArePathsOf, AreRulesOf, IsGrown}
use Rattle.rule_report.specs.Shared.{IsSharedBy}
use Rattle.rule_report.proofs.Alls.{from_map}
use Rattle.rule_report.proofs.Growth.{some, grown_then, rules_kept}
use Rattle.rule_report.proofs.Images.{gives, all_of, fused}
use Rattle.rule_report.proofs.Once.{SameLaw, distinct_grown}

found : (atoms : List Atom) (ns : List ℕ) (path : Path) → AreNumbersOf atoms ns path → atoms_at atoms ns ≡ path
found atoms [] [] h = refl
found atoms [] (a ∷ path) h = cc
found atoms (n ∷ ns) [] h = cc
found atoms (n ∷ ns) (a ∷ path) h =
    let head : slice_get atoms n ≡ Some a = cc in
    let tail : AreNumbersOf atoms ns path = cc in
    ap (λ o. cons_option o (atoms_at atoms ns)) head ∙ ap (λ z. a ∷ z) (found atoms ns path tail)

paths_found : (atoms : List Atom) (nss : List (List ℕ)) (paths : List Path) → ArePathsOf atoms nss paths → map (atoms_at atoms) nss ≡ paths
paths_found atoms nss paths h = gives (map (slice_get atoms)) (map some) (atoms_at atoms) (found atoms) nss paths h

abbrev Within : List Atom → ℕ → Type 0
Within atoms n = n < length atoms

numbers_within : (atoms : List Atom) (ns : List ℕ) (path : Path) → AreNumbersOf atoms ns path → All (Within atoms) ns
numbers_within atoms ns path h = all_of (slice_get atoms) some (Within atoms) (λ n a e. slice_get_within atoms n a e) ns path h

paths_within : (atoms : List Atom) (nss : List (List ℕ)) (paths : List Path) → ArePathsOf atoms nss paths → AreWithin atoms nss
paths_within atoms nss paths h = all_of (map (slice_get atoms)) (map some) (All (Within atoms)) (numbers_within atoms) nss paths h

-- all rules first, and then the graph
pub shared_is : SameLaw → (rules : List (List Path)) (graph_atoms : List Atom) (s : Shared) (mid : List Atom) → IsGrown [] mid → AreRulesOf mid (map rule_numbers s.rules) rules
    → IsGrown mid s.atoms.keys → AreNumbersOf s.atoms.keys s.graph_atoms graph_atoms → IsSharedBy rules graph_atoms s
shared_is law rules graph_atoms s mid first right later graph =
    let whole = grown_then [] mid s.atoms.keys first later in
    let kept = rules_kept mid s.atoms.keys later (map rule_numbers s.rules) rules right in
    record {
      sound = record {
        distinct = subst (λ z. are_distinct z ≡ true) (sym whole.1) (distinct_grown law [] whole.0 refl);
        rules_within = from_map (AreWithin s.atoms.keys) rule_numbers s.rules
            (all_of (map (map (slice_get s.atoms.keys))) (map (map some)) (AreWithin s.atoms.keys) (paths_within s.atoms.keys) (map rule_numbers s.rules) rules kept);
        graph_within = numbers_within s.atoms.keys s.graph_atoms graph_atoms graph;
      };
      rules_are = sym (fused (map (atoms_at s.atoms.keys)) rule_numbers s.rules)
          ∙ gives (map (map (slice_get s.atoms.keys))) (map (map some)) (map (atoms_at s.atoms.keys)) (paths_found s.atoms.keys) (map rule_numbers s.rules) rules kept;
      graph_is = found s.atoms.keys s.graph_atoms graph_atoms graph;
    }
