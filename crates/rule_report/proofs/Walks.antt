-- Statements by their parts: the paths of a condition and of what is nested under it.
use Rattle.std.proofs.Common.{◌≡◌, ◌+◌, ◌<◌, ℕ, List, [], ◌∷◌, ◌++◌, length, map, take, get_or, Option, Some, None, slice_get, refl, ap, sym, subst, ◌∙◌}
use Rattle.std.specs.List.{All, flat_map}
use Rattle.std.proofs.lemmas.List.Elements.{All-head, All-get_or}
use Rattle.std.proofs.lemmas.List.{append_assoc, append-nil, map-append}
use Rattle.key_table.specs.declared.atom.Atom.{Atom}
use Rattle.vir_lowering.specs.declared.vir.VirStatement.{VirStatement}
use Rattle.vir_lowering.specs.declared.vir.VirStatement.TheViews.{out-VirStatement}
use Rattle.vir_lowering.specs.declared.vir.VirStatement.TheFolds.{fold_out-VirStatement, map-VirStatement}
use Rattle.rule_report.specs.declared.numbered.NumberedStatement.{NumberedStatement}
use Rattle.rule_report.specs.declared.numbered.NumberedStatement.TheViews.{out-NumberedStatement, roll-NumberedStatement}
use Rattle.rule_report.specs.declared.numbered.NumberedStatement.TheFolds.{fold_out-NumberedStatement, fold-roll-NumberedStatement, map-NumberedStatement}
use Rattle.rule_report.specs.Paths.{Path, behind, paths_step, statement_paths}
use Rattle.rule_report.specs.Numbered.{numbers_step, statement_numbers, rule_numbers, atoms_at, AreWithin, AreNumbersOf, ArePathsOf}
use Rattle.rule_report.proofs.Images.{relate, both, joined-map, flat_next}
use Rattle.rule_report.proofs.Alls.{each_flat}
use Rattle.rule_report.proofs.Growth.{some}

pub behind_behind : {X : Type 0} (above condition : List X) (paths : List (List X)) → behind above (behind condition paths) ≡ behind (above ++ condition) paths
behind_behind above condition [] = refl
behind_behind above condition (path ∷ paths) =
    ap (λ p. p ∷ behind above (behind condition paths)) (sym (append_assoc above condition path)) ∙ ap (λ r. ((above ++ condition) ++ path) ∷ r) (behind_behind above condition paths)

pub behind_none : {X : Type 0} (paths : List (List X)) → behind [] paths ≡ paths
behind_none [] = refl
behind_none (path ∷ paths) = ap (λ r. path ∷ r) (behind_none paths)

pub behind_flat : {X Y : Type 0} (above : List X) (f : Y → List (List X)) (ys : List Y) → behind above (flat_map f ys) ≡ flat_map (λ y. behind above (f y)) ys
behind_flat above f [] = refl
behind_flat above f (y ∷ ys) = map-append (λ path. above ++ path) (f y) (flat_map f ys) ∙ ap (λ r. behind above (f y) ++ r) (behind_flat above f ys)

-- the paths below a condition
abbrev pub paths_below : Option (List VirStatement) → List Path
paths_below None = [] ∷ []
paths_below (Some nested) = flat_map statement_paths nested

abbrev pub numbers_below : Option (List NumberedStatement) → List (List ℕ)
numbers_below None = [] ∷ []
numbers_below (Some nested) = rule_numbers nested

paths_level : (condition : Path) (nested : Option (List VirStatement))
    → paths_step (map-VirStatement VirStatement (List Path) statement_paths (record { condition = condition; nested = nested })) ≡ behind condition (paths_below nested)
paths_level condition None = refl
paths_level condition (Some nested) = ap (behind condition) (joined-map statement_paths nested)

pub paths_out : (s : VirStatement) → statement_paths s ≡ behind (out-VirStatement s).condition (paths_below (out-VirStatement s).nested)
paths_out s = fold_out-VirStatement (List Path) paths_step s ∙ paths_level (out-VirStatement s).condition (out-VirStatement s).nested

numbers_level : (condition : List ℕ) (nested : Option (List NumberedStatement))
    → numbers_step (map-NumberedStatement NumberedStatement (List (List ℕ)) statement_numbers (record { condition = condition; nested = nested })) ≡ behind condition (numbers_below nested)
numbers_level condition None = refl
numbers_level condition (Some nested) = ap (behind condition) (joined-map statement_numbers nested)

pub numbers_out : (s : NumberedStatement) → statement_numbers s ≡ behind (out-NumberedStatement s).condition (numbers_below (out-NumberedStatement s).nested)
numbers_out s = fold_out-NumberedStatement (List (List ℕ)) numbers_step s ∙ numbers_level (out-NumberedStatement s).condition (out-NumberedStatement s).nested

pub numbers_roll : (condition : List ℕ) (nested : Option (List NumberedStatement))
    → statement_numbers (roll-NumberedStatement (record { condition = condition; nested = nested })) ≡ behind condition (numbers_below nested)
numbers_roll condition None = fold-roll-NumberedStatement (List (List ℕ)) numbers_step (record { condition = condition; nested = None })
numbers_roll condition (Some nested) =
    fold-roll-NumberedStatement (List (List ℕ)) numbers_step (record { condition = condition; nested = Some nested }) ∙ ap (behind condition) (joined-map statement_numbers nested)

-- numbers in front of numbers are those of the atoms in front of the atoms
behind_right : (atoms : List Atom) (ns : List ℕ) (path : Path) (nss : List (List ℕ)) (paths : List Path) → AreNumbersOf atoms ns path → ArePathsOf atoms nss paths → ArePathsOf atoms (behind ns nss) (behind path paths)
behind_right atoms ns path nss paths h k =
    relate (map (slice_get atoms)) (map some) (λ rest. ns ++ rest) (λ rest. path ++ rest) (map (slice_get atoms)) (map some)
    (λ more rest e. both (slice_get atoms) some ns more path rest h e) nss paths k

-- a statement with a nested list by its numbers
pub nested_right : (atoms : List Atom) (ns : List ℕ) (numbered : List NumberedStatement) (s : VirStatement) (nested : List VirStatement) → (out-VirStatement s).nested ≡ Some nested
    → AreNumbersOf atoms ns (out-VirStatement s).condition → ArePathsOf atoms (rule_numbers numbered) (flat_map statement_paths nested)
    → ArePathsOf atoms (statement_numbers (roll-NumberedStatement (record { condition = ns; nested = Some numbered }))) (statement_paths s)
nested_right atoms ns numbered s nested is h k =
    ap (λ z. map (λ ns. map (slice_get atoms) ns) z) (numbers_roll ns (Some numbered))
    ∙ behind_right atoms ns (out-VirStatement s).condition (rule_numbers numbered) (flat_map statement_paths nested) h k
    ∙ sym (ap (map (map some)) (paths_out s ∙ ap (λ o. behind (out-VirStatement s).condition (paths_below o)) is))

-- what stands for a leaf behind the numbers above
pub leaf_walk : (above : List ℕ) (s : NumberedStatement) → (out-NumberedStatement s).nested ≡ None → behind above (statement_numbers s) ≡ (above ++ (out-NumberedStatement s).condition) ∷ []
leaf_walk above s is =
    ap (behind above) (numbers_out s ∙ ap (λ o. behind (out-NumberedStatement s).condition (numbers_below o)) is)
    ∙ behind_behind above (out-NumberedStatement s).condition ([] ∷ [])
    ∙ ap (λ p. p ∷ []) (append-nil (above ++ (out-NumberedStatement s).condition))

pub nested_walk : (above : List ℕ) (s : NumberedStatement) (nested : List NumberedStatement) → (out-NumberedStatement s).nested ≡ Some nested
    → behind above (statement_numbers s) ≡ behind (above ++ (out-NumberedStatement s).condition) (rule_numbers nested)
nested_walk above s nested is =
    ap (behind above) (numbers_out s ∙ ap (λ o. behind (out-NumberedStatement s).condition (numbers_below o)) is)
    ∙ behind_behind above (out-NumberedStatement s).condition (rule_numbers nested)

module _ (atoms : List Atom) (above here : List ℕ) (s : NumberedStatement) (whole : here ≡ above ++ (out-NumberedStatement s).condition) where
  pub leaf_is : (out-NumberedStatement s).nested ≡ None → behind above (statement_numbers s) ≡ here ∷ []
  leaf_is is = leaf_walk above s is ∙ ap (λ p. p ∷ []) (sym whole)

  pub nested_is : (nested : List NumberedStatement) → (out-NumberedStatement s).nested ≡ Some nested → behind above (statement_numbers s) ≡ behind here (rule_numbers nested)
  nested_is nested is = nested_walk above s nested is ∙ ap (λ z. behind z (rule_numbers nested)) (sym whole)

  pub leaf_within : (out-NumberedStatement s).nested ≡ None → AreWithin atoms (behind above (statement_numbers s)) → All (λ n. n < length atoms) here
  leaf_within is h =
      let P : ℕ → Type 0 = λ n. n < length atoms in
      let Q : List (List ℕ) → Type 0 = λ z. AreWithin atoms z in
      All-head (All P) here [] (subst Q (leaf_is is) h)

  pub nested_within : (nested : List NumberedStatement) → (out-NumberedStatement s).nested ≡ Some nested → AreWithin atoms (behind above (statement_numbers s)) → AreWithin atoms (behind here (rule_numbers nested))
  nested_within nested is h =
      let Q : List (List ℕ) → Type 0 = λ z. AreWithin atoms z in
      subst Q (nested_is nested is) h

-- the numbers of each statement are within
pub each_within : (atoms : List Atom) (above : List ℕ) (ss : List NumberedStatement) (i : ℕ) (s : NumberedStatement) → AreWithin atoms (behind above (rule_numbers ss)) → i < length ss → s ≡ get_or ss i s
    → AreWithin atoms (behind above (statement_numbers s))
each_within atoms above ss i s h less is =
    let Q : List (List ℕ) → Type 0 = λ z. AreWithin atoms z in
    let R : NumberedStatement → Type 0 = λ x. AreWithin atoms (behind above (statement_numbers x)) in
    subst R (sym is) (All-get_or R ss i s less (each_flat (λ path. All (λ n. n < length atoms) path) (λ x. behind above (statement_numbers x)) ss (subst Q (behind_flat above statement_numbers ss) h)))

-- what stands behind the numbers above for one more statement
pub walk_next : (atoms : List Atom) (above : List ℕ) (ss : List NumberedStatement) (i : ℕ) (s : NumberedStatement) → i < length ss → s ≡ get_or ss i s
    → map (atoms_at atoms) (behind above (rule_numbers (take (i + 1) ss))) ≡ map (atoms_at atoms) (behind above (rule_numbers (take i ss))) ++ map (atoms_at atoms) (behind above (statement_numbers s))
walk_next atoms above ss i s less is =
    ap (λ z. map (atoms_at atoms) (behind above z)) (flat_next statement_numbers ss i s less is)
    ∙ ap (map (atoms_at atoms)) (map-append (λ path. above ++ path) (rule_numbers (take i ss)) (statement_numbers s))
    ∙ map-append (atoms_at atoms) (behind above (rule_numbers (take i ss))) (behind above (statement_numbers s))
