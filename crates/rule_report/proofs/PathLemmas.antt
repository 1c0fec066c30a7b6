-- Some path of a statement has all its atoms true exactly where the statement holds, and each atom of a path is one of the statement.
use Rattle.std.proofs.Common.{◌≡◌, List, [], ◌∷◌, ◌++◌, map, Bool, true, false, ◌&&◌, ◌||◌, Option, Some, None, refl, ap, sym, subst, ◌∙◌}
use Rattle.std.specs.List.{list_any, list_all, flat_map}
use Rattle.std.proofs.lemmas.Bool.{and_parts, and_from}
use Rattle.std.proofs.lemmas.List.Folds.{list_any-append, list_all-append}
use Rattle.std.proofs.Math.Path.{fun_ext}
use Rattle.key_table.specs.declared.atom.Atom.{Atom}
use Rattle.key_table.specs.Payments.{Entries}
use Rattle.vir_lowering.specs.declared.vir.VirStatement.{VirStatement, roll-VirStatement}
use Rattle.vir_lowering.specs.declared.vir.VirStatement.TheFolds.{fold-roll-VirStatement, ind-VirStatement, map-VirStatement}
use Rattle.vir_lowering.specs.declared.vir.VirRule.{VirRule}
use Rattle.vir_lowering.specs.Decisions.{holds_step, statement_holds, rule_matches}
use Rattle.vir_lowering.specs.Fits.{atoms_step, atoms_of, atoms_in}
use Rattle.rule_report.specs.Paths.{Path, joined, behind, paths_step, statement_paths, rule_paths}
use Rattle.rule_report.proofs.Places.{list_any-flat_map}
use Rattle.rule_report.proofs.Said.{says_on}

-- a condition in front of each path
in_front : (says : Atom → Bool) (condition : Path) (paths : List Path) → list_any (list_all says) (behind condition paths) ≡ (list_all says condition && list_any (list_all says) paths)
in_front says condition [] = elim (list_all says condition) as (λ b. false ≡ (b && false)) [ true ↦ refl | false ↦ refl ]
in_front says condition (path ∷ paths) =
    ap (λ b. b || list_any (list_all says) (behind condition paths)) (list_all-append says condition path)
    ∙ ap (λ b. (list_all says condition && list_all says path) || b) (in_front says condition paths)
    ∙ share (list_all says condition) (list_all says path) (list_any (list_all says) paths)
  where
    share : (a b c : Bool) → ((a && b) || (a && c)) ≡ (a && (b || c))
    share true b c = refl
    share false b c = refl

module _ (payment : Entries) where
  abbrev true_path : Path → Bool
  true_path = list_all (says_on payment)

  abbrev Agrees : VirStatement → Type 0
  Agrees s = list_any true_path (statement_paths s) ≡ statement_holds payment s

  abbrev Agreeing : Type 0
  Agreeing = (s : VirStatement) × Agrees s

  each : (nested : List Agreeing) → list_any true_path (joined (map statement_paths (map (λ e. e.0) nested))) ≡ list_any (λ b. b) (map (statement_holds payment) (map (λ e. e.0) nested))
  each [] = refl
  each (e ∷ es) =
      list_any-append true_path (statement_paths e.0) (joined (map statement_paths (map (λ e. e.0) es)))
      ∙ ap (λ b. b || list_any true_path (joined (map statement_paths (map (λ e. e.0) es)))) e.1
      ∙ ap (λ b. statement_holds payment e.0 || b) (each es)

  level : (condition : Path) (nested : Option (List Agreeing)) → Agrees (roll-VirStatement (map-VirStatement Agreeing VirStatement (λ e. e.0) (record { condition = condition; nested = nested })))
  level condition None =
      ap (list_any true_path) (fold-roll-VirStatement (List Path) paths_step (record { condition = condition; nested = None }))
      ∙ in_front (says_on payment) condition ([] ∷ [])
      ∙ sym (fold-roll-VirStatement Bool (holds_step payment) (record { condition = condition; nested = None }))
  level condition (Some nested) =
      ap (list_any true_path) (fold-roll-VirStatement (List Path) paths_step (record { condition = condition; nested = Some (map (λ e. e.0) nested) }))
      ∙ in_front (says_on payment) condition (joined (map statement_paths (map (λ e. e.0) nested)))
      ∙ ap (λ b. list_all (says_on payment) condition && b) (each nested)
      ∙ sym (fold-roll-VirStatement Bool (holds_step payment) (record { condition = condition; nested = Some (map (λ e. e.0) nested) }))

  statement_agrees : (s : VirStatement) → Agrees s
  statement_agrees = ind-VirStatement Agrees (λ x y is. subst (λ z. Agrees (roll-VirStatement z)) is (level y.condition y.nested))

  pub rule_agrees : (rule : VirRule) → list_any true_path (rule_paths rule) ≡ rule_matches payment rule
  rule_agrees rule = list_any-flat_map true_path statement_paths rule.statements ∙ ap (λ f. list_any f rule.statements) (fun_ext statement_agrees)

pass_joined : {X : Type 0} (p : X → Bool) (xs ys : List X) → list_all p xs ≡ true → list_all p ys ≡ true → list_all p (xs ++ ys) ≡ true
pass_joined p xs ys h k = list_all-append p xs ys ∙ and_from (list_all p xs) (list_all p ys) h k

pass_left : {X : Type 0} (p : X → Bool) (xs ys : List X) → list_all p (xs ++ ys) ≡ true → list_all p xs ≡ true
pass_left p xs ys h = (and_parts (list_all p xs) (list_all p ys) (sym (list_all-append p xs ys) ∙ h)).0

pub pass_right : {X : Type 0} (p : X → Bool) (xs ys : List X) → list_all p (xs ++ ys) ≡ true → list_all p ys ≡ true
pass_right p xs ys h = (and_parts (list_all p xs) (list_all p ys) (sym (list_all-append p xs ys) ∙ h)).1

-- What all atoms of a statement pass, all atoms of each of its paths pass.
module _ (p : Atom → Bool) where
  abbrev Passing : VirStatement → Type 0
  Passing s = list_all p (atoms_of s) ≡ true → list_all (list_all p) (statement_paths s) ≡ true

  abbrev Passers : Type 0
  Passers = (s : VirStatement) × Passing s

  pass_front : (condition : Path) (paths : List Path) → list_all p condition ≡ true → list_all (list_all p) paths ≡ true → list_all (list_all p) (behind condition paths) ≡ true
  pass_front condition [] h k = refl
  pass_front condition (path ∷ paths) h k =
      let parts = and_parts (list_all p path) (list_all (list_all p) paths) k in
      and_from (list_all p (condition ++ path)) (list_all (list_all p) (behind condition paths)) (pass_joined p condition path h parts.0) (pass_front condition paths h parts.1)

  pass_each : (nested : List Passers) → list_all p (flat_map (λ atoms. atoms) (map atoms_of (map (λ e. e.0) nested))) ≡ true → list_all (list_all p) (joined (map statement_paths (map (λ e. e.0) nested))) ≡ true
  pass_each [] h = refl
  pass_each (e ∷ es) h =
      let rest = flat_map (λ atoms. atoms) (map atoms_of (map (λ e. e.0) es)) in
      pass_joined (list_all p) (statement_paths e.0) (joined (map statement_paths (map (λ e. e.0) es))) (e.1 (pass_left p (atoms_of e.0) rest h)) (pass_each es (pass_right p (atoms_of e.0) rest h))

  pass_level : (condition : Path) (nested : Option (List Passers)) → Passing (roll-VirStatement (map-VirStatement Passers VirStatement (λ e. e.0) (record { condition = condition; nested = nested })))
  pass_level condition None h =
      ap (list_all (list_all p)) (fold-roll-VirStatement (List Path) paths_step (record { condition = condition; nested = None }))
      ∙ pass_front condition ([] ∷ []) (pass_left p condition [] (sym (ap (list_all p) (fold-roll-VirStatement (List Atom) atoms_step (record { condition = condition; nested = None }))) ∙ h)) refl
  pass_level condition (Some nested) h =
      let all = sym (ap (list_all p) (fold-roll-VirStatement (List Atom) atoms_step (record { condition = condition; nested = Some (map (λ e. e.0) nested) }))) ∙ h in
      let rest = flat_map (λ atoms. atoms) (map atoms_of (map (λ e. e.0) nested)) in
      ap (list_all (list_all p)) (fold-roll-VirStatement (List Path) paths_step (record { condition = condition; nested = Some (map (λ e. e.0) nested) }))
      ∙ pass_front condition (joined (map statement_paths (map (λ e. e.0) nested))) (pass_left p condition rest all) (pass_each nested (pass_right p condition rest all))

  statement_passes : (s : VirStatement) → Passing s
  statement_passes = ind-VirStatement Passing (λ x y is. subst (λ z. Passing (roll-VirStatement z)) is (pass_level y.condition y.nested))

  statements_pass : (ss : List VirStatement) → list_all p (flat_map atoms_of ss) ≡ true → list_all (list_all p) (flat_map statement_paths ss) ≡ true
  statements_pass [] h = refl
  statements_pass (s ∷ ss) h =
      pass_joined (list_all p) (statement_paths s) (flat_map statement_paths ss) (statement_passes s (pass_left p (atoms_of s) (flat_map atoms_of ss) h)) (statements_pass ss (pass_right p (atoms_of s) (flat_map atoms_of ss) h))

  -- so it is for rules
  pub rules_pass : (rules : List VirRule) → list_all p (atoms_in rules) ≡ true → list_all (list_all (list_all p)) (map rule_paths rules) ≡ true
  rules_pass [] h = refl
  rules_pass (rule ∷ rules) h =
      and_from (list_all (list_all p) (rule_paths rule)) (list_all (list_all (list_all p)) (map rule_paths rules))
      (statements_pass rule.statements (pass_left p (flat_map atoms_of rule.statements) (atoms_in rules) h)) (rules_pass rules (pass_right p (flat_map atoms_of rule.statements) (atoms_in rules) h))

  pub pass_flat : (paths : List Path) → list_all (list_all p) paths ≡ true → list_all p (joined paths) ≡ true
  pass_flat [] h = refl
  pass_flat (path ∷ paths) h = let parts = and_parts (list_all p path) (list_all (list_all p) paths) h in pass_joined p path (joined paths) parts.0 (pass_flat paths parts.1)

  pub pass_flat_rules : (rules : List (List Path)) → list_all (list_all (list_all p)) rules ≡ true → list_all (list_all p) (joined rules) ≡ true
  pass_flat_rules [] h = refl
  pass_flat_rules (rule ∷ rules) h = let parts = and_parts (list_all (list_all p) rule) (list_all (list_all (list_all p)) rules) h in pass_joined (list_all p) rule (joined rules) parts.0 (pass_flat_rules rules parts.1)

pub pass_both : {X : Type 0} (p : X → Bool) (xs ys : List X) → list_all p xs ≡ true → list_all p ys ≡ true → list_all p (xs ++ ys) ≡ true
pass_both p xs ys h k = pass_joined p xs ys h k
