-- What may be wrong with a selection.
use Rattle.std.specs.Prelude.{ℕ, List, [], ◌∷◌, map, Bool, true, false, not, ◌&&◌, ◌==◌, Option, Some, None}
use Rattle.std.specs.List.{sum_by}
use Rattle.std.specs.Option.{option_map_or}
use Rattle.euclid_ast.specs.declared.selection.Share.{Share}
use Rattle.euclid_ast.specs.declared.selection.Selection.{Selection}
use Rattle.euclid_ast.specs.declared.selection.Selection.TheVariants.{Priority, Volume, SurchargeFixed, SurchargeRate, Auth, Nothing}
use Rattle.euclid_ast.specs.declared.program.Rule.{Rule}
use Rattle.euclid_ast.specs.declared.program.Program.{Program}
use Rattle.dir_typing.specs.declared.selection.Family.{Family}
use Rattle.dir_typing.specs.declared.selection.Family.TheVariants as family
use Rattle.dir_typing.specs.Comparisons.{first_code}

-- What a selection is about. Nothing has no family.
abbrev pub family_of : Selection → Option Family
family_of (Priority accounts) = Some family.Routing
family_of (Volume shares) = Some family.Routing
family_of (SurchargeFixed amount) = Some family.Surcharge
family_of (SurchargeRate points) = Some family.Surcharge
family_of (Auth auth) = Some family.ThreeDs
family_of Nothing = None

-- what a program gives, the default's selection first
abbrev pub outputs_of : Program → List Selection
outputs_of program = program.default_selection ∷ map (λ (rule : Rule). rule.selection) program.rules

-- the first value that is there
abbrev pub first_there : {X : Type 0} → List (Option X) → Option X
first_there [] = None
first_there (None ∷ xs) = first_there xs
first_there (Some x ∷ xs) = Some x

-- the family of the first output that has one
abbrev pub first_family : List Selection → Option Family
first_family selections = first_there (map family_of selections)

-- whether two families are one
abbrev pub same_family : Family → Family → Bool
same_family family.Routing family.Routing = true
same_family family.Surcharge family.Surcharge = true
same_family family.ThreeDs family.ThreeDs = true
same_family _ _ = false

-- a priority or volume list without items
abbrev pub is_empty_list : Selection → Bool
is_empty_list (Priority []) = true
is_empty_list (Volume []) = true
is_empty_list _ = false

-- a volume list that isn't empty, and whose splits don't add up to 100
abbrev pub misses_100 : Selection → Bool
misses_100 (Volume (share ∷ shares)) = not (sum_by (λ (s : Share). s.split) (share ∷ shares) == 100)
misses_100 _ = false

-- a family, and another than the first
abbrev pub differs : Option Family → Selection → Bool
differs None selection = false
differs (Some first) selection = option_map_or (λ f. not (same_family first f)) (family_of selection) false

-- The first that applies: 5 a rule's list is empty, 6 splits don't add up to 100, 7 the family differs from the first.
abbrev pub selection_code : Bool → Option Family → Selection → Option ℕ
selection_code in_rule first selection = first_code (
    (5, in_rule && is_empty_list selection)
    ∷ (6, misses_100 selection)
    ∷ (7, differs first selection)
    ∷ [])
