-- The items of an array.
use Rattle.std.proofs.Common.{◌≡◌, ℕ, ◌<◌, ◌≤◌, List, [], ◌∷◌, map, length, leb, Some, Ok, Err, refl, ap, ◌∙◌}
use Rattle.std.proofs.lemmas.Bool.{cond-true, cond-false, le-leb, lt-leb}
use Rattle.std.proofs.lemmas.List.{length-map}
use Rattle.serde_json.specs.Data.{Data}
use Rattle.serde_json.specs.Find.{as_array}
use Rattle.serde_json.specs.View.{view, items_view}
use Rattle.serde_json.specs.declared.value.Value.{Value}
use Rattle.json_shape.specs.Paths.{fault}
use Rattle.json_shape.specs.Shapes.{listed, list_of, within}

listed-view : (vs : List Value) → listed (items_view vs) ≡ map view vs
listed-view [] = refl
listed-view (v ∷ vs) = ap (λ ds. view v ∷ ds) (listed-view vs)

list_of-is : (path : List ℕ) (most : ℕ) (d : Data) (vs : List Value) → as_array d ≡ Some (items_view vs) → list_of path most d ≡ within path most (map view vs)
list_of-is path most d vs is = rw is (ap (λ ds. within path most ds) (listed-view vs))

pub list_of_long : (path : List ℕ) (most : ℕ) (d : Data) (vs : List Value) → as_array d ≡ Some (items_view vs) → most < length vs → list_of path most d ≡ Err (fault 5 path)
list_of_long path most d vs is long = list_of-is path most d vs is ∙ cond-false (leb (length (map view vs)) most) (Ok (map view vs)) (Err (fault 5 path)) (lt-leb _ _ (rw (length-map) long))

pub list_of_fits : (path : List ℕ) (most : ℕ) (d : Data) (vs : List Value) → as_array d ≡ Some (items_view vs) → length vs ≤ most → list_of path most d ≡ Ok (map view vs)
list_of_fits path most d vs is fits = list_of-is path most d vs is ∙ cond-true (leb (length (map view vs)) most) (Ok (map view vs)) (Err (fault 5 path)) (le-leb _ _ (rw (length-map) fits))
