-- 'All' and 'some' of what holds or does not are those of every list.
use Rattle.std.specs.Prelude.{◌≡◌, List, [], ◌∷◌, Bool, ◌&&◌, ◌||◌}
use Rattle.std.specs.List.{list_any, list_all}
use Rattle.std.proofs.Common.{refl, ap}
use Rattle.constraint_graph.specs.Logics.{two_valued, every, some}

pub every_is_list_all : {X : Type 0} (f : X → Bool) (xs : List X) → every two_valued f xs ≡ list_all f xs
every_is_list_all f [] = refl
every_is_list_all f (x ∷ xs) = ap (λ b. f x && b) (every_is_list_all f xs)

pub some_is_list_any : {X : Type 0} (f : X → Bool) (xs : List X) → some two_valued f xs ≡ list_any f xs
some_is_list_any f [] = refl
some_is_list_any f (x ∷ xs) = ap (λ b. f x || b) (some_is_list_any f xs)
