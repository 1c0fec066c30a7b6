-- Going over a list, one item after another.
use Rattle.std.proofs.Common.{◌≡◌, ℕ, suc, ◌+◌, ◌<◌, ◌≤◌, List, [], ◌∷◌, ◌++◌, map, length, drop, get_or, Result, Ok, Err, refl, ap, sym, ◌∙◌, append_assoc, append-nil, add-one}
use Rattle.std.proofs.Math.Seq.{drop-cons}
use Rattle.std.proofs.lemmas.List.{drop_all}
use Rattle.serde_json.specs.View.{view}
use Rattle.serde_json.specs.declared.value.Value.{Value}
use Rattle.key_table.specs.declared.stop.Stop.{Stop}
use Rattle.key_table.specs.Answers.{◌>>=◌, Fails, fails_through}
use Rattle.json_shape.specs.declared.error.ShapeError.{ShapeError}
use Rattle.json_shape.specs.Paths.{item_step}
use Rattle.json_shape.specs.Each.{Reader, each}

-- the rest, behind what was read
abbrev pub behind : {X : Type 0} → List X → Result (List X) ShapeError → Result (List X) ShapeError
behind front rest = rest >>= λ xs. Ok (front ++ xs)

-- from the item i on
abbrev pub rest_of : {X : Type 0} → Reader X → List ℕ → ℕ → List Value → Result (List X) ShapeError
rest_of read path i nodes = each read path i (map view (drop i nodes))

joined : {X : Type 0} (front : List X) (x : X) (rest : Result (List X) ShapeError) → behind front (rest >>= λ xs. Ok (x ∷ xs)) ≡ behind (front ++ x ∷ []) rest
joined front x (Ok xs) = rw (append_assoc)
joined front x (Err e) = refl

opened : {X : Type 0} (read : Reader X) (path : List ℕ) (i : ℕ) (nodes : List Value) (v : Value) → i < length nodes → v ≡ get_or nodes i v
    → rest_of read path i nodes ≡ (read (item_step path i) (view v) >>= λ x. rest_of read path (i + 1) nodes >>= λ xs. Ok (x ∷ xs))
unfolding each
opened read path i nodes v within is =
    let e : drop i nodes ≡ v ∷ drop (i + 1) nodes = rw (add-one) (drop-cons nodes i v within ∙ ap (λ y. y ∷ drop (suc i) nodes) (sym is)) in
    ap (λ vs. each read path i (map view vs)) e

pub goes_on : {X : Type 0} (read : Reader X) (path : List ℕ) (i : ℕ) (nodes : List Value) (v : Value) (front : List X) (x : X) (at : List ℕ) (total : Result (List X) ShapeError)
    → i < length nodes → v ≡ get_or nodes i v → at ≡ item_step path i → read at (view v) ≡ Ok x
    → behind front (rest_of read path i nodes) ≡ total → behind (front ++ x ∷ []) (rest_of read path (i + 1) nodes) ≡ total
goes_on read path i nodes v front x at total within is here ok so_far =
    let done : read (item_step path i) (view v) ≡ Ok x = rw (← here) ok in
    sym (rw (opened read path i nodes v within is, done) (joined front x (rest_of read path (i + 1) nodes))) ∙ so_far

pub stops : {X : Type 0} (s : Stop ShapeError) (read : Reader X) (path : List ℕ) (i : ℕ) (nodes : List Value) (v : Value) (front : List X) (at : List ℕ) (total : Result (List X) ShapeError)
    → i < length nodes → v ≡ get_or nodes i v → at ≡ item_step path i → Fails s (read at (view v))
    → behind front (rest_of read path i nodes) ≡ total → Fails s total
stops s read path i nodes v front at total within is here fails so_far =
    fails_through s _ total (λ e err.
    let done : read (item_step path i) (view v) ≡ Err e = rw (← here) err in
    sym so_far ∙ rw (opened read path i nodes v within is, done)) fails

pub ends : {X : Type 0} (read : Reader X) (path : List ℕ) (i : ℕ) (nodes : List Value) (front : List X) (total : Result (List X) ShapeError) → length nodes ≤ i
    → behind front (rest_of read path i nodes) ≡ total → total ≡ Ok front
unfolding each
ends read path i nodes front total past so_far =
    sym so_far ∙ ap (λ vs. behind front (each read path i (map view vs))) (drop_all i nodes past) ∙ ap (λ ys. Ok ys) (append-nil front)
