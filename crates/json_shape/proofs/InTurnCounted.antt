-- Going over a list and counting, one item after another.
use Rattle.std.proofs.Common.{◌≡◌, ℕ, suc, ◌+◌, ◌<◌, ◌≤◌, List, [], ◌∷◌, ◌++◌, map, length, drop, get_or, Result, Ok, Err, refl, ap, sym, ◌∙◌, append_assoc, append-nil, add-one}
use Rattle.std.proofs.Math.Seq.{drop-cons}
use Rattle.std.proofs.lemmas.List.{drop_all}
use Rattle.serde_json.specs.View.{view}
use Rattle.serde_json.specs.declared.value.Value.{Value}
use Rattle.key_table.specs.declared.stop.Stop.{Stop}
use Rattle.key_table.specs.Answers.{Fails, fails_through}
use Rattle.json_shape.specs.declared.error.ShapeError.{ShapeError}
use Rattle.json_shape.specs.Paths.{item_step}
use Rattle.json_shape.specs.Counted.{Reading, ◌>>=◌, pure, Reader, each}

-- the rest, behind what was read
abbrev pub behind : {S X : Type 0} → List X → Reading S (List X) → Reading S (List X)
behind front rest = rest >>= λ xs. pure (front ++ xs)

-- from the item i on
abbrev pub rest_of : {S X : Type 0} → Reader S X → List ℕ → ℕ → List Value → Reading S (List X)
rest_of read path i nodes = each read path i (map view (drop i nodes))

abbrev Outcome : Type 0 → Type 0 → Type 0
Outcome S X = Result (X × S) ShapeError

regroup : {S X : Type 0} (front : List X) (x : X) (n : S) (r : Outcome S (List X)) → behind front ((λ _. r) >>= λ xs. pure (x ∷ xs)) n ≡ behind (front ++ x ∷ []) (λ _. r) n
regroup front x n (Ok y) = rw (append_assoc)
regroup front x n (Err e) = refl

opened : {S X : Type 0} (read : Reader S X) (path : List ℕ) (i : ℕ) (nodes : List Value) (v : Value) → i < length nodes → v ≡ get_or nodes i v
    → rest_of read path i nodes ≡ (read (item_step path i) (view v) >>= λ x. rest_of read path (i + 1) nodes >>= λ xs. pure (x ∷ xs))
unfolding each
opened read path i nodes v within is =
    let e : drop i nodes ≡ v ∷ drop (i + 1) nodes = rw (add-one) (drop-cons nodes i v within ∙ ap (λ y. y ∷ drop (suc i) nodes) (sym is)) in
    ap (λ vs. each read path i (map view vs)) e

pub goes_on : {S X : Type 0} (read : Reader S X) (path : List ℕ) (i : ℕ) (nodes : List Value) (v : Value) (front : List X) (x : X) (at : List ℕ) (n m : S) (total : Outcome S (List X))
    → i < length nodes → v ≡ get_or nodes i v → at ≡ item_step path i → read at (view v) n ≡ Ok (x, m)
    → behind front (rest_of read path i nodes) n ≡ total → behind (front ++ x ∷ []) (rest_of read path (i + 1) nodes) m ≡ total
goes_on read path i nodes v front x at n m total within is here ok so_far =
    let done : read (item_step path i) (view v) n ≡ Ok (x, m) = rw (← here) ok in
    sym (rw (opened read path i nodes v within is, done) (regroup front x m (rest_of read path (i + 1) nodes m))) ∙ so_far

pub stops : {S X : Type 0} (stop : Stop ShapeError) (read : Reader S X) (path : List ℕ) (i : ℕ) (nodes : List Value) (v : Value) (front : List X) (at : List ℕ) (n : S) (total : Outcome S (List X))
    → i < length nodes → v ≡ get_or nodes i v → at ≡ item_step path i → Fails stop (read at (view v) n)
    → behind front (rest_of read path i nodes) n ≡ total → Fails stop total
stops stop read path i nodes v front at n total within is here fails so_far =
    fails_through stop _ total (λ e err.
    let done : read (item_step path i) (view v) n ≡ Err e = rw (← here) err in
    sym so_far ∙ rw (opened read path i nodes v within is, done)) fails

pub ends : {S X : Type 0} (read : Reader S X) (path : List ℕ) (i : ℕ) (nodes : List Value) (front : List X) (n : S) (total : Outcome S (List X)) → length nodes ≤ i
    → behind front (rest_of read path i nodes) n ≡ total → total ≡ Ok (front, n)
unfolding each
ends read path i nodes front n total past so_far =
    sym so_far ∙ ap (λ vs. behind front (each read path i (map view vs)) n) (drop_all i nodes past) ∙ ap (λ (ys : List _). Ok (ys, n)) (append-nil front)
