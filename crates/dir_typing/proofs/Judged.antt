-- The first fault of things in a row.
use Rattle.std.proofs.Common.{◌≡◌, ℕ, suc, ◌+◌, ◌<◌, ◌≤◌, List, [], ◌∷◌, ◌++◌, map, length, drop, take, get_or, Ok, Err, refl, ap, sym, ◌∙◌, append_assoc, append-nil, arith, rules, add-one}
use Rattle.std.proofs.Math.Seq.{drop-cons}
use Rattle.std.proofs.lemmas.List.{take-append-drop, length-take-le, take_more, map_more, flat_map_more}
use Rattle.std.proofs.lemmas.List.Concat.{flat_map-append}
use Rattle.std.specs.List.{flat_map}
use Rattle.key_table.specs.declared.stop.Stop.{Stop}
use Rattle.key_table.specs.Answers.{Fails, fails_through}
use Rattle.dir_typing.specs.declared.fault.TypeFault.{TypeFault}
use Rattle.dir_typing.specs.Faults.{numbered}
use Rattle.dir_typing.specs.Typed.{judged}

-- the faults of a thing with a number
abbrev Judge : Type 0 → Type 0
Judge X = ℕ → X → List TypeFault

-- an empty row has no fault
pub numbered-none : {X : Type 0} (f : Judge X) (n : ℕ) → numbered f n [] ≡ []
unfolding numbered
numbered-none f n = refl

-- the faults of a row are those of its front, and then those of its rest
pub numbered-append : {X : Type 0} (f : Judge X) (n : ℕ) (xs ys : List X) → numbered f n (xs ++ ys) ≡ numbered f n xs ++ numbered f (n + length xs) ys
unfolding numbered
numbered-append f n [] ys = let e : n ≡ n + 0 = omega arith in ap (λ k. numbered f k ys) e
numbered-append f n (x ∷ xs) ys =
    let e : n + 1 + length xs ≡ n + suc (length xs) = omega arith in
    ap (λ fs. f n x ++ fs) (numbered-append f (n + 1) xs ys ∙ ap (λ k. numbered f (n + 1) xs ++ numbered f k ys) e)
    ∙ sym (append_assoc (f n x) (numbered f (n + 1) xs) (numbered f (n + suc (length xs)) ys))

-- the faults of one thing
pub numbered-one : {X : Type 0} (f : Judge X) (n : ℕ) (x : X) → numbered f n (x ∷ []) ≡ f n x
unfolding numbered
numbered-one f n x = append-nil (f n x)

-- What is judged to be a value has no fault.
pub judged-Ok : {X : Type 0} (faults : List TypeFault) (x y : X) → judged faults x ≡ Ok y → (faults ≡ []) × (x ≡ y)
judged-Ok [] x y is = (refl, search (rules, is))
judged-Ok (fault ∷ faults) x y is = search (rules, is)

-- What is judged to be a fault begins with it.
pub judged-Err : {X : Type 0} (faults : List TypeFault) (x : X) (e : TypeFault) → judged faults x ≡ Err e → (rest : List TypeFault) × (faults ≡ e ∷ rest)
judged-Err [] x e is = search (rules, is)
judged-Err (fault ∷ faults) x e is = (faults, search (rules, is))

-- A part of a row is at fault, after a front that is not.
pub part-fails : {X Y Z : Type 0} (s : Stop TypeFault) (f : Judge X) (n m : ℕ) (front part rest whole : List X) (v : Y) (w : Z)
    → whole ≡ front ++ (part ++ rest) → numbered f n front ≡ [] → m ≡ n + length front → Fails s (judged (numbered f m part) v) → Fails s (judged (numbered f n whole) w)
part-fails s f n m front part rest whole v w is clean at =
    fails_through s _ _ (λ e err.
    let found = judged-Err (numbered f m part) v e err in
    let all : numbered f n whole ≡ e ∷ (found.0 ++ numbered f (m + length part) rest) =
    rw (is) (numbered-append f n front (part ++ rest) ∙ ap (λ fs. fs ++ numbered f (n + length front) (part ++ rest)) clean
    ∙ ap (λ k. numbered f k (part ++ rest)) (sym at) ∙ numbered-append f m part rest ∙ ap (λ fs. fs ++ numbered f (m + length part) rest) found.1) in
    ap (λ fs. judged fs w) all)

-- A front and a part behind it without a fault are one front without a fault.
pub part-clean : {X Y : Type 0} (f : Judge X) (n m : ℕ) (front part : List X) (v w : Y)
    → numbered f n front ≡ [] → m ≡ n + length front → judged (numbered f m part) v ≡ Ok w → numbered f n (front ++ part) ≡ []
part-clean f n m front part v w clean at is =
    numbered-append f n front part ∙ ap (λ fs. fs ++ numbered f (n + length front) part) clean
    ∙ ap (λ k. numbered f k part) (sym at) ∙ (judged-Ok (numbered f m part) v w is).0

-- a list, split around the item at a place
pub split-at : {X : Type 0} (xs : List X) (i : ℕ) (x : X) → i < length xs → x ≡ get_or xs i x → xs ≡ take i xs ++ ((x ∷ []) ++ drop (i + 1) xs)
split-at xs i x within is =
    let e : drop i xs ≡ x ∷ drop (i + 1) xs = rw (add-one) (drop-cons xs i x within ∙ ap (λ y. y ∷ drop (suc i) xs) (sym is)) in
    sym (take-append-drop i xs) ∙ ap (λ ys. take i xs ++ ys) e

-- the same of what each item gives
pub flat_map-split : {X A : Type 0} (f : X → List A) (xs : List X) (i : ℕ) (x : X) → i < length xs → x ≡ get_or xs i x → flat_map f xs ≡ flat_map f (take i xs) ++ (f x ++ flat_map f (drop (i + 1) xs))
flat_map-split f xs i x within is =
    ap (flat_map f) (split-at xs i x within is) ∙ flat_map-append f (take i xs) (x ∷ drop (i + 1) xs)

-- what the items up to the next one give
pub flat_map-next : {X A : Type 0} (f : X → List A) (xs : List X) (i : ℕ) (x : X) → i < length xs → x ≡ get_or xs i x → flat_map f (take (i + 1) xs) ≡ flat_map f (take i xs) ++ f x
flat_map-next f xs i x within is =
    ap (flat_map f) (take_more xs i x within ∙ ap (λ y. take i xs ++ y ∷ []) (sym is)) ∙ sym (flat_map_more f [] (take i xs) x)

-- One thing is at fault, after others that are not.
pub one-fails : {X Y Z : Type 0} (s : Stop TypeFault) (f : Judge X) (n m : ℕ) (xs : List X) (i : ℕ) (x : X) (v : Y) (w : Z)
    → i < length xs → x ≡ get_or xs i x → numbered f n (take i xs) ≡ [] → m ≡ n + i → Fails s (judged (f m x) v) → Fails s (judged (numbered f n xs) w)
one-fails s f n m xs i x v w within is clean at fails =
    let short : i ≤ length xs = omega arith in
    part-fails s f n m (take i xs) (x ∷ []) (drop (i + 1) xs) xs v w (split-at xs i x within is) clean (rw (length-take-le i xs short) at) (rw (numbered-one f m x) fails)

-- One thing more without a fault.
pub one-clean : {X Y : Type 0} (f : Judge X) (n m : ℕ) (xs : List X) (i : ℕ) (x : X) (v w : Y)
    → i < length xs → x ≡ get_or xs i x → numbered f n (take i xs) ≡ [] → m ≡ n + i → judged (f m x) v ≡ Ok w → numbered f n (take (i + 1) xs) ≡ []
one-clean f n m xs i x v w within is clean at found =
    let short : i ≤ length xs = omega arith in
    let e : take (i + 1) xs ≡ take i xs ++ x ∷ [] = take_more xs i x within ∙ ap (λ y. take i xs ++ y ∷ []) (sym is) in
    ap (numbered f n) e ∙ part-clean f n m (take i xs) (x ∷ []) v w clean (rw (length-take-le i xs short) at) (rw (numbered-one f m x) found)

-- what was made of the items so far, and of the next one
pub map-next : {X Y : Type 0} (g : X → Y) (xs : List X) (i : ℕ) (x : X) (ys zs : List Y) (y : Y)
    → i < length xs → x ≡ get_or xs i x → ys ≡ map g (take i xs) → g x ≡ y → zs ≡ ys ++ y ∷ [] → zs ≡ map g (take (i + 1) xs)
map-next g xs i x ys zs y within is so_far item pushed =
    pushed ∙ ap (λ l. l ++ y ∷ []) so_far ∙ ap (λ z. map g (take i xs) ++ z ∷ []) (sym item ∙ ap g is) ∙ sym (map_more g xs i x within)
