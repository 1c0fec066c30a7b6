-- Lists whose images are the same.
use Rattle.std.proofs.Common.{◌≡◌, ◌+◌, ◌<◌, ℕ, zero, suc, List, [], ◌∷◌, ◌++◌, length, take, get_or, map, slice_get, Some, Result, Ok, Err, OnOk, IfOk, arith, refl, ap, sym, ◌∙◌}
use Rattle.std.specs.List.{All, flat_map}
use Rattle.std.proofs.lemmas.List.{map-append, take_more, append-nil}
use Rattle.std.proofs.lemmas.Grind.{flat_map-append}
use Rattle.std.proofs.lemmas.List.Elements.{All-nil, All-cons}
use Rattle.rule_report.specs.Paths.{joined}

-- what images say of one pair goes over to images of images
pub relate : {X Y Z X' Y' Z' : Type 0} (f : X → Z) (g : Y → Z) (u : X → X') (v : Y → Y') (f' : X' → Z') (g' : Y' → Z') → ((x : X) (y : Y) → f x ≡ g y → f' (u x) ≡ g' (v y))
    → (xs : List X) (ys : List Y) → map f xs ≡ map g ys → map f' (map u xs) ≡ map g' (map v ys)
relate f g u v f' g' each [] [] h = refl
relate f g u v f' g' each [] (y ∷ ys) h = cc
relate f g u v f' g' each (x ∷ xs) [] h = cc
relate f g u v f' g' each (x ∷ xs) (y ∷ ys) h =
    let head : f x ≡ g y = cc in
    let tail : map f xs ≡ map g ys = cc in
    ap (λ z. z ∷ map f' (map u xs)) (each x y head) ∙ ap (λ zs. g' (v y) ∷ zs) (relate f g u v f' g' each xs ys tail)

pub change : {X Y Z : Type 0} (f f' : X → Z) (g : Y → Z) → ((x : X) (y : Y) → f x ≡ g y → f' x ≡ g y)
    → (xs : List X) (ys : List Y) → map f xs ≡ map g ys → map f' xs ≡ map g ys
change f f' g each [] [] h = refl
change f f' g each [] (y ∷ ys) h = cc
change f f' g each (x ∷ xs) [] h = cc
change f f' g each (x ∷ xs) (y ∷ ys) h =
    let head : f x ≡ g y = cc in
    let tail : map f xs ≡ map g ys = cc in
    ap (λ z. z ∷ map f' xs) (each x y head) ∙ ap (λ zs. g y ∷ zs) (change f f' g each xs ys tail)

pub gives : {X Y Z : Type 0} (f : X → Z) (g : Y → Z) (u : X → Y) → ((x : X) (y : Y) → f x ≡ g y → u x ≡ y)
    → (xs : List X) (ys : List Y) → map f xs ≡ map g ys → map u xs ≡ ys
gives f g u each [] [] h = refl
gives f g u each [] (y ∷ ys) h = cc
gives f g u each (x ∷ xs) [] h = cc
gives f g u each (x ∷ xs) (y ∷ ys) h =
    let head : f x ≡ g y = cc in
    let tail : map f xs ≡ map g ys = cc in
    ap (λ z. z ∷ map u xs) (each x y head) ∙ ap (λ zs. y ∷ zs) (gives f g u each xs ys tail)

pub all_of : {X Y Z : Type 0} (f : X → Z) (g : Y → Z) (P : X → Type 0) → ((x : X) (y : Y) → f x ≡ g y → P x)
    → (xs : List X) (ys : List Y) → map f xs ≡ map g ys → All P xs
all_of f g P each [] ys h = All-nil P
all_of f g P each (x ∷ xs) [] h = cc
all_of f g P each (x ∷ xs) (y ∷ ys) h =
    let head : f x ≡ g y = cc in
    let tail : map f xs ≡ map g ys = cc in
    All-cons P x xs (each x y head) (all_of f g P each xs ys tail)

-- two lists, one after another
pub both : {X Y Z : Type 0} (f : X → Z) (g : Y → Z) (xs more : List X) (ys rest : List Y) → map f xs ≡ map g ys → map f more ≡ map g rest → map f (xs ++ more) ≡ map g (ys ++ rest)
both f g xs more ys rest h k = map-append f xs more ∙ ap (λ z. z ++ map f more) h ∙ ap (λ z. map g ys ++ z) k ∙ sym (map-append g ys rest)

-- the front of a list with one more item
pub take_next : {X : Type 0} (xs : List X) (i : ℕ) (x : X) → i < length xs → x ≡ get_or xs i x → take (i + 1) xs ≡ take i xs ++ x ∷ []
take_next xs i x less is = take_more xs i x less ∙ ap (λ z. take i xs ++ z ∷ []) (sym is)

pub flat_next : {X Y : Type 0} (f : X → List Y) (xs : List X) (i : ℕ) (x : X) → i < length xs → x ≡ get_or xs i x → flat_map f (take (i + 1) xs) ≡ flat_map f (take i xs) ++ f x
flat_next f xs i x less is =
    ap (flat_map f) (take_next xs i x less is) ∙ flat_map-append f (take i xs) (x ∷ []) ∙ ap (λ z. flat_map f (take i xs) ++ z) (append-nil (f x))

pub joined-map : {X Y : Type 0} (f : X → List Y) (xs : List X) → joined (map f xs) ≡ flat_map f xs
joined-map f [] = refl
joined-map f (x ∷ xs) = ap (λ z. f x ++ z) (joined-map f xs)

pub flat_push : {X Y : Type 0} (f : X → List Y) (xs : List X) (x : X) → flat_map f (xs ++ x ∷ []) ≡ flat_map f xs ++ f x
flat_push f xs x = flat_map-append f xs (x ∷ []) ∙ ap (λ z. flat_map f xs ++ z) (append-nil (f x))

pub map_push : {X Y : Type 0} (f : X → Y) (xs : List X) (x : X) → map f (xs ++ x ∷ []) ≡ map f xs ++ f x ∷ []
map_push f xs x = map-append f xs (x ∷ [])

pub map_next : {X Y : Type 0} (f : X → Y) (xs : List X) (i : ℕ) (x : X) → i < length xs → x ≡ get_or xs i x → map f (take (i + 1) xs) ≡ map f (take i xs) ++ f x ∷ []
map_next f xs i x less is = ap (map f) (take_next xs i x less is) ∙ map_push f (take i xs) x

pub fused : {X Y Z : Type 0} (g : Y → Z) (f : X → Y) (xs : List X) → map g (map f xs) ≡ map (λ x. g (f x)) xs
fused g f [] = refl
fused g f (x ∷ xs) = ap (λ z. g (f x) ∷ z) (fused g f xs)

-- what stands at a place within
pub there_at : {X : Type 0} (xs : List X) (i : ℕ) → i < length xs → (x : X) × (slice_get xs i ≡ Some x)
there_at [] i within = absurd (omega arith)
there_at (x ∷ xs) zero within = (x, refl)
there_at (x ∷ xs) (suc i) within = there_at xs i (omega arith)

-- what follows where there is no want of memory
pub on_ok : {X E : Type 0} (r : Result X E) (P : Type 0) → P → OnOk r P
on_ok (Ok x) P h = h
on_ok (Err e) P h = tt

pub then_ok : {X E : Type 0} (r : Result X E) (P Q : Type 0) → OnOk r P → (P → Q) → OnOk r Q
then_ok (Ok x) P Q h f = f h
then_ok (Err e) P Q h f = tt

pub if_ok : {X E : Type 0} (r : Result X E) (P Q : X → Type 0) → ((x : X) → P x → Q x) → IfOk r P → IfOk r Q
if_ok (Ok x) P Q f h = f x h
if_ok (Err e) P Q f h = tt
