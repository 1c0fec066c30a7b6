-- What a chain of options and results that gave something says of its parts.
use Rattle.std.proofs.Common.{◌≡◌, ℕ, ◌⊎◌, inl, inr, List, [], ◌∷◌, ◌++◌, length, map, take, drop, Bool, true, false, cond, bytes_eq, Option, Some, None, Result, Ok, Err, refl, ap, sym, ◌∙◌}
use Rattle.std.specs.Prelude.{option_map, option_and_then}
use Rattle.std.specs.Option.{option_map_or}
use Rattle.std.specs.List.{AllByRecursion}
use Rattle.std.proofs.lemmas.List.{take-append-drop, take_at, drop_at}
use Rattle.std.proofs.lemmas.Slice.Eq.{bytes_eq-Decides}
use Rattle.key_table.specs.Answers.{◌>>=◌, or_fault, provided}
use Rattle.certificate_text.specs.Named.{after, each}
use Rattle.certificate_text.proofs.Spellings.{cond_some}

pub map_some : {A B : Type 0} (f : A → B) (o : Option A) (y : B) → option_map f o ≡ Some y → (x : A) × (o ≡ Some x) × (f x ≡ y)
map_some f (Some x) y e = (x, refl, cc)
map_some f None y e = absurd cc

pub then_some : {A B : Type 0} (f : A → Option B) (o : Option A) (y : B) → option_and_then f o ≡ Some y → (x : A) × (o ≡ Some x) × (f x ≡ Some y)
then_some f (Some x) y e = (x, refl, e)
then_some f None y e = absurd cc

pub then_ok : {A B : Type 0} (r : Result A ℕ) (f : A → Result B ℕ) (y : B) → (r >>= f) ≡ Ok y → (x : A) × (r ≡ Ok x) × (f x ≡ Ok y)
then_ok (Ok x) f y e = (x, refl, e)
then_ok (Err d) f y e = absurd cc

abbrev done : {A : Type 0} → A → Result A ℕ
done x = Ok x

pub ok_is : {A : Type 0} (x y : A) → done x ≡ Ok y → x ≡ y
ok_is x y e = cc

pub some_is : {A : Type 0} (x y : A) → Some x ≡ Some y → x ≡ y
some_is x y e = cc

pub or_fault_ok : {A : Type 0} (code : ℕ) (o : Option A) (x : A) → or_fault code o ≡ Ok x → o ≡ Some x
or_fault_ok code (Some y) x e = let same : y ≡ x = cc in ap (λ z. Some z) same
or_fault_ok code None x e = absurd cc

pub provided_ok : {A : Type 0} (code : ℕ) (b : Bool) (r : Result A ℕ) (y : A) → (provided code b >>= λ _. r) ≡ Ok y → (b ≡ true) × (r ≡ Ok y)
provided_ok code true r y e = (refl, e)
provided_ok code false r y e = absurd cc

-- a test on equal bytes that chose
pub chosen : {A : Type 0} (a b : List ℕ) (x y : A) (other : Option A) → cond (bytes_eq a b) (Some x) other ≡ Some y → ((a ≡ b) × (x ≡ y)) ⊎ (other ≡ Some y)
chosen a b x y other e =
    elim (bytes_eq a b) as (λ t. bytes_eq a b ≡ t → cond t (Some x) other ≡ Some y → ((a ≡ b) × (x ≡ y)) ⊎ (other ≡ Some y)) [
      | true ↦ (λ h g. inl ((bytes_eq-Decides a b).0 h, some_is x y g))
      | false ↦ (λ h g. inr g)
    ] refl e

-- what follows a label
pub after_only : (label field rest : List ℕ) → after label field ≡ Some rest → label ++ rest ≡ field
after_only label field rest e =
    let g = cond_some (bytes_eq (take (length label) field) label) (drop (length label) field) rest e in
    let front : take (length label) field ≡ label = (bytes_eq-Decides (take (length label) field) label).0 g.0 in
    ap (λ t. t ++ rest) (sym front) ∙ ap (λ t. take (length label) field ++ t) (sym g.1) ∙ take-append-drop (length label) field

pub after_again : (label rest : List ℕ) → after label (label ++ rest) ≡ Some rest
after_again label rest =
    rw (take_at label rest (length label) refl, drop_at label rest (length label) refl, (bytes_eq-Decides label label).1 refl) refl

-- a labelled field, or another
pub labelled : {A : Type 0} (label field : List ℕ) (read : List ℕ → Option A) (other : Option A) (x : A) → option_map_or read (after label field) other ≡ Some x
    → ((rest : List ℕ) × (label ++ rest ≡ field) × (read rest ≡ Some x)) ⊎ (other ≡ Some x)
labelled label field read other x e =
    elim (after label field) as (λ o. after label field ≡ o → option_map_or read o other ≡ Some x → ((rest : List ℕ) × (label ++ rest ≡ field) × (read rest ≡ Some x)) ⊎ (other ≡ Some x)) [
      | Some rest ↦ (λ h g. inl (rest, after_only label field rest h, g))
      | None ↦ (λ h g. inr g)
    ] refl e

-- ---- all items of a list

pub each_only : {A B : Type 0} (read : A → Option B) (text : B → A) (only : (x : A) (y : B) → read x ≡ Some y → text y ≡ x) (xs : List A) (ys : List B) → each read xs ≡ Some ys → map text ys ≡ xs
each_only read text only [] ys e = ap (map text) (sym (some_is [] ys e))
each_only read text only (x ∷ xs) ys e =
    let a = then_some (λ y. option_map (λ ys. y ∷ ys) (each read xs)) (read x) ys e in
    let b = map_some (λ ys. a.0 ∷ ys) (each read xs) ys a.2 in
    let front : text a.0 ≡ x = only x a.0 a.1 in
    let back : map text b.0 ≡ xs = each_only read text only xs b.0 b.1 in
    ap (map text) (sym b.2) ∙ ap (λ z. z ∷ map text b.0) front ∙ ap (λ zs. x ∷ zs) back

pub each_again : {A B : Type 0} (read : A → Option B) (text : B → A) (ys : List B) → AllByRecursion (λ y. read (text y) ≡ Some y) ys → each read (map text ys) ≡ Some ys
each_again read text [] all = refl
each_again read text (y ∷ ys) all = rw (all.0, each_again read text ys all.1) refl
