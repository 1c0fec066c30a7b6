-- Names and keys by hash are names and keys by a walk.
use Rattle.std.proofs.Common.{◌≡◌, ℕ, ◌+◌, List, [], ◌∷◌, ◌++◌, map, length, position, bytes_eq, String, string_bytes, IsUtf8, Some, None, is_some, refl, ap, sym, ◌∙◌, subst, cond, not, Bool, true, false, arith}
use Rattle.std.specs.declared.alloc.Global.{Global}
use Rattle.std.specs.Cmp.Lexicographic.{bytes_decides}
use Rattle.std.specs.List.{position_or_len, list_any}
use Rattle.std.specs.Map.{keys_of, lookup}
use Rattle.std.proofs.lemmas.Bool.{cond-false, false_from_ne_true, le-ltb}
use Rattle.std.proofs.lemmas.List.{length-map}
use Rattle.std.proofs.lemmas.Map.Made.{is_some-lookup}
use Rattle.std.proofs.lemmas.Str.{IsUtf8-string_bytes}
use Rattle.indexmap.specs.IndexMap.{insert_entry}
use Rattle.indexmap.specs.IndexSet.{insert_key}
use Rattle.key_table.specs.declared.key.Domain as code
use Rattle.key_table.specs.Names.{is_among}
use Rattle.key_table.specs.Tables.{names_in, find_key}
use Rattle.key_table.specs.NameLists.{with_name, with_key}
use Rattle.key_table.specs.KeyViews.{domain_view, key_view}

abbrev Name : Type 0
Name = String Global

abbrev same : Name → Name → Bool
same v w = bytes_eq (string_bytes v) (string_bytes w)

position_or_len-map : {X Y : Type 0} (p : Y → Bool) (f : X → Y) (xs : List X) → position_or_len (λ x. p (f x)) xs ≡ position_or_len p (map f xs)
position_or_len-map p f [] = refl
position_or_len-map p f (x ∷ xs) = ap (λ n. cond (not (p (f x))) (1 + n) 0) (position_or_len-map p f xs)

-- the first place at which a test of the images passes
pub position-map : {X Y : Type 0} (p : Y → Bool) (f : X → Y) (xs : List X) → position (λ x. p (f x)) xs ≡ position p (map f xs)
position-map p f xs = rw (position_or_len-map p f xs, length-map)

pub list_any-map : {X Y : Type 0} (p : Y → Bool) (f : X → Y) (xs : List X) → list_any (λ x. p (f x)) xs ≡ list_any p (map f xs)
list_any-map p f [] = refl
list_any-map p f (x ∷ xs) = rw (list_any-map p f xs)

map-append : {X Y : Type 0} (f : X → Y) (xs ys : List X) → map f (xs ++ ys) ≡ map f xs ++ map f ys
map-append f [] ys = refl
map-append f (x ∷ xs) ys = ap (λ r. f x ∷ r) (map-append f xs ys)

map-cond : {X Y : Type 0} (f : X → Y) (b : Bool) (xs ys : List X) → map f (cond b xs ys) ≡ cond b (map f xs) (map f ys)
map-cond f b xs ys = elim b as (λ v. map f (cond v xs ys) ≡ cond v (map f xs) (map f ys)) [ true ↦ refl | false ↦ refl ]

pub names-insert : (names : List Name) (name : Name) → map string_bytes (insert_key same names name) ≡ with_name (map string_bytes names) (string_bytes name)
names-insert names name = map-cond string_bytes (list_any (same name) names) names (names ++ name ∷ [])
    ∙ rw (list_any-map (bytes_eq (string_bytes name)) string_bytes names, map-append)

pub keys-insert : (es : List (Name × code.Domain)) (name : Name) (domain : code.Domain)
    → map key_view (insert_entry same es name domain) ≡ with_key (map key_view es) (string_bytes name) (domain_view domain)
keys-insert [] name domain = refl
keys-insert (e ∷ es) name domain =
    map-cond key_view (same name e.0) ((e.0, domain) ∷ es) (e ∷ insert_entry same es name domain) ∙ rw (keys-insert es name domain)

-- the names of the keys, as they are kept
names-keys : (es : List (Name × code.Domain)) → map string_bytes (keys_of es) ≡ names_in (map key_view es)
names-keys [] = refl
names-keys (e ∷ es) = ap (λ ns. string_bytes e.0 ∷ ns) (names-keys es)

-- a name by its hash is a name by a walk
pub names-found : (name : List ℕ) (names : List Name) → position (λ v. bytes_eq name (string_bytes v)) names ≡ position (bytes_eq name) (map string_bytes names)
names-found name names = position-map (bytes_eq name) string_bytes names

-- a key by its hash is a key by a walk
pub keys-found : (name : List ℕ) (es : List (Name × code.Domain)) → position (λ v. bytes_eq name (string_bytes v)) (keys_of es) ≡ find_key name (map key_view es)
keys-found name es = names-found name (keys_of es) ∙ ap (λ ns. position (bytes_eq name) ns) (names-keys es) ∙ sym (position-map (bytes_eq name) (λ k. k.name) (map key_view es))

-- a key is there by its hash where its name is one of the names
pub keys-had : (name : List ℕ) (es : List (Name × code.Domain)) → is_some (lookup (λ v. bytes_eq name (string_bytes v)) es) ≡ is_among name (names_in (map key_view es))
keys-had name es = is_some-lookup (λ v. bytes_eq name (string_bytes v)) es ∙ list_any-map (bytes_eq name) string_bytes (keys_of es) ∙ ap (λ ns. list_any (bytes_eq name) ns) (names-keys es)

len-unnamed : (name : List ℕ) (names : List Name) → (IsUtf8 name → ⊥) → position_or_len (λ v. bytes_eq name (string_bytes v)) names ≡ length names
len-unnamed name [] other = refl
len-unnamed name (n ∷ ns) other =
    let differs : bytes_eq name (string_bytes n) ≡ false = false_from_ne_true _ (λ e. other (subst (λ x. IsUtf8 x) (sym ((bytes_decides name (string_bytes n)).0 e)) (IsUtf8-string_bytes n))) in
    rw (differs, len-unnamed name ns other) (omega arith)

-- bytes that are no text are no name
pub unnamed : (name : List ℕ) (names : List Name) → (IsUtf8 name → ⊥) → position (λ v. bytes_eq name (string_bytes v)) names ≡ None
unnamed name names other = rw (len-unnamed name names other) (cond-false _ (Some (length names)) None (le-ltb (length names) (length names) (omega arith)))
