-- The keys of a table and their variants: each is found by its name, and a key has a domain.
use Rattle.std.proofs.Common.{◌≡◌, ℕ, zero, suc, ◌<◌, List, [], ◌∷◌, length, map, Bool, true, not, Option, Some, None, option_map, refl, ap, sym, ◌∙◌, subst, inl, inr, arith, slice_get, bytes_eq, position}
use Rattle.std.specs.List.{list_all, position_or_len}
use Rattle.std.specs.Prelude.{nat_le, ◌&&◌}
use Rattle.std.proofs.lemmas.Bool.{cases_Bool, and_parts, not-true, true≢false, lt-ltb, or_left, or_right}
use Rattle.std.proofs.lemmas.List.{map-id}
use Rattle.std.proofs.lemmas.Option.{slice_get_within}
use Rattle.std.proofs.lemmas.Slice.Eq.{bytes_eq-Decides}
use Rattle.key_table.specs.Names.{is_name, is_among, are_distinct, are_names}
use Rattle.key_table.specs.Tables.{Domain, variants, bounds, text, metadata, Key, Table, kind_of, names_of, is_domain, is_table, names_in, name_at, domain_at, kind_at, variants_at, find_key, find_variant}

-- ---- the name at a place, among distinct names

bytes_eq-self : (name : List ℕ) → bytes_eq name name ≡ true
bytes_eq-self name = (bytes_eq-Decides name name).1 refl

-- what stands at a place is among them
among : {X : Type 0} (f : X → List ℕ) (xs : List X) (n : ℕ) (x : X) → slice_get xs n ≡ Some x → is_among (f x) (map f xs) ≡ true
among f [] n x is = let no : ⊥ = cc in absurd no
among f (y ∷ ys) zero x is = let same : y ≡ x = cc in or_left (bytes_eq (f x) (f y)) (is_among (f x) (map f ys)) (ap (λ z. bytes_eq (f x) (f z)) same ∙ bytes_eq-self (f x))
among f (y ∷ ys) (suc n) x is = or_right (bytes_eq (f x) (f y)) (is_among (f x) (map f ys)) (among f ys n x is)

place : {X : Type 0} (f : X → List ℕ) (xs : List X) (n : ℕ) (x : X) → slice_get xs n ≡ Some x → are_distinct (map f xs) ≡ true → position_or_len (λ y. bytes_eq (f x) (f y)) xs ≡ n
place f [] n x is distinct = let no : ⊥ = cc in absurd no
place f (y ∷ ys) zero x is distinct =
    let same : y ≡ x = cc in
    let here : bytes_eq (f x) (f y) ≡ true = ap (λ z. bytes_eq (f x) (f z)) same ∙ bytes_eq-self (f x) in
    rw here
place f (y ∷ ys) (suc n) x is distinct =
    let parts = and_parts (not (is_among (f y) (map f ys))) (are_distinct (map f ys)) distinct in
    elim (cases_Bool (bytes_eq (f x) (f y))) [
      | inl same ↦ (
          let eq : f x ≡ f y = (bytes_eq-Decides (f x) (f y)).0 same in
          absurd (true≢false (sym (among f ys n x is) ∙ ap (λ name. is_among name (map f ys)) eq ∙ not-true (is_among (f y) (map f ys)) parts.0)))
      | inr other ↦ rw (other, place f ys n x is parts.1) (omega arith)
    ]

found : {X : Type 0} (f : X → List ℕ) (xs : List X) (n : ℕ) (x : X) → slice_get xs n ≡ Some x → are_distinct (map f xs) ≡ true → position (λ y. bytes_eq (f x) (f y)) xs ≡ Some n
found f xs n x is distinct = rw (place f xs n x is distinct, lt-ltb n (length xs) (slice_get_within xs n x is))

-- ---- a key that is there

-- where an image is there, so is a value
pub option_map_some : {A B P : Type 0} (f : A → B) (o : Option A) (y : B) → option_map f o ≡ Some y → ((x : A) → o ≡ Some x → f x ≡ y → P) → P
option_map_some f None y is go = let no : ⊥ = cc in absurd no
option_map_some f (Some x) y is go = let same : f x ≡ y = cc in go x refl same

pub domain_within : (table : Table) (key : ℕ) (dom : Domain) → domain_at key table ≡ Some dom → (key < length table) × ((name : List ℕ) × (name_at key table ≡ Some name))
domain_within table key dom is =
    option_map_some (λ (k : Key). k.domain) (slice_get table key) dom is (λ k there same. (slice_get_within table key k there, (k.name, rw there)))

pub name_domain : (table : Table) (key : ℕ) (name : List ℕ) → name_at key table ≡ Some name → (dom : Domain) × (domain_at key table ≡ Some dom)
name_domain table key name is = option_map_some (λ (k : Key). k.name) (slice_get table key) name is (λ k there same. (k.domain, rw there))

pub kind_is : (table : Table) (key : ℕ) (dom : Domain) → domain_at key table ≡ Some dom → kind_at key table ≡ Some (kind_of dom)
kind_is table key dom is = rw is

-- ---- in a table that is well made

-- what holds of all holds of one
all_at : {X : Type 0} (p : X → Bool) (xs : List X) (i : ℕ) (x : X) → list_all p xs ≡ true → slice_get xs i ≡ Some x → p x ≡ true
all_at p [] i x all is = cc
all_at p (y ∷ ys) zero x all is = let same : y ≡ x = cc in ap p (sym same) ∙ (and_parts (p y) (list_all p ys) all).0
all_at p (y ∷ ys) (suc i) x all is = all_at p ys i x (and_parts (p y) (list_all p ys) all).1 is

are_names-distinct : (names : List (List ℕ)) → are_names names ≡ true → are_distinct names ≡ true
unfolding are_names
are_names-distinct names h = (and_parts (list_all is_name names) (are_distinct names) h).1

table-names : (table : Table) → is_table table ≡ true → are_names (names_in table) ≡ true
unfolding is_table
table-names table h = (and_parts (nat_le (length table) 256) (are_names (names_in table)) (and_parts (nat_le (length table) 256 && are_names (names_in table)) (list_all (λ key. is_domain key.domain) table) h).0).1

table-domains : (table : Table) → is_table table ≡ true → list_all (λ (key : Key). is_domain key.domain) table ≡ true
unfolding is_table
table-domains table h = (and_parts (nat_le (length table) 256 && are_names (names_in table)) (list_all (λ key. is_domain key.domain) table) h).1

domain_names : (d : Domain) → is_domain d ≡ true → (names : List (List ℕ)) → names_of d ≡ names → (v : ℕ) (name : List ℕ) → slice_get names v ≡ Some name → are_names names ≡ true
domain_names (variants ns) made names is v name at_v = subst (λ l. are_names l ≡ true) is (and_parts (nat_le (length ns) 1024) (are_names ns) made).1
domain_names (bounds least greatest) made names is v name at_v = let e : slice_get names v ≡ None = rw (← is) in cc
domain_names text made names is v name at_v = let e : slice_get names v ≡ None = rw (← is) in cc
domain_names metadata made names is v name at_v = let e : slice_get names v ≡ None = rw (← is) in cc

-- a variant is of an enum key, whose variants are names, each once
variants_named : (table : Table) (key v : ℕ) (name : List ℕ) → is_table table ≡ true → slice_get (variants_at key table) v ≡ Some name → are_names (variants_at key table) ≡ true
variants_named table key v name made at_v =
    let step : (o : Option Key) → slice_get table key ≡ o → are_names (variants_at key table) ≡ true =
    λ o. elim o as (λ o. slice_get table key ≡ o → are_names (variants_at key table) ≡ true) [
      | None ↦ (λ is. let e : slice_get (variants_at key table) v ≡ None = rw is in cc)
      | Some k ↦ (λ is. domain_names k.domain (all_at (λ (k : Key). is_domain k.domain) table key k (table-domains table made) is) (variants_at key table) (rw is) v name at_v)
    ] in
    step (slice_get table key) refl

pub found_by_name : (table : Table) (key : ℕ) (name : List ℕ) → is_table table ≡ true → name_at key table ≡ Some name → find_key name table ≡ Some key
found_by_name table key name made is =
    let P : List ℕ → Type 0 = λ n. find_key n table ≡ Some key in
    option_map_some (λ (k : Key). k.name) (slice_get table key) name is
    (λ k there same. subst P same (found (λ (k : Key). k.name) table key k there (are_names-distinct (names_in table) (table-names table made))))

pub variant_found : (table : Table) (key v : ℕ) (name : List ℕ) → is_table table ≡ true → slice_get (variants_at key table) v ≡ Some name → find_variant key name table ≡ Some v
variant_found table key v name made is =
    found (λ n. n) (variants_at key table) v name is (ap are_distinct (map-id (variants_at key table)) ∙ are_names-distinct (variants_at key table) (variants_named table key v name made is))
