-- A word is the name of a variant exactly where the variant has the word's number.
use Rattle.std.proofs.Common.{◌≡◌, ℕ, zero, suc, ◌+◌, ◌<◌, List, [], ◌∷◌, length, position, bytes_eq, nat_lt, ◌==◌, Bool, true, false, not, is_some, Some, None, refl, sym, ap, ◌∙◌, arith, slice_get, cond}
use Rattle.std.specs.Cmp.Lexicographic.{bytes_decides}
use Rattle.std.specs.List.{position_or_len, list_any, list_all}
use Rattle.std.specs.Option.{option_map_or, unwrap_or}
use Rattle.std.proofs.lemmas.Bool.{false≢true, and_parts, or_parts, not-true, ltb-true}
use Rattle.key_table.specs.Names.{is_name, is_among, are_distinct, are_names}
use Rattle.key_table.specs.Tables.{Table, Domain, variants, bounds, text, metadata, Key, is_domain, is_table, names_of, variants_at}
use Rattle.dir_typing.specs.Comparisons.{is_variant}
use Rattle.dir_typing.specs.Numbered.{variant_number}

none_at : {X : Type 0} (p : X → Bool) (xs : List X) (m : ℕ) → list_any p xs ≡ false → option_map_or p (slice_get xs m) false ≡ false
none_at p [] m none = refl
none_at p (x ∷ xs) zero none = (or_parts (p x) (list_any p xs) none).0
none_at p (x ∷ xs) (suc m) none = none_at p xs m (or_parts (p x) (list_any p xs) none).1

-- Among distinct names the one at a place is the word exactly where the word first stands there.
name_at : (word : List ℕ) (names : List (List ℕ)) (m : ℕ) → are_distinct names ≡ true → position_or_len (bytes_eq word) names < length names
    → option_map_or (bytes_eq word) (slice_get names m) false ≡ (m == position_or_len (bytes_eq word) names)
name_at word [] m distinct within = absurd (omega (arith, within))
name_at word (name ∷ names) zero distinct within =
    elim (bytes_eq word name) as (λ b. b ≡ (0 == cond (not b) (1 + position_or_len (bytes_eq word) names) 0)) [ true ↦ refl | false ↦ grind arith ]
name_at word (name ∷ names) (suc m) distinct within =
    let parts = and_parts (not (is_among name names)) (are_distinct names) distinct in
    let q = position_or_len (bytes_eq word) names in
    let there = option_map_or (bytes_eq word) (slice_get names m) false in
    elim (bytes_eq word name) as (λ b. bytes_eq word name ≡ b → cond (not b) (1 + q) 0 < suc (length names) → there ≡ (suc m == cond (not b) (1 + q) 0)) [
      | true ↦ (λ same within. none_at (bytes_eq word) names m (ap (λ w. is_among w names) ((bytes_decides word name).0 same) ∙ not-true _ parts.0) ∙ grind arith)
      | false ↦ (λ other within. name_at word names m parts.1 (omega (arith, within)) ∙ grind arith)
    ] refl within

-- a position that is there is the first place, and within the list
pub found : {X : Type 0} (p : X → Bool) (xs : List X) (n : ℕ) → is_some (position p xs) ≡ true → (nat_lt (position_or_len p xs) (length xs) ≡ true) × (unwrap_or (position p xs) n ≡ position_or_len p xs)
found p xs n some =
    let place = position_or_len p xs in
    elim (nat_lt place (length xs)) as (λ b. is_some (cond b (Some place) None) ≡ true → (b ≡ true) × (unwrap_or (cond b (Some place) None) n ≡ place))
    [ true ↦ (λ some. (refl, refl)) | false ↦ (λ none. absurd (false≢true none)) ] some

pub variant_within : (table : Table) (key : ℕ) (word : List ℕ) → is_variant table key word ≡ true → nat_lt (variant_number table key word) (length (variants_at key table)) ≡ true
variant_within table key word some =
    let f = found (bytes_eq word) (variants_at key table) (length (variants_at key table)) some in
    ap (λ n. nat_lt n (length (variants_at key table))) f.1 ∙ f.0

domain_distinct : (domain : Domain) → is_domain domain ≡ true → are_distinct (names_of domain) ≡ true
unfolding are_names
domain_distinct (variants names) is = (and_parts (list_all is_name names) (are_distinct names) (and_parts _ _ is).1).1
domain_distinct (bounds least greatest) is = refl
domain_distinct text is = refl
domain_distinct metadata is = refl

keys_distinct : (table : Table) (key : ℕ) → list_all (λ k. is_domain k.domain) table ≡ true → are_distinct (variants_at key table) ≡ true
keys_distinct [] key is = refl
keys_distinct (k ∷ table) zero is = domain_distinct k.domain (and_parts (is_domain k.domain) _ is).0
keys_distinct (k ∷ table) (suc key) is = keys_distinct table key (and_parts (is_domain k.domain) _ is).1

variants_distinct : (table : Table) (key : ℕ) → is_table table ≡ true → are_distinct (variants_at key table) ≡ true
unfolding is_table
variants_distinct table key is = keys_distinct table key (and_parts _ (list_all (λ (k : Key). is_domain k.domain) table) is).1

pub word_number : (table : Table) (key : ℕ) (word : List ℕ) (m : ℕ) → is_table table ≡ true → is_variant table key word ≡ true
    → option_map_or (bytes_eq word) (slice_get (variants_at key table) m) false ≡ (m == variant_number table key word)
word_number table key word m is some =
    let f = found (bytes_eq word) (variants_at key table) (length (variants_at key table)) some in
    name_at word (variants_at key table) m (variants_distinct table key is) (ltb-true _ _ f.0) ∙ ap (λ n. m == n) (sym f.1)
