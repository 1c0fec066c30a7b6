-- Names and keys that stay well made as one is added.
use Rattle.std.proofs.Common.{◌≡◌, ℕ, ◌+◌, ◌≤◌, ◌<◌, List, [], ◌∷◌, ◌++◌, length, map, take, drop, get_or, Bool, true, false, not, ◌&&◌, ◌||◌, cond, bytes_eq, nat_le, refl, sym, ap, ◌∙◌, subst, rules, arith, length-append, zero, suc}
use Rattle.std.specs.List.{list_any, list_all}
use Rattle.std.proofs.lemmas.Bool.{false≢true, true≢false, and_parts, and_from, or_from, or_parts, not-true, not_from_false, le-leb}
use Rattle.std.proofs.lemmas.Cmp.{nat_list_eq_equiv}
use Rattle.std.proofs.lemmas.List.Folds.{list_any-append, list_all-append}
use Rattle.key_table.specs.Names.{is_name, is_among, are_distinct, are_names}
use Rattle.key_table.specs.NameLists.{with_name, with_names, with_key}
use Rattle.key_table.specs.Tables.{Domain, Key, Table, names_in, is_domain, is_table}

pub are_names-nil : are_names [] ≡ true
unfolding are_names
are_names-nil = refl

pub is_table-nil : is_table [] ≡ true
unfolding is_table are_names
is_table-nil = refl

distinct-more : (names : List (List ℕ)) (name : List ℕ) → are_distinct names ≡ true → is_among name names ≡ false → are_distinct (names ++ name ∷ []) ≡ true
distinct-more [] name distinct fresh = refl
distinct-more (n ∷ ns) name distinct fresh =
    let d = and_parts (not (is_among n ns)) (are_distinct ns) distinct in
    let f = or_parts (bytes_eq name n) (is_among name ns) fresh in
    let other : bytes_eq n name ≡ false = nat_list_eq_equiv.symm n name ∙ f.0 in
    and_from _ _
    (not_from_false _ (list_any-append (bytes_eq n) ns (name ∷ []) ∙ or_from _ _ (not-true _ d.0) (or_from _ _ other refl)))
    (distinct-more ns name d.1 f.1)

pub are_names-more : (names : List (List ℕ)) (name : List ℕ) → are_names names ≡ true → is_name name ≡ true → is_among name names ≡ false → are_names (names ++ name ∷ []) ≡ true
unfolding are_names
are_names-more names name well is fresh =
    let w = and_parts (list_all is_name names) (are_distinct names) well in
    and_from _ _ (list_all-append is_name names (name ∷ []) ∙ and_from _ _ w.0 (and_from _ _ is refl)) (distinct-more names name w.1 fresh)

-- a name that is added last, unless it is there
pub are_names-with_name : (names : List (List ℕ)) (name : List ℕ) → are_names names ≡ true → is_name name ≡ true → are_names (with_name names name) ≡ true
are_names-with_name names name well is =
    elim (is_among name names) as (λ b. is_among name names ≡ b → are_names (cond b names (names ++ name ∷ [])) ≡ true)
    [ true ↦ (λ there. well) | false ↦ (λ fresh. are_names-more names name well is fresh) ] refl

pub length-with_name : (names : List (List ℕ)) (name : List ℕ) → length (with_name names name) ≤ length names + 1
length-with_name names name =
    elim (is_among name names) as (λ b. length (cond b names (names ++ name ∷ [])) ≤ length names + 1) [ true ↦ omega arith | false ↦ omega (arith, length-append names (name ∷ [])) ]

keep_cond : (b : Bool) (n : List ℕ) (xs ys : List (List ℕ)) → n ∷ cond b xs ys ≡ cond b (n ∷ xs) (n ∷ ys)
keep_cond true n xs ys = refl
keep_cond false n xs ys = refl

-- a key that is there keeps its name, and a new one goes last
names-with_key : (table : Table) (name : List ℕ) (domain : Domain) → names_in (with_key table name domain) ≡ with_name (names_in table) name
names-with_key [] name domain = refl
names-with_key (k ∷ ks) name domain =
    elim (bytes_eq name k.name) as (λ b. names_in (cond b (record { name = k.name; domain = domain } ∷ ks) (k ∷ with_key ks name domain)) ≡ cond (b || is_among name (names_in ks)) (k.name ∷ names_in ks) (k.name ∷ (names_in ks ++ name ∷ [])))
    [ true ↦ refl | false ↦ ap (λ ns. k.name ∷ ns) (names-with_key ks name domain) ∙ keep_cond (is_among name (names_in ks)) k.name (names_in ks) (names_in ks ++ name ∷ []) ]

pub length-with_key : (table : Table) (name : List ℕ) (domain : Domain) → length (with_key table name domain) ≤ length table + 1
length-with_key [] name domain = omega arith
length-with_key (k ∷ ks) name domain =
    elim (bytes_eq name k.name) as (λ b. length (cond b (record { name = k.name; domain = domain } ∷ ks) (k ∷ with_key ks name domain)) ≤ length (k ∷ ks) + 1)
    [ true ↦ omega arith | false ↦ omega (arith, length-with_key ks name domain) ]

domains-with_key : (table : Table) (name : List ℕ) (domain : Domain) → list_all (λ (k : Key). is_domain k.domain) table ≡ true → is_domain domain ≡ true → list_all (λ (k : Key). is_domain k.domain) (with_key table name domain) ≡ true
domains-with_key [] name domain well is = and_from _ _ is refl
domains-with_key (k ∷ ks) name domain well is =
    let w = and_parts (is_domain k.domain) (list_all (λ (x : Key). is_domain x.domain) ks) well in
    elim (bytes_eq name k.name) as (λ b. list_all (λ (x : Key). is_domain x.domain) (cond b (record { name = k.name; domain = domain } ∷ ks) (k ∷ with_key ks name domain)) ≡ true)
    [ true ↦ and_from _ _ is w.1 | false ↦ and_from _ _ w.0 (domains-with_key ks name domain w.1 is) ]

-- the table in which a key has a domain
pub is_table-with_key : (table : Table) (name : List ℕ) (domain : Domain) → is_table table ≡ true → length table < 256 → is_name name ≡ true → is_domain domain ≡ true → is_table (with_key table name domain) ≡ true
unfolding is_table
is_table-with_key table name domain well room named is =
    let w = and_parts _ _ well in
    let v = and_parts (nat_le (length table) 256) (are_names (names_in table)) w.0 in
    and_from _ _
    (and_from _ _ (le-leb _ _ (omega (arith, length-with_key table name domain)))
    (ap are_names (names-with_key table name domain) ∙ are_names-with_name (names_in table) name v.1 named))
    (domains-with_key table name domain w.1 is)

-- a key whose name is new goes last
pub with_key_new : (table : Table) (name : List ℕ) (domain : Domain) → is_among name (names_in table) ≡ false → with_key table name domain ≡ table ++ record { name = name; domain = domain } ∷ []
with_key_new [] name domain fresh = refl
with_key_new (k ∷ ks) name domain fresh =
    let f = or_parts (bytes_eq name k.name) (is_among name (names_in ks)) fresh in
    rw (f.0, with_key_new ks name domain f.1)

-- what passes at each image passes at one of them
pub all-images : {X Y : Type 0} (p : Y → Bool) (f : X → Y) (xs : List X) (i : ℕ) (d : X) → list_all p (map f xs) ≡ true → i < length xs → p (f (get_or xs i d)) ≡ true
all-images p f [] i d all within = absurd (omega arith)
all-images p f (x ∷ xs) zero d all within = (and_parts (p (f x)) (list_all p (map f xs)) all).0
all-images p f (x ∷ xs) (suc i) d all within = all-images p f xs i d (and_parts (p (f x)) (list_all p (map f xs)) all).1 (omega arith)
