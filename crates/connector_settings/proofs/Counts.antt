-- How many type entries are begun where settings are read: as many as are there, and no more than there may be.
use Rattle.std.proofs.Common.{◌≡◌, ℕ, ◌+◌, ◌≤◌, List, [], ◌∷◌, length, nat_lt, Bool, true, false, cond, Option, Some, None, Result, Ok, Err, IfOk, refl, arith}
use Rattle.std.specs.Prelude.{⊤, codes, unwrap_or}
use Rattle.std.specs.List.{sum_by}
use Rattle.std.proofs.lemmas.Bool.{ltb-true}
use Rattle.std.proofs.lemmas.List.Sums.{sum_by-cons}
use Rattle.serde_json.specs.Data.{Data}
use Rattle.key_table.specs.Tables.{Table}
use Rattle.json_shape.specs.declared.error.ShapeError.{ShapeError}
use Rattle.json_shape.specs.Paths.{name_step, item_step, fault}
use Rattle.json_shape.specs.Shapes.{json_of, list_of, optional_of}
use Rattle.json_shape.specs.Fields as fields
use Rattle.json_shape.specs.Counted.{◌>>=◌, pure, plain, each}
use Rattle.json_shape.specs.Counting.{items, if_there}
use Rattle.connector_settings.specs.declared.keys.Keys.{Keys}
use Rattle.connector_settings.specs.declared.settings.TypeEntry.{TypeEntry}
use Rattle.connector_settings.specs.declared.settings.Method.{Method}
use Rattle.connector_settings.specs.declared.settings.Connector.{Connector}
use Rattle.connector_settings.specs.declared.settings.Settings.{Settings}
use Rattle.connector_settings.specs.Keys.{keys_of}
use Rattle.connector_settings.specs.Fit.{entry_count}
use Rattle.connector_settings.specs.Words.{field_or, text_of, flag_of, variant_of}
use Rattle.connector_settings.specs.Reading.{Reading, Reader, entry_begun, entry_in, entry_of, items_or_none, method_of, connector_of, settings_in, settings_or_fault}
use Rattle.connector_settings.proofs.Known.{then_known, then_any}
use Rattle.connector_settings.proofs.Weights.{sum_same}

-- From one count to another by so many, and to no more than there may be.
abbrev Rises : ℕ → ℕ → ℕ → Type 0
Rises n k m = (m ≡ n + k) × (m ≤ 4096)

-- Where something is read, the type entries in it were begun, and no more than there may be.
abbrev IsCounted : {X : Type 0} → (X → ℕ) → Reading X → Type 0
IsCounted {X} size reading = (n : ℕ) → n ≤ 4096 → IfOk (reading n) (λ (x : X × ℕ). Rises n (size x.0) x.1)

-- after what counts nothing
plainly : {A B : Type 0} (r : Result A ShapeError) (next : A → Reading B) (size : B → ℕ) → ((a : A) → IsCounted size (next a)) → IsCounted size (plain r >>= next)
plainly (Ok a) next size go = go a
plainly (Err e) next size go = λ n few. tt

-- what is read becomes something of the same size
handed : {A B : Type 0} (reading : Reading A) (f : A → B) (size : A → ℕ) (size' : B → ℕ) → ((a : A) → size a ≡ size' (f a)) → IsCounted size reading → IsCounted size' (reading >>= λ a. pure (f a))
handed {A} {B} reading f size size' same h n few =
    then_known _ (λ (y : B × ℕ). Rises n (size' y.0) y.1) (reading n) (λ x. Ok (f x.0, x.1)) (h n few) (λ x k. (omega (arith, k.0, same x.0), k.1))

-- each item of a list in turn
each_counted : {X : Type 0} (read : Reader X) (size : X → ℕ) → ((path : List ℕ) (d : Data) → IsCounted size (read path d)) → (path : List ℕ) (i : ℕ) (ds : List Data) → IsCounted (sum_by size) (each read path i ds)
unfolding each
each_counted read size one path i [] n few = (omega arith, few)
each_counted {X} read size one path i (d ∷ ds) n few =
    let Whole : List X × ℕ → Type 0 = λ x. Rises n (sum_by size x.0) x.1 in
    then_known (λ (x : X × ℕ). Rises n (size x.0) x.1) Whole (read (item_step path i) d n) _ (one (item_step path i) d n few) (λ x h.
    then_known (λ (xs : List X × ℕ). Rises x.1 (sum_by size xs.0) xs.1) Whole (each read path (i + 1) ds x.1) _ (each_counted read size one path (i + 1) ds x.1 h.1) (λ xs k.
    (omega (arith, h.0, k.0, sum_by-cons size x.0 xs.0), k.1)))

items_counted : {X : Type 0} (most : ℕ) (read : Reader X) (size : X → ℕ) → ((path : List ℕ) (d : Data) → IsCounted size (read path d)) → (path : List ℕ) (d : Data) → IsCounted (sum_by size) (items most read path d)
items_counted most read size one path d = plainly (list_of path most d) (each read path 0) (sum_by size) (each_counted read size one path 0)

-- how much there is in a list that may be missing
abbrev in_maybe : {X : Type 0} → (X → ℕ) → Option (List X) → ℕ
in_maybe size o = sum_by size (unwrap_or o [])

-- what is read where it is there
there_counted : {X : Type 0} (read : Data → Reading (List X)) (size : X → ℕ) → ((d : Data) → IsCounted (sum_by size) (read d)) → (o : Option Data) → IsCounted (in_maybe size) (if_there read o)
there_counted read size one None = λ n few. (omega arith, few)
there_counted {X} read size one (Some d) = handed (read d) (λ (xs : List X). Some xs) (sum_by size) (in_maybe size) (λ xs. refl) (one d)

-- the items of a field that may be missing
none_counted : {X : Type 0} (name : List ℕ) (read : Reader X) (size : X → ℕ) → ((path : List ℕ) (d : Data) → IsCounted size (read path d)) → (path : List ℕ) (d : Data) → IsCounted (sum_by size) (items_or_none name read path d)
none_counted {X} name read size one path d =
    handed (plain (optional_of path name d) >>= if_there (items 4096 read (name_step path name))) (λ (o : Option (List X)). unwrap_or o []) (in_maybe size) (sum_by size) (λ o. refl)
    (plainly (optional_of path name d) (if_there (items 4096 read (name_step path name))) (in_maybe size) (there_counted (items 4096 read (name_step path name)) size (items_counted 4096 read size one (name_step path name))))

-- one more type entry
begun_counted : (path : List ℕ) → IsCounted {X = ⊤} (λ _. 1) (entry_begun path)
unfolding entry_begun
begun_counted path n few =
    elim (nat_lt n 4096) as (λ (b : Bool). nat_lt n 4096 ≡ b → IfOk {E = ShapeError} (cond b (Ok (tt, n + 1)) (Err (fault 5 path))) (λ (x : ⊤ × ℕ). Rises n 1 x.1)) [
      | true ↦ (λ is. (refl, omega (arith, ltb-true n 4096 is)))
      | false ↦ (λ is. tt)
    ] refl

-- how many type entries a method has
abbrev type_count : Method → ℕ
type_count m = length m.types

module _ (table : Table) (keys : Keys) where
  entry_counted : (path : List ℕ) (d : Data) → IsCounted (λ (e : TypeEntry). 1) (entry_of table keys path d)
  unfolding entry_of
  entry_counted path d n few =
      let Whole : TypeEntry × ℕ → Type 0 = λ x. Rises n 1 x.1 in
      then_known (λ (x : ⊤ × ℕ). Rises n 1 x.1) Whole (entry_begun path n) _ (begun_counted path n few) (λ x h.
      then_any Whole (entry_in table keys path d) (λ e. Ok (e, x.1)) (λ e. h))

  method_counted : (path : List ℕ) (d : Data) → IsCounted type_count (method_of table keys path d)
  unfolding method_of
  method_counted path d =
      plainly (fields.within_field (codes "payment_method") (variant_of table keys.method) path d) _ type_count (λ method.
      handed (items_or_none (codes "payment_method_types") (entry_of table keys) path d) (λ (types : List TypeEntry). record { method = method; types = types }) (sum_by (λ (e : TypeEntry). 1)) type_count (λ types. omega (arith, sum_same {X = TypeEntry} 1 types))
      (none_counted (codes "payment_method_types") (entry_of table keys) (λ (e : TypeEntry). 1) entry_counted path d))

  connector_counted : (path : List ℕ) (d : Data) → IsCounted entry_count (connector_of table keys path d)
  unfolding connector_of
  connector_counted path d =
      plainly (fields.within_field (codes "connector_name") text_of path d) _ entry_count (λ name.
      plainly (fields.within_optional (codes "merchant_connector_id") text_of path d) _ entry_count (λ id.
      plainly (field_or false (codes "disabled") flag_of path d) _ entry_count (λ disabled.
      handed (items_or_none (codes "payment_methods_enabled") (method_of table keys) path d) (λ (methods : List Method). record { name = name; id = id; disabled = disabled; methods = methods }) (sum_by type_count) entry_count (λ methods. refl)
      (none_counted (codes "payment_methods_enabled") (method_of table keys) type_count method_counted path d))))

-- What is read has at most as many type entries as there may be.
pub read_few : (table : Table) (bytes : List ℕ) → IfOk (settings_or_fault table bytes) (λ s. sum_by entry_count s.connectors ≤ 4096)
read_few table bytes =
    let read = connector_of table (keys_of table) in
    let P : Settings × ℕ → Type 0 = λ x. sum_by entry_count x.0.connectors ≤ 4096 in
    then_any _ (json_of bytes) _ (λ d.
    then_known P _ (settings_in table d 0) _
    (then_known (λ (x : List Connector × ℕ). Rises 0 (sum_by entry_count x.0) x.1) P (items 256 read [] d 0) _ (items_counted 256 read entry_count (connector_counted table (keys_of table)) [] d 0 (omega arith)) (λ x h. omega (arith, h.0, h.1)))
    (λ x h. h))
